-- What a module that is written again has in common with the old one.
use Rattle.std.proofs.Common.{◌≡◌, ℕ, List, [], ◌∷◌, ◌++◌, refl, sym, ap, subst, ◌∙◌}
use Rattle.std.proofs.lemmas.List.{append_cancel_left}
use Rattle.wasm_binary.specs.Grammar.{AreItems, none, next}
use Rattle.wasm_binary.specs.Modules.{Section, section, ids, IsSection, sized, AreInOrder, header, IsModule, framed}
use Rattle.wasm_binary.proofs.Modules.Faulting.{module_parts}
use Rattle.wasm_module.specs.declared.renaming.Widths.{Widths}
use Rattle.wasm_module.specs.Changes.{ChangeAll}
use Rattle.wasm_module.specs.Changes.ChangeAll.{none as no_change, next as next_change}
use Rattle.wasm_module.specs.RenamedModules.{RenamesSection, RenamesModule, HaveSameIds}
use Rattle.wasm_module.specs.Renaming.{NewIndices}
use Rattle.wasm_module.proofs.RenamedModules.{pair, same_section}
use Rattle.wasm_module.proofs.RenamedSections.{whole}

-- ---- the sections before and after

pub record ArePairs (texts new : List ℕ) : Type 0 where
  pub sections : List Section
  pub new_sections : List Section
  pub before : AreItems IsSection texts sections
  pub after : AreItems IsSection new new_sections
  pub same : ids new_sections ≡ ids sections

unfoldable pub pairs : (types : List ℕ) (new_indices : NewIndices) (w : Widths) (count : ℕ)
    (texts new names : List ℕ) → ChangeAll (RenamesSection types new_indices w) count texts new names →
    ArePairs texts new
pairs types new_indices w _ _ _ _ no_change =
    record { sections = []; new_sections = []; before = none; after = none; same = refl }
pairs types new_indices w _ _ _ _ (next_change count text others new new_others names more r rs) =
    let p = pair types new_indices w text new names r in
    let ps = pairs types new_indices w count others new_others more rs in
    record {
      sections = section p.id p.content ∷ ps.sections;
      new_sections = section p.id p.new_content ∷ ps.new_sections;
      before = next text others (section p.id p.content) ps.sections p.before ps.before;
      after = next new new_others (section p.id p.new_content) ps.new_sections p.after ps.after;
      same = ap (λ (u : List ℕ). p.id ∷ u) ps.same;
    }

-- ---- the same bytes have one list of ids

pub not_empty : (text others : List ℕ) (s : Section) → IsSection text s → [] ≡ text ++ others → ⊥
not_empty _ others _ (sized id size content h) e = absurd cc

pub same_ids : (x y : List ℕ) (a b : List Section) → AreItems IsSection x a → AreItems IsSection y b → x ≡ y →
    ids a ≡ ids b
same_ids _ _ _ _ none none e = refl
same_ids _ _ _ _ none (next text others s sections h hs) e = absurd (not_empty text others s h e)
same_ids _ _ _ _ (next text others s sections h hs) none e = absurd (not_empty text others s h (sym e))
same_ids _ _ _ _ (next text others s sections h hs) (next whole after t more k ks) e =
    let same = same_section text others whole after s t h k e in
    ap (λ (u : Section). u.id ∷ ids sections) same.0
    ∙ ap (λ (u : List ℕ). t.id ∷ u) (same_ids others after sections more hs ks same.1)

pub have_same_ids : (types : List ℕ) (new_indices : NewIndices) (widths : Widths) (bytes new : List ℕ) →
    RenamesModule types new_indices widths bytes new → HaveSameIds bytes new
have_same_ids types new_indices widths bytes new r =
    let p = pairs types new_indices widths _ r.texts r.new_texts r.names r.renames in
    let m = module_parts bytes r.sections r.is_module in
    let texts-are : m.0 ≡ r.texts = append_cancel_left header m.0 r.texts (sym m.1 ∙ r.parts) in
    let old-are : ids r.sections ≡ ids p.sections = same_ids m.0 r.texts r.sections p.sections m.2.0 p.before
    texts-are in
    let same : ids p.new_sections ≡ ids r.sections = p.same ∙ sym old-are in
    let order : AreInOrder 0 (ids p.new_sections) = subst (λ (u : List ℕ). AreInOrder 0 u) (sym same) m.2.1 in
    record {
      sections = r.sections;
      new_sections = p.new_sections;
      before = r.is_module;
      after =
          subst (λ (u : List ℕ). IsModule u p.new_sections) (sym r.new_parts)
          (framed r.new_texts p.new_sections p.after order);
      same = same;
    }
