-- A module that was renamed names the new types.
use Rattle.std.proofs.Common.{◌≡◌, ℕ, suc, List, [], ◌∷◌, ◌++◌, length, map, Option, Some, None, refl, sym, ap, subst, ◌∙◌}
use Rattle.std.specs.List.{concat}
use Rattle.std.proofs.lemmas.List.{map-append}
use Rattle.wasm_binary.specs.Grammar.{AreItems, counted}
use Rattle.wasm_binary.specs.Grammar.AreItems.{none as no_items, next as next_item}
use Rattle.wasm_binary.specs.Leb128.{IsU32}
use Rattle.wasm_binary.specs.Modules.{Section, section}
use Rattle.wasm_module.specs.declared.renaming.Widths.{Widths}
use Rattle.wasm_module.specs.Bodies.{body}
use Rattle.wasm_module.specs.Contents.{section_kinds}
use Rattle.wasm_module.specs.Changes.{stays, resized, ChangeAll}
use Rattle.wasm_module.specs.Changes.ChangeAll.{none as no_change, next as next_change}
use Rattle.wasm_module.specs.NamedTypes.{IsSizedBody, IsContent, AreContents, code_id}
use Rattle.wasm_module.specs.NamedTypes.IsSizedBody.{sized as sized_body}
use Rattle.wasm_module.specs.NamedTypes.IsContent.{texts as is_texts, code as is_code, nameless as is_nameless}
use Rattle.wasm_module.specs.NamedTypes.AreContents.{none as no_contents, next as next_content}
use Rattle.wasm_module.specs.RenamedModules.{RenamesAny, RenamesSection, RenamesModule}
use Rattle.wasm_module.specs.RenamedNames.{NamesFollow}
use Rattle.wasm_module.specs.RenamedModules.RenamesAny.{custom, other as other_content}
use Rattle.wasm_module.specs.RenamedModules.RenamesSection.{type_section, other as other_section}
use Rattle.wasm_module.specs.RenamedSections.{RenamesBody, RenamesCode, RenamesContent}
use Rattle.wasm_module.specs.RenamedSections.RenamesCode.{counted as counted_code}
use Rattle.wasm_module.specs.RenamedSections.RenamesContent.{texts as texts_content, code as code_content, nameless}
use Rattle.wasm_module.specs.Renaming.{NewIndices, new_index}
use Rattle.wasm_module.proofs.RenamedModules.{sized_pair, pair}
use Rattle.wasm_module.proofs.ModuleLaws.{pairs, have_same_ids}
use Rattle.wasm_module.proofs.RenamedCode.{names_follow}
use Rattle.wasm_module.proofs.StrippedOnce.{module_of}

module _ (m : NewIndices) (w : Widths) where
  -- the second types are the new ones of the first
  abbrev Follow : List ℕ → List ℕ → Type 0
  Follow names new_names = map (λ k. new_index m k) names ≡ map (λ k. Some k) new_names

  follow_on : (a b x y : List ℕ) → Follow a x → Follow b y → Follow (a ++ b) (x ++ y)
  follow_on a b x y e f =
      map-append (λ k. new_index m k) a b
      ∙ ap (λ (u : List (Option ℕ)). u ++ map (λ k. new_index m k) b) e
      ∙ ap (λ (u : List (Option ℕ)). map (λ k. Some k) x ++ u) f
      ∙ sym (map-append (λ k. Some k) x y)

  -- ---- code

  record SizedBodies (text new : List ℕ) : Type 0 where
    names : List ℕ
    new_names : List ℕ
    before : IsSizedBody text names
    after : IsSizedBody new new_names
    follow : Follow names new_names

  sized_bodies : (text new names : List ℕ) → RenamesBody m w text new names → SizedBodies text new
  sized_bodies _ _ _ (stays size content h r) =
      record {
        names = [];
        new_names = [];
        before = sized_body size content [] h r.naming;
        after = sized_body size content [] h r.naming;
        follow = refl;
      }
  sized_bodies _ _ _ (resized size content new_size new names h r some t) =
      let f = names_follow m w body content new r.renames in
      record {
        names = f.names;
        new_names = f.new_names;
        before = sized_body size content f.names h f.before;
        after = sized_body new_size new f.new_names t.is_text f.after;
        follow = f.mapped;
      }

  record Bodies (count : ℕ) (texts new : List ℕ) : Type 0 where
    bodies : List (List ℕ)
    new_bodies : List (List ℕ)
    before : AreItems IsSizedBody texts bodies
    after : AreItems IsSizedBody new new_bodies
    many : length bodies ≡ count
    as_many : length new_bodies ≡ count
    follow : Follow (concat bodies) (concat new_bodies)

  bodies_follow : (count : ℕ) (texts new names : List ℕ) → ChangeAll (RenamesBody m w) count texts new names →
      Bodies count texts new
  bodies_follow _ _ _ _ no_change =
      record {
        bodies = [];
        new_bodies = [];
        before = no_items;
        after = no_items;
        many = refl;
        as_many = refl;
        follow = refl;
      }
  bodies_follow _ _ _ _ (next_change count text texts new news names more r rs) =
      let b = sized_bodies text new names r in
      let bs = bodies_follow count texts news more rs in
      record {
        bodies = b.names ∷ bs.bodies;
        new_bodies = b.new_names ∷ bs.new_bodies;
        before = next_item text texts b.names bs.bodies b.before bs.before;
        after = next_item new news b.new_names bs.new_bodies b.after bs.after;
        many = ap (λ n. suc n) bs.many;
        as_many = ap (λ n. suc n) bs.as_many;
        follow = follow_on b.names (concat bs.bodies) b.new_names (concat bs.new_bodies) b.follow bs.follow;
      }

  -- ---- contents

  -- both are contents of a section of this id, and the second one names the new types
  record Contents (id : ℕ) (content new : List ℕ) : Type 0 where
    names : List ℕ
    new_names : List ℕ
    before : IsContent id content names
    after : IsContent id new new_names
    follow : Follow names new_names

  code_follows : (content new names : List ℕ) → RenamesCode m w content new names →
      Contents code_id content new
  code_follows _ _ _ (counted_code bodies count texts new names h hs) =
      let b = bodies_follow bodies texts new names hs in
      record {
        names = concat b.bodies;
        new_names = concat b.new_bodies;
        before =
            is_code (count ++ texts) (concat b.bodies)
            (record {
              bodies = b.bodies;
              are = counted count texts b.bodies (subst (λ n. IsU32 count n) (sym b.many) h) b.before;
              named = refl;
            });
        after =
            is_code (count ++ new) (concat b.new_bodies)
            (record {
              bodies = b.new_bodies;
              are = counted count new b.new_bodies (subst (λ n. IsU32 count n) (sym b.as_many) h) b.after;
              named = refl;
            });
        follow = b.follow;
      }

  without_names : (id : ℕ) (content new : List ℕ) → section_kinds id ≡ None → (id ≡ code_id → ⊥) →
      Contents id content new
  without_names id content new nothing fails =
      record {
        names = [];
        new_names = [];
        before = is_nameless id content nothing fails;
        after = is_nameless id new nothing fails;
        follow = refl;
      }

  content_follows : (id : ℕ) (content new names : List ℕ) → RenamesContent id m w content new names →
      Contents id content new
  content_follows id _ _ _ (texts_content kinds content new names e h) =
      let f = names_follow m w kinds content new h.renames in
      record {
        names = f.names;
        new_names = f.new_names;
        before = is_texts id kinds content f.names e f.before;
        after = is_texts id kinds new f.new_names e f.after;
        follow = f.mapped;
      }
  content_follows id _ _ _ (code_content content new names is h) =
      subst (λ n. Contents n content new) (sym is) (code_follows content new names h)
  content_follows id _ _ _ (nameless content nothing fails) = without_names id content content nothing fails

  any_follows : (id : ℕ) (content new names : List ℕ) → RenamesAny id m w content new names →
      Contents id content new
  any_follows id _ _ _ (custom content new names is h) =
      subst (λ n. Contents n content new) (sym is) (without_names 0 content new refl (λ e. absurd cc))
  any_follows id _ _ _ (other_content content new names fails h) = content_follows id content new names h

  -- ---- sections

  section_follows : (types text new names : List ℕ) (r : RenamesSection types m w text new names) →
      let p = pair types m w text new names r in Contents p.id p.content p.new_content
  unfolding pair sized_pair
  section_follows types _ _ _ (type_section size content new_size h t) =
      without_names 1 content types refl (λ e. absurd cc)
  section_follows types _ _ _ (other_section id _ _ _ some (stays size content h r)) =
      any_follows id content content [] r
  section_follows types _ _ _
      (other_section id _ _ _ some (resized size content new_size new names h r naming t)) =
      any_follows id content new names r

  record Sections (sections new_sections : List Section) : Type 0 where
    names : List ℕ
    new_names : List ℕ
    are : AreContents sections names
    new_are : AreContents new_sections new_names
    follow : Follow names new_names

  sections_follow : (types : List ℕ) (count : ℕ) (texts new names : List ℕ)
      (r : ChangeAll (RenamesSection types m w) count texts new names) →
      let p = pairs types m w count texts new names r in Sections p.sections p.new_sections
  unfolding pairs
  sections_follow types _ _ _ _ no_change =
      record { names = []; new_names = []; are = no_contents; new_are = no_contents; follow = refl }
  sections_follow types _ _ _ _ (next_change count text texts new news names more r rs) =
      let p = pair types m w text new names r in
      let ps = pairs types m w count texts news more rs in
      let c = section_follows types text new names r in
      let ss = sections_follow types count texts news more rs in
      record {
        names = c.names ++ ss.names;
        new_names = c.new_names ++ ss.new_names;
        are = next_content (section p.id p.content) ps.sections c.names ss.names c.before ss.are;
        new_are = next_content (section p.id p.new_content) ps.new_sections c.new_names ss.new_names c.after
            ss.new_are;
        follow = follow_on c.names ss.names c.new_names ss.new_names c.follow ss.follow;
      }

  pub module_follows : (types bytes new : List ℕ) → RenamesModule types m w bytes new →
      NamesFollow m bytes new
  module_follows types bytes new r =
      let p = pairs types m w (length r.sections) r.texts r.new_texts r.names r.renames in
      let s = sections_follow types (length r.sections) r.texts r.new_texts r.names r.renames in
      let h = have_same_ids types m w bytes new r in
      record {
        names = s.names;
        new_names = s.new_names;
        before = record {
          sections = p.sections;
          is_module = module_of bytes r.texts r.sections p.sections r.is_module r.parts p.before;
          are = s.are;
        };
        after = record {
          sections = p.new_sections;
          is_module = module_of new r.new_texts h.new_sections p.new_sections h.after r.new_parts p.after;
          are = s.new_are;
        };
        mapped = s.follow;
      }
