-- Code sections with other indices of types.
use Rattle.std.proofs.Common.{◌≡◌, ℕ, suc, ◌+◌, ◌-◌, ◌≤◌, ◌^◌, List, [], ◌∷◌, ◌++◌, length, take, drop, Ok, refl, sym, ap, subst, ◌∙◌, arith, append_assoc, length-append, take-append-drop, length-take-le}
use Rattle.std.specs.List.{concat}
use Rattle.wasm_binary.specs.Leb128.{IsU32}
use Rattle.wasm_binary.specs.Grammar.{AreItems}
use Rattle.wasm_binary.specs.Grammar.IsVec.{counted as counted_items}
use Rattle.wasm_binary.specs.Grammar.AreItems.{none as no_items, next as next_item}
use Rattle.wasm_binary.specs.Steps.Reading.{u32_at}
use Rattle.wasm_binary.proofs.Integers.{u32_sound}
use Rattle.wasm_module.specs.declared.renaming.Widths.{Widths}
use Rattle.wasm_module.specs.declared.renaming.Widths.TheVariants as widths
use Rattle.wasm_module.specs.Changes.{Change, Changes, ChangesSized, stays, resized, ChangeAll, none, next, BecomesTooLong, InSized, in_content, FirstIn}
use Rattle.wasm_module.specs.NamedTypes.{IsSizedBody, sized, IsCode}
use Rattle.wasm_module.specs.RenamedSections.{RenamesBody, RenamesCode, FirstBodyIn}
use Rattle.wasm_module.specs.RenamedSections.RenamesCode.{counted}
use Rattle.wasm_module.specs.RenamedSections.FirstBodyIn.{counted as counted_first}
use Rattle.wasm_module.specs.Renaming.{NewIndices, least_width, IsTextOf}
use Rattle.wasm_module.specs.Steps.Changes.{KeepsPrefix, ChangesPrefix, IsSized}
use Rattle.wasm_module.specs.Steps.Contents.{BeginsWithBodies}
use Rattle.wasm_module.specs.Steps.Renaming.{Appends}
use Rattle.wasm_module.proofs.Changing.{whole_stays, whole_changes, prefix_empty, before}
use Rattle.wasm_module.proofs.Padding.{integer_some}
use Rattle.wasm_module.proofs.Searching.{integer_short}

-- ---- one body

-- a content behind its size, and what is behind it
pub record Cut (bytes content rest size : List ℕ) : Type 0 where
  pub is_size : IsU32 size (length content)
  pub parts : bytes ≡ size ++ (content ++ rest)

pub record CutBehind (bytes content rest after : List ℕ) : Type 0 where
  pub size : List ℕ
  pub cut : Cut bytes content rest size
  pub wide : length size ≡ length bytes - length after
  pub fits : length after ≤ length bytes

module _ {bytes after content rest : List ℕ} {n : ℕ} where
  pub cut_at : u32_at bytes ≡ Ok (n, after) → n ≤ length after → content ≡ take n after → rest ≡ drop n after
      → CutBehind bytes content rest after
  cut_at e fits prefix back =
      let t = u32_sound bytes n after e in
      let long : length content ≡ n = ap (λ (u : List ℕ). length u) prefix ∙ length-take-le n after fits in
      let all : after ≡ content ++ rest = sym (take-append-drop n after)
      ∙ ap (λ (u : List ℕ). u ++ drop n after) (sym prefix) ∙ ap (λ (u : List ℕ). content ++ u) (sym back) in
      let many : length bytes ≡ length t.text + length after = ap (λ (u : List ℕ). length u) t.parts
      ∙ length-append t.text after in
      record {
        size = t.text;
        cut = record {
          is_size = subst (λ (m : ℕ). IsU32 t.text m) (sym long) t.is_text;
          parts = t.parts ∙ ap (λ (u : List ℕ). t.text ++ u) all;
        };
        wide = omega (arith, many);
        fits = omega (arith, many);
      }

pub least_fits : (w : Widths) (n : ℕ) → n ≤ 5 → least_width w n ≤ 5
least_fits widths.Shortest n le = omega arith
least_fits widths.Kept n le = le

module _ {bytes content rest after : List ℕ} (c : CutBehind bytes content rest after) where
  pub size_fits : (w : Widths) → least_width w (length bytes - length after) ≤ 5
  size_fits w =
      least_fits w (length bytes - length after)
      (omega (arith, integer_short 0x80 c.size (length content) c.cut.is_size, c.wide))

  pub sized_stays : (w : Widths) (R : Change) → R content content [] → KeepsPrefix (ChangesSized w R) bytes rest
  sized_stays w R r =
      record {
        text = c.size ++ content;
        parts = c.cut.parts ∙ sym (append_assoc c.size content rest);
        stays = stays c.size content c.cut.is_size r;
      }

  pub sized_changes : (w : Widths) (R : Change) (new old out : List ℕ) → Changes R content new → old ≡ []
      → Appends (IsSized (least_width w (length bytes - length after)) new) old out →
      ChangesPrefix (ChangesSized w R) bytes rest out
  sized_changes w R new old out r nothing a =
      let s = a.is_text in
      let is : out ≡ s.size ++ new = a.parts ∙ ap (λ (u : List ℕ). u ++ a.text) nothing ∙ s.parts in
      let t = subst (λ (n : ℕ). IsTextOf 0x80 (least_width w n) s.size (length new)) (sym c.wide) s.is_size in
      record {
        text = c.size ++ content;
        parts = c.cut.parts ∙ sym (append_assoc c.size content rest);
        changes = record {
          names = r.names;
          becomes = subst (λ (u : List ℕ). ChangesSized w R (c.size ++ content) u r.names) (sym is)
              (resized c.size content s.size new r.names c.cut.is_size r.becomes r.is_naming t);
          is_naming = r.is_naming;
        };
      }

  pub sized_so : (F : List ℕ → Type 0) → F content → InSized F bytes
  sized_so F f =
      subst (λ (u : List ℕ). InSized F u) (sym c.cut.parts) (in_content c.size content rest c.cut.is_size f)

pub too_long : (R : Change) (content new : List ℕ) → Changes R content new → 2 ^ 32 ≤ length new →
    BecomesTooLong R content
too_long R content new c long =
    record { new = new; names = c.names; becomes = c.becomes; long = long }

-- what has a size is not empty
sized_some : (w : Widths) (R : Change) (text new names : List ℕ) → ChangesSized w R text new names →
    (names ≡ [] → ⊥) → new ≡ [] → ⊥
sized_some w R _ _ _ (stays size content h r) some e = some refl
sized_some w R _ _ _ (resized size content new_size new names h r naming t) some e =
    let long = integer_some 0x80 (2 ^ 32) new_size (length new) t.is_text in
    let nothing : length new_size ≡ 0 = ap (λ (u : List ℕ). length u) (prefix_empty new_size new e) in
    omega (arith, long, nothing)

pub changed_some : (w : Widths) (R : Change) (bytes rest new : List ℕ) →
    ChangesPrefix (ChangesSized w R) bytes rest new → new ≡ [] → ⊥
changed_some w R bytes rest new c =
    sized_some w R c.text new c.changes.names c.changes.becomes c.changes.is_naming

-- ---- several bodies

is_sized_body : (new_indices : NewIndices) (w : Widths) (text new names : List ℕ) →
    RenamesBody new_indices w text new names → IsSizedBody text names
is_sized_body new_indices w _ _ _ (stays size content h r) = sized size content [] h r.naming
is_sized_body new_indices w _ _ _ (resized size content new_size new names h r some t) =
    sized size content names h r.naming

record AreBodies (count : ℕ) (text names : List ℕ) : Type 0 where
  bodies : List (List ℕ)
  are : AreItems IsSizedBody text bodies
  many : length bodies ≡ count
  named : names ≡ concat bodies

are_bodies : (new_indices : NewIndices) (w : Widths) (count : ℕ) (text new names : List ℕ) →
    ChangeAll (RenamesBody new_indices w) count text new names → AreBodies count text names
are_bodies new_indices w _ _ _ _ none =
    record { bodies = []; are = no_items; many = refl; named = refl }
are_bodies new_indices w _ _ _ _ (next count text others new new_others names more h hs) =
    let a = are_bodies new_indices w count others new_others more hs in
    record {
      bodies = names ∷ a.bodies;
      are = next_item text others names a.bodies (is_sized_body new_indices w text new names h) a.are;
      many = ap suc a.many;
      named = ap (λ (u : List ℕ). names ++ u) a.named;
    }

pub begins_with : (new_indices : NewIndices) (w : Widths) (count : ℕ) (bytes text rest new names : List ℕ) →
    bytes ≡ text ++ rest → ChangeAll (RenamesBody new_indices w) count text new names →
    BeginsWithBodies count bytes rest names
begins_with new_indices w count bytes text rest new names parts h =
    let a = are_bodies new_indices w count text new names h in
    record { text = text; bodies = a.bodies; parts = parts; are = a.are; many = a.many; named = a.named }

-- ---- the whole section

pub code_stays : (new_indices : NewIndices) (w : Widths) (content : List ℕ) (count : ℕ)
    (after rest : List ℕ) →
    u32_at content ≡ Ok (count, after) → rest ≡ [] →
    KeepsPrefix (ChangeAll (RenamesBody new_indices w) count) after rest →
    RenamesCode new_indices w content content []
code_stays new_indices w content count after rest e nothing s =
    let t = u32_sound content count after e in
    subst (λ (u : List ℕ). RenamesCode new_indices w u u []) (sym t.parts)
    (counted count t.text after after [] t.is_text
    (whole_stays (ChangeAll (RenamesBody new_indices w) count) after rest nothing s))

pub code_changes : (new_indices : NewIndices) (w : Widths) (content : List ℕ) (count : ℕ)
    (after rest new out : List ℕ) → u32_at content ≡ Ok (count, after) → rest ≡ [] →
    ChangesPrefix (ChangeAll (RenamesBody new_indices w) count) after rest new
    → out ≡ take (length content - length after) content ++ new →
    Changes (RenamesCode new_indices w) content out
code_changes new_indices w content count after rest new out e nothing s out-is =
    let t = u32_sound content count after e in
    let c = whole_changes (ChangeAll (RenamesBody new_indices w) count) after rest new nothing s in
    let is : out ≡ t.text ++ new = out-is
    ∙ ap (λ (u : List ℕ). u ++ new) (before content t.text after t.parts) in
    record {
      names = c.names;
      becomes =
          subst (λ (u : List ℕ). RenamesCode new_indices w u out c.names) (sym t.parts)
          (subst (λ (u : List ℕ). RenamesCode new_indices w (t.text ++ after) u c.names) (sym is)
          (counted count t.text after new c.names t.is_text c.becomes));
      is_naming = c.is_naming;
    }

pub code_first : (new_indices : NewIndices) (w : Widths) (F : List ℕ → Type 0) (content : List ℕ) (count : ℕ)
    (after : List ℕ) → u32_at content ≡ Ok (count, after) →
    FirstIn (RenamesBody new_indices w) (InSized F) count after → FirstBodyIn new_indices w F content
code_first new_indices w F content count after e f =
    let t = u32_sound content count after e in
    subst (λ (u : List ℕ). FirstBodyIn new_indices w F u) (sym t.parts)
    (counted_first count t.text after t.is_text f)

pub count_fits : (content : List ℕ) (count : ℕ) (after : List ℕ) → u32_at content ≡ Ok (count, after) →
    length after ≤ length content
count_fits content count after e =
    let t = u32_sound content count after e in
    let many : length content ≡ length t.text + length after = ap (λ (u : List ℕ). length u) t.parts
    ∙ length-append t.text after in
    omega (arith, many)

-- such a content is one, by which types it names
pub is_code : (new_indices : NewIndices) (w : Widths) (content new names : List ℕ) →
    RenamesCode new_indices w content new names → IsCode content names
is_code new_indices w _ _ names (counted bodies count texts new _ h hs) =
    let a = are_bodies new_indices w bodies texts new names hs in
    record {
      bodies = a.bodies;
      are =
          counted_items count texts a.bodies (subst (λ (m : ℕ). IsU32 count m) (sym a.many) h) a.are;
      named = a.named;
    }
