-- Custom sections with other indices of types.
use Rattle.std.proofs.Common.{◌≡◌, ℕ, Bool, true, false, not, List, [], ◌++◌, length, refl, sym, ap, subst, ◌∙◌, append_assoc, append-nil}
use Rattle.std.specs.Bool.{Decides}
use Rattle.std.specs.Str.{bytes_eq}
use Rattle.std.proofs.lemmas.Slice.Eq.{bytes_eq-Decides}
use Rattle.wasm_binary.specs.Leb128.{IsU32}
use Rattle.wasm_module.specs.declared.renaming.Widths.{Widths}
use Rattle.wasm_module.specs.Changes.{Changes, IsMalformed}
use Rattle.wasm_module.specs.NameSections.{RenamesSubsection, IsSubsection, AreSubsections, name_bytes, RenamesCustom, name_section, unread, other, FirstSubsectionIn, in_subsection}
use Rattle.wasm_module.specs.Steps.NameSections.{BeginsNone, IsAny, TakesSized, BeginsUnsized, BeginsSubsectionIn, begins}
use Rattle.wasm_module.specs.Steps.Changes.{IsChangedUpTo}
use Rattle.wasm_module.specs.Renaming.{NewIndices}
use Rattle.wasm_module.proofs.SizedContents.{same_content}
use Rattle.wasm_module.proofs.Changing.{changed_none}
use Rattle.wasm_module.proofs.TreesOfNames.{renamed_read}
use Rattle.wasm_module.proofs.Subsections.{next_subsection}

-- ---- their names

same_by : (b : Bool) {P : Type 0} → Decides b P → false ≡ not b → P
same_by true d e = d.0 refl
same_by false d e = absurd cc

other_by : (b : Bool) {P : Type 0} → Decides b P → true ≡ not b → P → ⊥
other_by true d e p = absurd cc
other_by false d e p = let k = d.1 p in absurd cc

pub same_bytes : (a b : List ℕ) → false ≡ not (bytes_eq a b) → a ≡ b
same_bytes a b e = same_by (bytes_eq a b) (bytes_eq-Decides a b) e

pub other_bytes : (a b : List ℕ) → true ≡ not (bytes_eq a b) → a ≡ b → ⊥
other_bytes a b e = other_by (bytes_eq a b) (bytes_eq-Decides a b) e

-- ---- their subsections

-- the content is a name section whose subsections become others up to `rest`
pub record IsSectionUpTo (new_indices : NewIndices) (widths : Widths) (content unwritten rest out : List ℕ) :
    Type 0 where
  pub size : List ℕ
  pub is_size : IsU32 size (length name_bytes)
  pub count : ℕ
  pub so_far : IsChangedUpTo (RenamesSubsection new_indices widths) count (size ++ name_bytes) content rest
      unwritten out

pub section_begun : (new_indices : NewIndices) (widths : Widths) (content rest out : List ℕ) →
    TakesSized name_bytes content rest → out ≡ [] → IsSectionUpTo new_indices widths content content rest out
section_begun new_indices widths content rest out t o =
    record {
      size = t.size;
      is_size = t.is_size;
      count = 0;
      so_far = changed_none (RenamesSubsection new_indices widths) (t.size ++ name_bytes) content rest out
          (t.parts ∙ sym (append_assoc t.size name_bytes rest)) o;
    }

-- ---- what the whole says

whole_again : (size content rest texts : List ℕ) → rest ≡ [] →
    content ≡ (size ++ name_bytes) ++ (texts ++ rest) → content ≡ size ++ (name_bytes ++ texts)
whole_again size content rest texts e p =
    p ∙ ap (λ (u : List ℕ). (size ++ name_bytes) ++ (texts ++ u)) e
    ∙ ap (λ (u : List ℕ). (size ++ name_bytes) ++ u) (append-nil texts) ∙ append_assoc size name_bytes texts

section_is : (new_indices : NewIndices) (widths : Widths) (content unwritten rest out : List ℕ) →
    (s : IsSectionUpTo new_indices widths content unwritten rest out) → rest ≡ [] →
    RenamesCustom new_indices widths content (s.size ++ (name_bytes ++ s.so_far.new)) s.so_far.names
section_is new_indices widths content unwritten rest out s e =
    let u = s.so_far in
    subst (λ (x : List ℕ). RenamesCustom new_indices widths x (s.size ++ (name_bytes ++ u.new)) u.names)
    (sym (whole_again s.size content rest u.texts e u.parts))
    (name_section s.count s.size u.texts u.new u.names s.is_size u.so_far)

pub section_stays : (new_indices : NewIndices) (widths : Widths) (content unwritten rest out : List ℕ) →
    IsSectionUpTo new_indices widths content unwritten rest out → rest ≡ [] → out ≡ [] →
    RenamesCustom new_indices widths content content []
section_stays new_indices widths content unwritten rest out s e o =
    let u = s.so_far in
    let passed-is : u.passed ≡ content = sym (append-nil u.passed)
    ∙ ap (λ (x : List ℕ). u.passed ++ x) (sym e) ∙ sym u.not_written ∙ u.untouched o in
    let new-is : s.size ++ (name_bytes ++ u.new) ≡ content = sym (append_assoc s.size name_bytes u.new)
    ∙ u.written ∙ ap (λ (x : List ℕ). x ++ u.passed) o ∙ passed-is in
    subst (λ (x : List ℕ). RenamesCustom new_indices widths content x []) new-is
    (subst (λ (x : List ℕ). RenamesCustom new_indices widths content (s.size ++ (name_bytes ++ u.new)) x)
    (u.nameless o) (section_is new_indices widths content unwritten rest out s e))

pub section_changes : (new_indices : NewIndices) (widths : Widths)
    (content unwritten rest out final : List ℕ) →
    IsSectionUpTo new_indices widths content unwritten rest out → rest ≡ [] → (out ≡ [] → ⊥) →
    final ≡ out ++ unwritten → Changes (RenamesCustom new_indices widths) content final
section_changes new_indices widths content unwritten rest out final s e some f =
    let u = s.so_far in
    let unwritten-is : unwritten ≡ u.passed = u.not_written ∙ ap (λ (x : List ℕ). u.passed ++ x) e
    ∙ append-nil u.passed in
    let new-is : s.size ++ (name_bytes ++ u.new) ≡ final = sym (append_assoc s.size name_bytes u.new)
    ∙ u.written ∙ ap (λ (x : List ℕ). out ++ x) (sym unwritten-is) ∙ sym f in
    record {
      names = u.names;
      becomes = subst (λ (x : List ℕ). RenamesCustom new_indices widths content x u.names) new-is
          (section_is new_indices widths content unwritten rest out s e);
      is_naming = λ h. some (u.naming h);
    }

pub section_first : (new_indices : NewIndices) (widths : Widths) (F : ℕ → List ℕ → Type 0)
    (content unwritten rest out : List ℕ) → IsSectionUpTo new_indices widths content unwritten rest out →
    BeginsSubsectionIn F rest → FirstSubsectionIn new_indices widths F content
section_first new_indices widths F content unwritten rest out s b =
    let u = s.so_far in
    subst (λ (x : List ℕ). FirstSubsectionIn new_indices widths F x)
    (sym (u.parts ∙ append_assoc s.size name_bytes (u.texts ++ rest))) (first rest b)
  where
    first : (rest : List ℕ) → BeginsSubsectionIn F rest →
        FirstSubsectionIn new_indices widths F (s.size ++ (name_bytes ++ (s.so_far.texts ++ rest)))
    first _ (begins id behind i) =
        in_subsection s.count s.size s.so_far.texts behind s.so_far.new s.so_far.names id s.is_size
        s.so_far.so_far i

-- ---- what stays

named : (new_indices : NewIndices) (widths : Widths) (content new names : List ℕ) →
    RenamesCustom new_indices widths content new names →
    (name : List ℕ) × (follows : List ℕ) × TakesSized name content follows
named new_indices widths _ _ _ (name_section count size texts new names h c) =
    (name_bytes, texts, record { size = size; is_size = h; parts = refl })
named new_indices widths _ _ _ (unread size texts h c) =
    (name_bytes, texts, record { size = size; is_size = h; parts = refl })
named new_indices widths _ _ _ (other size bytes follows h not_name) =
    (bytes, follows, record { size = size; is_size = h; parts = refl })

pub custom_nameless : (content : List ℕ) → BeginsUnsized content → IsMalformed RenamesCustom content
custom_nameless content h new_indices widths new names r =
    let n = named new_indices widths content new names r in h n.0 n.1 n.2

pub custom_other : (new_indices : NewIndices) (widths : Widths) (content name rest : List ℕ) →
    TakesSized name content rest → (name ≡ name_bytes → ⊥) →
    RenamesCustom new_indices widths content content []
custom_other new_indices widths content name rest t e =
    subst (λ (u : List ℕ). RenamesCustom new_indices widths u u []) (sym t.parts)
    (other t.size name rest t.is_size e)

-- the same name in another form
pub as_name : (name content rest : List ℕ) → TakesSized name content rest → name ≡ name_bytes →
    TakesSized name_bytes content rest
as_name name content rest t e = subst (λ (u : List ℕ). TakesSized u content rest) e t

pub custom_unread : (new_indices : NewIndices) (widths : Widths) (content rest : List ℕ) →
    TakesSized name_bytes content rest → ¬ (AreSubsections (length new_indices) rest) →
    RenamesCustom new_indices widths content content []
custom_unread new_indices widths content rest t h =
    subst (λ (u : List ℕ). RenamesCustom new_indices widths u u []) (sym t.parts)
    (unread t.size rest t.is_size h)

pub section_unread : (new_indices : NewIndices) (widths : Widths)
    (content subsections unwritten rest out : List ℕ) →
    IsSectionUpTo new_indices widths content unwritten rest out → TakesSized name_bytes content subsections →
    (rest ≡ [] → ⊥) → BeginsNone (IsAny (IsSubsection (length new_indices))) rest →
    ¬ (AreSubsections (length new_indices) subsections)
section_unread new_indices widths content subsections unwritten rest out s t some h a =
    let u = s.so_far in
    let it : TakesSized name_bytes content (u.texts ++ rest) = record {
      size = s.size;
      is_size = s.is_size;
      parts = u.parts ∙ append_assoc s.size name_bytes (u.texts ++ rest);
    } in
    let same = same_content content name_bytes (u.texts ++ rest) name_bytes subsections it t in
    let r = renamed_read new_indices widths s.count u.texts u.new u.names u.so_far in
    let k = next_subsection (length new_indices) u.texts r.ids subsections a.ids rest r.are a.are same.1 some in
    h k.0 k.1
