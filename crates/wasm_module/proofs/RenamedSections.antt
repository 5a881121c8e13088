-- One section that is written again.
use Rattle.std.proofs.Common.{◌≡◌, ℕ, ◌-◌, ◌≤◌, ◌^◌, List, [], ◌∷◌, ◌++◌, length, Option, None, refl, sym, ap, subst, ◌∙◌, arith, append_assoc, append-nil, length-append}
use Rattle.std.specs.Prelude.{IfNone}
use Rattle.wasm_binary.specs.Leb128.{IsU32}
use Rattle.wasm_binary.specs.Modules.{Section, section, IsSection, sized}
use Rattle.wasm_module.specs.declared.renaming.Widths.{Widths}
use Rattle.wasm_module.specs.Changes.{TurnsInto, Changes, stays, resized, BecomesTooLong, InSized, in_content}
use Rattle.wasm_module.specs.RenamedModules.{RenamesAny, RenamesSection, InContent, in_section, PartBecomesTooLong, SectionBecomesTooLong}
use Rattle.wasm_module.specs.RenamedModules.RenamesSection.{type_section, other}
use Rattle.wasm_module.specs.RenamedModules.SectionBecomesTooLong.{type_section as long_types, whole as long_whole, part as long_part}
use Rattle.wasm_module.specs.Renaming.{NewIndices, least_width, IsTextOf}
use Rattle.wasm_module.specs.Steps.RenamedModules.{IsWhole, IsSectionOf}
use Rattle.wasm_module.specs.Steps.Renaming.{Appends}
use Rattle.wasm_module.specs.Steps.Changes.{IsSized}
use Rattle.wasm_module.proofs.ChangedCode.{least_fits, too_long}
use Rattle.wasm_module.proofs.Searching.{integer_short}

-- ---- contents by id

pub none_is : {A : Type 0} (o : Option A) (P : Type 0) → o ≡ None → IfNone o P → P
none_is o P e h = subst (λ (u : Option _). IfNone u P) e h

-- ---- the text of a section

pub record Whole (text : List ℕ) (s : Section) : Type 0 where
  pub size : List ℕ
  pub is_size : IsU32 size (length s.content)
  pub parts : text ≡ s.id ∷ (size ++ s.content)

pub whole : (text : List ℕ) (s : Section) → IsSection text s → Whole text s
whole _ _ (sized id size content h) = record { size = size; is_size = h; parts = refl }

abbrev pub size_width : List ℕ → List ℕ → ℕ
size_width text content = length text - length content - 1

width_is : (text : List ℕ) (s : Section) (k : Whole text s) → size_width text s.content ≡ length k.size
width_is text s k =
    let long : length text ≡ length (s.id ∷ (k.size ++ s.content)) = ap (λ (u : List ℕ). length u) k.parts in
    omega (arith, long, length-append k.size s.content)

pub least_short : (text : List ℕ) (id : ℕ) (content : List ℕ) (w : Widths) (least : ℕ) →
    IsWhole text id content → least ≡ least_width w (size_width text content) → least ≤ 5
least_short text id content w least h e =
    let k = whole text (section id content) h in
    let short = integer_short 0x80 k.size (length content) k.is_size in
    let fits = least_fits w (size_width text content) (omega (
      arith,
      short,
      width_is text (section id content)
          k,
    )) in
    omega (arith, e, fits)

-- ---- what is written of it

pub section_pushed : (least id : ℕ) (content old mid new : List ℕ) → mid ≡ old ++ id ∷ [] →
    Appends (λ t. IsSized least content t) mid new → Appends (λ t. IsSectionOf least t id content) old new
section_pushed least id content old mid new e a =
    record {
      text = id ∷ a.text;
      is_text =
          record {
            size = a.is_text.size;
            is_size = a.is_text.is_size;
            parts = ap (λ (u : List ℕ). id ∷ u) a.is_text.parts;
          };
      parts = a.parts ∙ ap (λ (u : List ℕ). u ++ a.text) e ∙ append_assoc old (id ∷ []) a.text;
    }

pub types_written : (types : List ℕ) (new_indices : NewIndices) (w : Widths) (text : List ℕ) (id : ℕ)
    (content old new : List ℕ) → IsWhole text id content → id ≡ 1
    → Appends (λ t. IsSectionOf 0 t 1 types) old new
    → Appends (λ t. TurnsInto (RenamesSection types new_indices w) text t) old new
types_written types new_indices w text id content old new h e a =
    let k = whole text (section id content) h in
    let parts : text ≡ 1 ∷ (k.size ++ content) = k.parts ∙ ap (λ n. n ∷ (k.size ++ content)) e in
    let r : RenamesSection types new_indices w (1 ∷ (k.size ++ content)) (1 ∷ (a.is_text.size ++ types)) [] =
    type_section k.size content a.is_text.size k.is_size a.is_text.is_size in
    record {
      text = a.text;
      is_text =
          record {
            names = [];
            becomes =
                subst (λ (u : List ℕ). RenamesSection types new_indices w u a.text []) (sym parts)
                (subst (λ (u : List ℕ). RenamesSection types new_indices w (1 ∷ (k.size ++ content)) u [])
                (sym a.is_text.parts) r);
          };
      parts = a.parts;
    }

pub changed_written : (types : List ℕ) (new_indices : NewIndices) (w : Widths) (text : List ℕ) (id : ℕ)
    (content changed old new : List ℕ) (least : ℕ) → IsWhole text id content → (id ≡ 1 → ⊥)
    → Changes (RenamesAny id new_indices w) content changed
    → least ≡ least_width w (size_width text content)
    → Appends (λ t. IsSectionOf least t id changed) old new
    → Appends (λ t. TurnsInto (RenamesSection types new_indices w) text t) old new
changed_written types new_indices w text id content changed old new least h some c e a =
    let k = whole text (section id content) h in
    let size-is : least ≡ least_width w (length k.size) = e
    ∙ ap (least_width w) (width_is text (section id content) k) in
    let is-size : IsTextOf 0x80 (least_width w (length k.size)) a.is_text.size (length changed) =
    subst (λ n. IsTextOf 0x80 n a.is_text.size (length changed)) size-is a.is_text.is_size in
    let r : RenamesSection types new_indices w (id ∷ (k.size ++ content)) (id ∷ (a.is_text.size ++ changed))
    c.names = other id (k.size ++ content) (a.is_text.size ++ changed) c.names some
    (resized k.size content a.is_text.size changed c.names k.is_size c.becomes c.is_naming is-size) in
    record {
      text = a.text;
      is_text =
          record {
            names = c.names;
            becomes =
                subst (λ (u : List ℕ). RenamesSection types new_indices w u a.text c.names) (sym k.parts)
                (subst (λ (u : List ℕ). RenamesSection types new_indices w (id ∷ (k.size ++ content)) u
                c.names) (sym a.is_text.parts) r);
          };
      parts = a.parts;
    }

pub kept_written : (types : List ℕ) (new_indices : NewIndices) (w : Widths) (text : List ℕ) (id : ℕ)
    (content old new : List ℕ) → IsWhole text id content → (id ≡ 1 → ⊥)
    → RenamesAny id new_indices w content content [] → new ≡ old ++ text
    → Appends (λ t. TurnsInto (RenamesSection types new_indices w) text t) old new
kept_written types new_indices w text id content old new h some r e =
    let k = whole text (section id content) h in
    let same : RenamesSection types new_indices w (id ∷ (k.size ++ content)) (id ∷ (k.size ++ content)) [] =
    other id (k.size ++ content) (k.size ++ content) [] some (stays k.size content k.is_size r) in
    record {
      text = text;
      is_text =
          record {
            names = [];
            becomes = subst (λ (u : List ℕ). RenamesSection types new_indices w u u []) (sym k.parts) same;
          };
      parts = e;
    }

-- ---- what is refused

-- a content is in its section, whatever is behind that
pub in_content_of : (F : ℕ → List ℕ → Type 0) (id : ℕ) (size content others : List ℕ) → (id ≡ 1 → ⊥) →
    IsU32 size (length content) → F id content → InContent F ((id ∷ (size ++ content)) ++ others)
in_content_of F id size content others some h f =
    subst (λ (u : List ℕ). InContent F (id ∷ u)) (sym (append_assoc size content others))
    (in_section id (size ++ (content ++ others)) some (in_content size content others h f))

in_text : (F : ℕ → List ℕ → Type 0) (text : List ℕ) (id : ℕ) (content : List ℕ) → IsWhole text id content →
    (id ≡ 1 → ⊥) → F id content → InContent F text
in_text F text id content h some f =
    let k = whole text (section id content) h in
    let same : (id ∷ (k.size ++ content)) ++ [] ≡ text = append-nil (id ∷ (k.size ++ content))
    ∙ sym k.parts in
    subst (λ (u : List ℕ). InContent F u) same (in_content_of F id k.size content [] some k.is_size f)

pub types_too_long : (types : List ℕ) (new_indices : NewIndices) (w : Widths) (text : List ℕ) (id : ℕ)
    (content : List ℕ) →
    IsWhole text id content → id ≡ 1 → 2 ^ 32 ≤ length types → SectionBecomesTooLong types new_indices w text
types_too_long types new_indices w text id content h e long =
    let k = whole text (section id content) h in
    let parts : text ≡ 1 ∷ (k.size ++ content) = k.parts ∙ ap (λ n. n ∷ (k.size ++ content)) e in
    subst (λ (u : List ℕ). SectionBecomesTooLong types new_indices w u) (sym parts)
    (long_types (k.size ++ content) long)

pub part_too_long : (types : List ℕ) (new_indices : NewIndices) (w : Widths) (text : List ℕ) (id : ℕ)
    (content : List ℕ) →
    IsWhole text id content → (id ≡ 1 → ⊥) → PartBecomesTooLong new_indices w id content →
    SectionBecomesTooLong types new_indices w text
part_too_long types new_indices w text id content h some p =
    long_part text (in_text (PartBecomesTooLong new_indices w) text id content h some p)

pub whole_too_long : (types : List ℕ) (new_indices : NewIndices) (w : Widths) (text : List ℕ) (id : ℕ)
    (content changed : List ℕ) → IsWhole text id content → (id ≡ 1 → ⊥)
    → Changes (RenamesAny id new_indices w) content changed → 2 ^ 32 ≤ length changed
    → SectionBecomesTooLong types new_indices w text
whole_too_long types new_indices w text id content changed h some c long =
    long_whole text
    (in_text (λ k. BecomesTooLong (RenamesAny k new_indices w)) text id content h some
    (too_long (RenamesAny id new_indices w) content changed c long))

sized_longer : (F : List ℕ → Type 0) (text others : List ℕ) → InSized F text → InSized F (text ++ others)
sized_longer F _ others (in_content size content rest h f) =
    rw (append_assoc size (content ++ rest) others, append_assoc content rest others)
    (in_content size content (rest ++ others) h f)

in_longer : (F : ℕ → List ℕ → Type 0) (text others : List ℕ) → InContent F text →
    InContent F (text ++ others)
in_longer F _ others (in_section id bytes some h) =
    in_section id (bytes ++ others) some (sized_longer (F id) bytes others h)

pub too_long_longer : (types : List ℕ) (new_indices : NewIndices) (w : Widths) (text others : List ℕ) →
    SectionBecomesTooLong types new_indices w text
    → SectionBecomesTooLong types new_indices w (text ++ others)
too_long_longer types new_indices w _ others (long_types bytes long) = long_types (bytes ++ others) long
too_long_longer types new_indices w _ others (long_whole text h) =
    long_whole (text ++ others)
    (in_longer (λ id. BecomesTooLong (RenamesAny id new_indices w)) text others h)
too_long_longer types new_indices w _ others (long_part text h) =
    long_part (text ++ others) (in_longer (PartBecomesTooLong new_indices w) text others h)
