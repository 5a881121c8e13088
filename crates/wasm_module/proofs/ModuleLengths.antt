-- The sections of a module one by one, up to one that is looked for, and their lengths.
use Rattle.std.proofs.Common.{◌≡◌, ℕ, ◌+◌, ◌-◌, ◌≤◌, List, [], ◌∷◌, ◌++◌, length, Some, None, refl, sym, ap, subst, ◌∙◌, arith, append_assoc, append-nil}
use Rattle.std.specs.List.{All, Contains}
use Rattle.std.proofs.lemmas.List.Elements.{All-nil, All-cons, All-push, All-contains, Contains-append_right}
use Rattle.wasm_binary.specs.Modules.{header}
use Rattle.wasm_module.specs.Customs.{HasSections}
use Rattle.wasm_module.specs.Lengths.{HasContentLengths, HaveLengths, none, next, IsNot, HasContent, present, absent, HasLengthsInCode, in_code, HasLengthsToCodeEnd, to_code_end}
use Rattle.wasm_module.specs.Lengths.HasLengthsToCodeEnd.{no_code as none_to_code_end}
use Rattle.wasm_module.specs.NamedTypes.{code_id}
use Rattle.wasm_module.specs.Sections.{PlacedSection, placed, ArePlaced}
use Rattle.wasm_module.specs.Sections.ArePlaced.{none as nothing, next as placed_next}
use Rattle.wasm_module.specs.Steps.Renaming.{Appends}

-- ---- sections that were passed

-- all sections before the ones that are left are so
pub record Passed (P : PlacedSection → Type 0) (all left : List PlacedSection) : Type 0 where
  pub before : List PlacedSection
  pub parts : all ≡ before ++ left
  pub are : All P before

next_parts : (all old left before : List PlacedSection) (s : PlacedSection) → all ≡ before ++ old →
    old ≡ s ∷ left → all ≡ (before ++ s ∷ []) ++ left
next_parts all old left before s e is =
    e ∙ ap (λ (u : List PlacedSection). before ++ u) is ∙ sym (append_assoc before (s ∷ []) left)

pub one_passed : (P : PlacedSection → Type 0) (all old left : List PlacedSection) (s : PlacedSection) →
    Passed P all old → old ≡ s ∷ left → P s → Passed P all left
one_passed P all old left s p e h =
    record {
      before = p.before ++ s ∷ [];
      parts = next_parts all old left p.before s p.parts e;
      are = All-push P p.before s p.are h;
    }

-- where the section is among all
pub passed_parts : (P : PlacedSection → Type 0) (bytes : List ℕ) (all old left : List PlacedSection)
    (s : PlacedSection) → HasSections bytes all → (p : Passed P all old) → old ≡ s ∷ left →
    HasSections bytes (p.before ++ s ∷ left)
passed_parts P bytes all old left s h p e =
    subst (HasSections bytes) (p.parts ∙ ap (λ (u : List PlacedSection). p.before ++ u) e) h

pub all_passed : (P : PlacedSection → Type 0) (all left : List PlacedSection) → Passed P all left →
    left ≡ [] → All P all
all_passed P all left p e =
    subst (All P)
    (sym (p.parts ∙ ap (λ (u : List PlacedSection). p.before ++ u) e ∙ append-nil p.before)) p.are

-- ---- the content of a section

pub content_found : (id : ℕ) (bytes : List ℕ) (all old left : List PlacedSection) (s : PlacedSection) →
    HasSections bytes all → Passed (IsNot id) all old → old ≡ s ∷ left → s.framed.id ≡ id →
    HasContent id bytes (Some s.framed.content)
content_found id bytes all old left s h p e is =
    present p.before left s (passed_parts (IsNot id) bytes all old left s h p e) p.are is

pub no_content_found : (id : ℕ) (bytes : List ℕ) (all left : List PlacedSection) → HasSections bytes all →
    Passed (IsNot id) all left → left ≡ [] → HasContent id bytes None
no_content_found id bytes all left h p e = absent all h (all_passed (IsNot id) all left p e)

pub code_found : (bytes content old new : List ℕ) → old ≡ [] → HasContent code_id bytes (Some content) →
    Appends (HasContentLengths code_id content) old new → HasLengthsInCode bytes new
code_found bytes content old new e h a =
    in_code content new h
    (subst (λ (u : List ℕ). HasContentLengths code_id content u)
    (sym (a.parts ∙ ap (λ (u : List ℕ). u ++ a.text) e)) a.is_text)

-- ---- lengths

lengths_join : (a b : List PlacedSection) (x y : List ℕ) → HaveLengths a x → HaveLengths b y →
    HaveLengths (a ++ b) (x ++ y)
lengths_join _ b _ y none h = h
lengths_join _ b _ y (next s sections lengths others l ls) h =
    subst (λ (u : List ℕ). HaveLengths (s ∷ (sections ++ b))
    ((s.content_offset - s.offset) ∷ length s.framed.content ∷ u)) (sym (append_assoc lengths others y))
    (next s (sections ++ b) lengths (others ++ y) l (lengths_join sections b others y ls h))

pub section_measured : (s : PlacedSection) (old one two new : List ℕ) →
    one ≡ old ++ (s.content_offset - s.offset) ∷ [] → two ≡ one ++ length s.framed.content ∷ []
    → Appends (HasContentLengths s.framed.id s.framed.content) two new
    → Appends (HaveLengths (s ∷ [])) old new
section_measured s old one two new e h a =
    let k : ℕ = s.content_offset - s.offset in
    let n : ℕ = length s.framed.content in
    record {
      text = k ∷ n ∷ (a.text ++ []);
      is_text = next s [] a.text [] a.is_text none;
      parts = a.parts ∙ ap (λ (u : List ℕ). u ++ a.text) (h ∙ ap (λ (u : List ℕ). u ++ n ∷ []) e)
          ∙ ap (λ (u : List ℕ). u ++ a.text) (append_assoc old (k ∷ []) (n ∷ []))
          ∙ append_assoc old (k ∷ n ∷ []) a.text
          ∙ ap (λ (u : List ℕ). old ++ k ∷ n ∷ u) (sym (append-nil a.text));
    }

-- the sections before the ones that are left are no code, and these are their lengths
pub record MeasuresSections (all left : List PlacedSection) (lengths : List ℕ) : Type 0 where
  pub before : List PlacedSection
  pub parts : all ≡ before ++ left
  pub are : All (IsNot code_id) before
  pub long : HaveLengths before lengths

pub none_measured : (all : List PlacedSection) → MeasuresSections all all []
none_measured all = record { before = []; parts = refl; are = All-nil (IsNot code_id); long = none }

abbrev pub passed : (all left : List PlacedSection) (lengths : List ℕ) → MeasuresSections all left lengths →
    Passed (IsNot code_id) all left
passed all left lengths m = record { before = m.before; parts = m.parts; are = m.are }

measured : (all old left : List PlacedSection) (s : PlacedSection) (lengths new : List ℕ)
    (m : MeasuresSections all old lengths) → Appends (HaveLengths (s ∷ [])) lengths new →
    HaveLengths (m.before ++ s ∷ []) new
measured all old left s lengths new m a =
    subst (λ (u : List ℕ). HaveLengths (m.before ++ s ∷ []) u) (sym a.parts)
    (lengths_join m.before (s ∷ []) lengths a.text m.long a.is_text)

pub one_measured : (all old left : List PlacedSection) (s : PlacedSection) (lengths new : List ℕ) →
    MeasuresSections all old lengths → old ≡ s ∷ left → Appends (HaveLengths (s ∷ [])) lengths new
    → (s.framed.id ≡ code_id → ⊥) → MeasuresSections all left new
one_measured all old left s lengths new m e a other =
    record {
      before = m.before ++ s ∷ [];
      parts = next_parts all old left m.before s m.parts e;
      are = All-push (IsNot code_id) m.before s m.are other;
      long = measured all old left s lengths new m a;
    }

pub code_measured : (bytes : List ℕ) (all old left : List PlacedSection) (s : PlacedSection)
    (lengths new : List ℕ) → HasSections bytes all → MeasuresSections all old lengths → old ≡ s ∷ left
    → Appends (HaveLengths (s ∷ [])) lengths new → s.framed.id ≡ code_id → HasLengthsToCodeEnd bytes new
code_measured bytes all old left s lengths new h m e a is =
    to_code_end m.before left s new
    (passed_parts (IsNot code_id) bytes all old left s h (passed all old lengths m) e) m.are is
    (measured all old left s lengths new m a)

pub no_code_measured : (bytes : List ℕ) (all left : List PlacedSection) (lengths : List ℕ) →
    HasSections bytes all → MeasuresSections all left lengths → left ≡ [] → HasLengthsToCodeEnd bytes []
no_code_measured bytes all left lengths h m e =
    none_to_code_end all h (all_passed (IsNot code_id) all left (passed all left lengths m) e)

-- ---- a size is behind its id

ordered : (offset : ℕ) (bytes : List ℕ) (sections : List PlacedSection) → ArePlaced offset bytes sections →
    All (λ (s : PlacedSection). s.offset ≤ s.content_offset) sections
ordered _ _ _ (nothing offset) = All-nil (λ (s : PlacedSection). s.offset ≤ s.content_offset)
ordered _ _ _ (placed_next offset id size content others sections h hs) =
    All-cons (λ (s : PlacedSection). s.offset ≤ s.content_offset)
    (placed offset (offset + 1 + length size) id content) sections (omega arith)
    (ordered (offset + 1 + length size + length content) others sections hs)

pub section_ordered : (P : PlacedSection → Type 0) (bytes : List ℕ) (all old left : List PlacedSection)
    (s : PlacedSection) → HasSections bytes all → Passed P all old → old ≡ s ∷ left →
    s.offset ≤ s.content_offset
section_ordered P bytes all old left s h p e =
    let k = passed_parts P bytes all old left s h p e in
    let there : Contains (p.before ++ s ∷ left) s = Contains-append_right p.before (s ∷ left) s
    (0, omega arith, refl) in
    All-contains (λ (t : PlacedSection). t.offset ≤ t.content_offset) (p.before ++ s ∷ left) s
    (ordered (length header) _ (p.before ++ s ∷ left) k.places) there
