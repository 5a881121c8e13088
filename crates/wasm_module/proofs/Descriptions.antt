-- Custom sections that describe other bytes, and modules without them.
use Rattle.std.proofs.Common.{◌≡◌, ℕ, ◌+◌, Bool, true, false, List, [], ◌++◌, length, take, drop, sym, subst, ◌∙◌, append_assoc, append-nil}
use Rattle.std.specs.Cmp.Lexicographic.{pointwise}
use Rattle.std.specs.Prelude.{nat_eq}
use Rattle.std.proofs.lemmas.Slice.Eq.{starts_is}
use Rattle.std.proofs.lemmas.Bool.Decides.{Decides-eqb}
use Rattle.wasm_binary.specs.Modules.{Section, IsSection}
use Rattle.wasm_module.specs.Customs.{HasName, IsDescription, IsStrippedSection, left_out, kept, AreStripped, none, next}
use Rattle.wasm_module.specs.Steps.Customs.{BeginsWith}
use Rattle.wasm_module.specs.Steps.NameSections.{TakesSized}
use Rattle.wasm_module.specs.Steps.Renaming.{Appends}
use Rattle.wasm_module.proofs.RenamedModules.{Passing}

-- ---- names

pub begins : (bytes prefix : List ℕ) (r : Bool) → r ≡ pointwise nat_eq prefix (take (length prefix) bytes) →
    r ≡ true → BeginsWith prefix bytes
begins bytes prefix r is holds = (drop (length prefix) bytes, (starts_is Decides-eqb bytes prefix r is).0 holds)

pub does_not_begin : (bytes prefix : List ℕ) (r : Bool) →
    r ≡ pointwise nat_eq prefix (take (length prefix) bytes) → r ≡ false → BeginsWith prefix bytes → ⊥
does_not_begin bytes prefix r is fails b =
    let holds : r ≡ true = (starts_is Decides-eqb bytes prefix r is).1 b.0 b.1 in
    let k : true ≡ false = sym holds ∙ fails in
    cc

-- ---- sections

pub name_taken : (name content : List ℕ) (h : HasName name content) → TakesSized name content h.follows
name_taken name content h = record { size = h.size; is_size = h.is_size; parts = h.parts }

-- ---- modules without such sections

-- sections that are left, or left out
abbrev pub Stripped : Passing
Stripped texts new left = AreStripped texts new

-- one more section behind others
pub stripped_push : (texts new_texts text new : List ℕ) → AreStripped texts new_texts →
    IsStrippedSection text new →
    AreStripped (texts ++ text) (new_texts ++ new)
stripped_push _ _ text new none h =
    subst (λ (u : List ℕ). AreStripped u new) (append-nil text)
    (subst (λ (u : List ℕ). AreStripped (text ++ []) u) (append-nil new) (next text new [] [] h none))
stripped_push _ _ text new (next first new_first texts new_texts k more) h =
    subst (λ (u : List ℕ). AreStripped u ((new_first ++ new_texts) ++ new)) (sym (append_assoc first texts
    text))
    (subst (λ (u : List ℕ). AreStripped (first ++ (texts ++ text)) u)
    (sym (append_assoc new_first new_texts new))
    (next first new_first (texts ++ text) (new_texts ++ new) k (stripped_push texts new_texts text new more
    h)))

pub section_left_out : (text out : List ℕ) (s : Section) → IsSection text s → IsDescription s →
    Appends (IsStrippedSection text) out out
section_left_out text out s h is =
    record { text = []; is_text = left_out text s h is; parts = sym (append-nil out) }

pub section_kept : (text out new_out : List ℕ) (s : Section) → IsSection text s → (IsDescription s → ⊥) →
    new_out ≡ out ++ text → Appends (IsStrippedSection text) out new_out
section_kept text out new_out s h fails e =
    record { text = text; is_text = kept text s h fails; parts = e }
