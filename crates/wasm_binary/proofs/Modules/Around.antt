-- What is known of a module after some of its sections, where the others are not judged.
use Rattle.std.proofs.Common.{◌≡◌, ℕ, ◌+◌, ◌-◌, ◌≤◌, List, [], ◌∷◌, ◌++◌, length, take, drop, slice_index_or, Ok, Err, refl, sym, ap, subst, ◌∙◌, arith, append_assoc, append-nil, length-append, take_at}
use Rattle.std.proofs.lemmas.List.{drop-drop, take_all, length-drop}
use Rattle.std.proofs.Math.Seq.{drop-append_seam}
use Rattle.wasm_binary.specs.Modules.{Section, ids, AreInOrder, no_more, header, IsModule, framed}
use Rattle.wasm_binary.specs.Sections.{IsSizeAt}
use Rattle.wasm_binary.specs.Steps.Framing.{HasPassed}
use Rattle.wasm_binary.specs.Steps.Reading.{u32_at}
use Rattle.wasm_binary.specs.declared.error.Fault.{Fault}
use Rattle.wasm_binary.proofs.Basics.{Reading}
use Rattle.wasm_binary.proofs.Integers.{u32_sound, u32_complete}

pub size_there : (bytes rest : List ℕ) (n : ℕ) → u32_at bytes ≡ Ok (n, rest) → IsSizeAt n bytes
size_there bytes rest n e = let t = u32_sound bytes n rest e in (t.text, rest, t.is_text, t.parts)

no_error : (n : ℕ) (rest : List ℕ) (f : Fault) (x : Reading ℕ) → x ≡ Err f → x ≡ Ok (n, rest) → ⊥
no_error n rest f x e h = absurd cc

pub no_size_there : (bytes : List ℕ) (f : Fault) → u32_at bytes ≡ Err f → (n : ℕ) → IsSizeAt n bytes → ⊥
no_size_there bytes f e n t =
    no_error n t.1 f (u32_at bytes) e (ap u32_at t.3 ∙ u32_complete t.0 n t.1 t.2)

-- the bytes before those that are left
abbrev prefix : (bytes rest : List ℕ) (last : ℕ) → HasPassed bytes rest last → List ℕ
prefix bytes rest last p = header ++ p.texts

parts : (bytes rest : List ℕ) (last : ℕ) (p : HasPassed bytes rest last) →
    bytes ≡ prefix bytes rest last p ++ rest
parts bytes rest last p = p.whole ∙ sym (append_assoc header p.texts rest)

seam : (bytes rest : List ℕ) (last : ℕ) (p : HasPassed bytes rest last) →
    length bytes - length rest ≡ length (prefix bytes rest last p)
seam bytes rest last p =
    let long = ap (λ (u : List ℕ). length u) (parts bytes rest last p)
    ∙ length-append (prefix bytes rest last p) rest in
    omega (arith, long)

pub left_passed : (bytes rest : List ℕ) (last : ℕ) → HasPassed bytes rest last →
    drop (length bytes - length rest) bytes ≡ rest
left_passed bytes rest last p =
    ap (λ (u : List ℕ). drop (length bytes - length rest) u) (parts bytes rest last p)
    ∙ (ap (λ k. drop k (prefix bytes rest last p ++ rest)) (seam bytes rest last p)
    ∙ drop-append_seam (prefix bytes rest last p) rest)

pub passed_module : (bytes rest : List ℕ) (last : ℕ) → HasPassed bytes rest last → (sections : List Section)
    × IsModule (take (length bytes - length rest) bytes) sections
passed_module bytes rest last p =
    let ordered : AreInOrder 0 (ids p.before) =
    subst (λ (u : List ℕ). AreInOrder 0 u) (append-nil (ids p.before)) (p.joins [] (no_more last)) in
    let taken : take (length bytes - length rest) bytes ≡ prefix bytes rest last p =
    ap (λ (u : List ℕ). take (length bytes - length rest) u) (parts bytes rest last p)
    ∙ (ap (λ k. take k (prefix bytes rest last p ++ rest)) (seam bytes rest last p)
    ∙ take_at (prefix bytes rest last p) rest (length (prefix bytes rest last p)) refl) in (
      p.before,
      subst (λ (u : List ℕ). IsModule u p.before) (sym taken)
          (framed p.texts p.before p.are ordered),
    )

pub first_there : (bytes : List ℕ) → 1 ≤ length bytes → bytes ≡ slice_index_or bytes 0 0 ∷ drop 1 bytes
first_there [] h = absurd (omega (arith, h))
first_there (b ∷ bytes) h = refl

all_behind : (bytes : List ℕ) → take (length bytes - 1) (drop 1 bytes) ≡ drop 1 bytes
all_behind bytes = take_all (length bytes - 1) (drop 1 bytes) (omega (arith, length-drop 1 bytes))

pub left_behind_id : (bytes rest : List ℕ) (last : ℕ) → HasPassed bytes rest last
    → drop (length bytes - length rest + 1) bytes ≡ take (length rest - 1) (drop 1 rest)
left_behind_id bytes rest last p =
    sym (drop-drop 1 (length bytes - length rest) bytes)
    ∙ (ap (λ (u : List ℕ). drop 1 u) (left_passed bytes rest last p) ∙ sym (all_behind rest))

-- with nothing left, the bytes are a module
pub all_passed : (bytes rest : List ℕ) (last : ℕ) → HasPassed bytes rest last → length rest ≡ 0 →
    (sections : List Section) × IsModule bytes sections
all_passed bytes rest last p empty =
    let m = passed_module bytes rest last p in
    let all = take_all (length bytes - length rest) bytes (omega (arith, empty)) in
    (m.0, subst (λ (u : List ℕ). IsModule u m.0) all m.1)
