-- The sections before the one that breaks the framing of bytes.
use Rattle.std.proofs.Common.{◌≡◌, ℕ, suc, ◌+◌, ◌<◌, inl, inr, List, ◌∷◌, ◌++◌, length, take, drop, sym, ap, subst, ◌∙◌, arith, length-drop, take-append-drop, length-take-le, take_all, take-take}
use Rattle.std.proofs.lemmas.Bool.{cases_lt}
use Rattle.std.specs.Prelude.{IfSome}
use Rattle.wasm_binary.specs.Faults.{error_offset}
use Rattle.wasm_binary.specs.Modules.{Section, IsModule, IsNoModule, BeginsNoModule}
use Rattle.wasm_binary.specs.Sections.{IsSectionHead, NoneEndsBetween}
use Rattle.wasm_binary.specs.declared.error.DecodeError.{DecodeError}
use Rattle.wasm_binary.specs.declared.error.DecodeError.TheVariants as decode
use Rattle.wasm_binary.specs.declared.error.Expected.{Expected}
use Rattle.wasmnorm.specs.Judged.{BreaksBehind}

-- the bytes before a section, and the section
parts_at : (bytes : List ℕ) (k id : ℕ) (head : IsSectionHead id (drop k bytes)) →
    bytes ≡ take k bytes ++ id ∷ head.0
parts_at bytes k id head =
    sym (take-append-drop k bytes) ∙ ap (λ (u : List ℕ). take k bytes ++ u) head.1

-- a section that begins there is behind as many bytes
long_at : (bytes : List ℕ) (k id : ℕ) → IsSectionHead id (drop k bytes) → length (take k bytes) ≡ k
long_at bytes k id head =
    let some : length (drop k bytes) ≡ suc (length head.0) = ap (λ (u : List ℕ). length u) head.1 in
    length-take-le k bytes (omega (arith, some, length-drop k bytes))

-- with the byte at the place no module goes on
abbrev IsStuckAt : List ℕ → ℕ → Type 0
IsStuckAt bytes place = place < length bytes → BeginsNoModule (take (place + 1) bytes)

-- where none goes on behind a place, no longer part of the bytes is a module
none_longer :
    (bytes : List ℕ) (place end : ℕ) → IsNoModule bytes → IsStuckAt bytes place → place < end
    → IsNoModule (take end bytes)
none_longer bytes place end none stuck behind =
    elim (cases_lt place (length bytes)) [
      | inl lt ↦
          let more : List ℕ = drop (place + 1) (take end bytes) in
          let is : take (place + 1) bytes ++ more ≡ take end bytes =
          ap (λ (u : List ℕ). u ++ more) (sym (take-take (place + 1) end bytes (omega (arith, behind))))
          ∙ take-append-drop (place + 1) (take end bytes) in
          subst IsNoModule is (stuck lt more)
      | inr le ↦ subst IsNoModule (sym (take_all end bytes (omega (arith, le, behind)))) none
    ]

-- where the framing of the bytes breaks at a place, it is the section around it that breaks it
pub breaks_behind :
    (bytes prefix : List ℕ) (e : DecodeError) (k place id : ℕ) (wanted : Expected) → prefix ≡ take k bytes
    → ((sections : List Section) × IsModule (take k bytes) sections)
    → NoneEndsBetween k place bytes → IsSectionHead id (drop k bytes) → IsNoModule bytes
    → e ≡ decode.Malformed place wanted → IfSome (error_offset e) (IsStuckAt bytes)
    → BreaksBehind prefix bytes
breaks_behind bytes prefix e k place id wanted is before between head none what stuck =
    subst (λ (u : List ℕ). BreaksBehind u bytes) (sym is)
    (record {
      sections = before.0;
      is_module = before.1;
      id = id;
      rest = head.0;
      parts = parts_at bytes k id head;
      longest = λ end behind.
          let long = long_at bytes k id head in
          let stuck-there = subst (λ (x : DecodeError). IfSome (error_offset x) (IsStuckAt bytes)) what
          stuck in
          elim (cases_lt place end) [
            | inl lt ↦ none_longer bytes place end none stuck-there lt
            | inr le ↦ between end (omega (arith, long, behind)) (omega (arith, le))
          ];
    })
