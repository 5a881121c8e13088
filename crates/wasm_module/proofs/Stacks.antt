-- Kinds that go on a stack.
use Rattle.std.proofs.Common.{◌≡◌, ℕ, zero, suc, ◌-◌, ◌<◌, List, [], ◌∷◌, ◌++◌, refl, ap, ◌∙◌, arith}
use Rattle.std.specs.Prelude.{reverse}
use Rattle.std.proofs.lemmas.List.{reverse-append}
use Rattle.wasm_module.specs.declared.kind.Kind.{Kind}
use Rattle.wasm_module.specs.declared.stack.Entry.{Entry}
use Rattle.wasm_module.specs.Immediates.{times}
use Rattle.wasm_module.specs.Steps.Stacks.{kinds_below}

abbrev pub entry : Kind → ℕ → Entry
entry k more = record { kind = k; more = more }

one_less : (n : ℕ) (k : Kind) (others : List Kind) → 0 < n →
    k ∷ (times (n - 1) k ++ others) ≡ times n k ++ others
one_less zero k others some = absurd (omega (arith, some))
one_less (suc n) k others some = let e : suc n - 1 ≡ n = omega arith in rw e refl

-- the kind that was in front goes below
pub put_below : (n : ℕ) (k : Kind) (items new : List Entry) → 0 < n → new ≡ items ++ entry k (n - 1) ∷ [] →
    kinds_below (reverse new) ≡ times n k ++ kinds_below (reverse items)
put_below n k items new some e =
    ap (λ (u : List Entry). kinds_below (reverse u)) e
    ∙ ap (λ (u : List Entry). kinds_below u) (reverse-append items (entry k (n - 1) ∷ []))
    ∙ one_less n k (kinds_below (reverse items)) some
