-- The first bytes of a name.
use Rattle.std.proofs.Common.{◌≡◌, ◌∙◌, ℕ, List, ◌++◌, length, take, ap, arith, take_at}
use Rattle.std.specs.Prelude.{min}
use Rattle.std.proofs.lemmas.List.{take_min, length-take}

pub first_bytes : (name rest front : List ℕ) (most count : ℕ) → count ≡ min most (length name)
    → front ≡ take count name → take (min most (length name)) (front ++ rest) ≡ take most name
first_bytes name rest front most count is front-is =
    let long : length front ≡ min most (length name) =
    ap (λ (u : List ℕ). length u) front-is ∙ length-take count name ∙ omega (arith, is) in
    take_at front rest (min most (length name)) long
    ∙ (front-is ∙ (ap (λ k. take k name) is ∙ take_min most name))
