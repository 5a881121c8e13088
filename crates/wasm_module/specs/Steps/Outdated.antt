-- Kinds of sections for which it is known that they fit.
use Rattle.std.specs.Prelude.{ℕ, List}
use Rattle.std.specs.List.{All}
use Rattle.wasm_module.specs.declared.description_kinds.DescriptionKind.{DescriptionKind}
use Rattle.wasm_module.specs.Outdated.{Stays}

-- what sections of these kinds describe stays
abbrev pub AllStay : List ℕ → List ℕ → List DescriptionKind → Type 0
AllStay bytes new kinds = All (λ k. Stays k bytes new) kinds
