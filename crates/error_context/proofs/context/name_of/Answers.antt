use Rattle.std.proofs.Common.{ℕ, List, sym, subst}
use Rattle.wasm_binary.specs.CustomSections.{BeginsCustom}
use Rattle.error_context.proofs.context.name_of.Goals as goal

pub returns-in-None-clause-none : goal.returns-in-None-clause-none
returns-in-None-clause-none c =
    λ name begins.
    c.in-None.ensures.none name (subst (λ (u : List ℕ). BeginsCustom name u) (sym c.behind.ensures) begins)
