use Rattle.std.proofs.Common.{◌≡◌, ◌↔◌, ◌∙◌, ap, ℕ, Contains, rules}
use Rattle.walrus_functions.specs.FunctionWithArgs.{FunctionWithArgs}
use Rattle.walrus_passes.specs.UsedTypes.{IsInBody}
use Rattle.walrus_passes.specs.Steps.UsedTypes.{function_types}
use Rattle.walrus_passes.proofs.UsedTypes.{uses_listed}
use Rattle.walrus_passes.proofs.roots.used_types.Goals as goal

pub returns-clause-types : goal.returns-clause-types
returns-clause-types c =
    let locals = c.args.locals.now in
    let f = c.args.func.now in
    let seqs = c.in-Some.seqs.items in
    let args : c.as_slice.result.now ≡ f.args = c.as_slice.ensures.value
    ∙ ap (λ (g : FunctionWithArgs). g.args) c.func.view_is in
    let listed : c.into_vec.result.items ≡ function_types locals f seqs = search (rules, args) in
    let reached : (id : ℕ) → Contains seqs id ↔ IsInBody f.body id =
    rw c.in-Some.is at c.in_ok-seqs.ensures.reached in
    uses_listed locals f seqs c.into_vec.result.items reached listed
