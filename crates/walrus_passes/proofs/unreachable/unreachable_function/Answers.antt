use Rattle.std.proofs.lemmas.Result.{IfOk-weaker}
use Rattle.walrus_types.specs.Table.{signature_at}
use Rattle.std.proofs.Common.{length}
use Rattle.walrus_passes.proofs.Calling.{args_are}
use Rattle.walrus_passes.proofs.unreachable.unreachable_function.Goals as goal

pub returns-clause-args : goal.returns-clause-args
returns-clause-args c =
    let args = c.in_ok-args.args.items in
    IfOk-weaker c.unreachable_with.result _ _ (λ function is.
    args_are (signature_at c.args.types.now c.args.ty) (length c.args.locals.now) c.params.result.now
    function.args args c.params.ensures is c.in_ok-args.ensures.ids) c.unreachable_with.ensures.args
