use Rattle.std.proofs.lemmas.Result.{IfOk-weaker}
use Rattle.walrus_types.specs.Table.{signature_at}
use Rattle.std.proofs.Common.{length}
use Rattle.walrus_passes.proofs.Calling.{args_are}
use Rattle.walrus_passes.proofs.adapters.adapter.Goals as goal

pub returns-clause-args : goal.returns-clause-args
returns-clause-args c =
    let args = c.in_ok-args.args.items in
    IfOk-weaker c.adapter_with.result _ _ (λ adapter is.
    args_are (signature_at c.args.types.now c.args.ty) (length c.args.locals.now) c.params.result.now
    adapter.args args c.params.ensures is c.in_ok-args.ensures.ids) c.adapter_with.ensures.args
