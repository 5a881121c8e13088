use Rattle.std.proofs.lemmas.Result.{on_ok_weaker, IfErr-weaker}
use Rattle.walrus_functions.specs.Building.{seq_id, function_of}
use Rattle.walrus_passes.specs.ConvertingAdapters.{both}
use Rattle.walrus_passes.proofs.Conversions.{call-converted, call-failed}
use Rattle.walrus_passes.proofs.converting_adapters.convert_call.Goals as goal

pub returns-clause-ok : goal.returns-clause-ok
returns-clause-ok g c =
    on_ok_weaker c.convert_each-2.result (λ behind. call-converted
    (both (goal.P-step g) c.args.convert_param (goal.R-step g) c.args.convert_result)
    (seq_id c.args.body.now) (seq_id c.convert_each.new.body) (seq_id c.call_and_store.new.body)
    (record { func = c.args.func; params = c.args.params.now; results = c.args.results.now })
    (function_of c.args.body.now) (function_of c.convert_each.new.body)
    (function_of c.call_and_store.new.body) (function_of c.convert_each-2.new.body)
    c.in_ok-convert_each.ensures.ok c.in_ok-convert_each.ensures.same.0
    c.in_ok-call_and_store.ensures.same.0 c.in_ok-call_and_store.ensures.ok behind)
    c.convert_each-2.ensures.ok

pub returns-clause-err : goal.returns-clause-err
returns-clause-err g c =
    IfErr-weaker c.convert_each-2.result _ _ (λ e fails. call-failed
    (both (goal.P-step g) c.args.convert_param (goal.R-step g) c.args.convert_result)
    (seq_id c.args.body.now) (seq_id c.convert_each.new.body) (seq_id c.call_and_store.new.body)
    (record { func = c.args.func; params = c.args.params.now; results = c.args.results.now })
    (function_of c.args.body.now) (function_of c.convert_each.new.body)
    (function_of c.call_and_store.new.body) e c.in_ok-convert_each.ensures.ok
    c.in_ok-convert_each.ensures.same.0 c.in_ok-call_and_store.ensures.same.0
    c.in_ok-call_and_store.ensures.ok fails) c.convert_each-2.ensures.err
