use Rattle.std.proofs.Common.{◌∙◌, ap, map, take, ◌++◌, arith}
use Rattle.std.proofs.lemmas.Result.{on_ok_weaker}
use Rattle.ir_instr.specs.declared.instr.Instr.TheVariants.{LocalGet, Call}
use Rattle.walrus_functions.specs.Body.{with_instrs, instrs_of}
use Rattle.walrus_functions.specs.Building.{function_of, seq_id}
use Rattle.walrus_passes.specs.Adapters.{get_of}
use Rattle.walrus_passes.proofs.Calling.{added_is, gets_more, then_call}
use Rattle.walrus_passes.proofs.adapters.add_call.Goals as goal

pub loop-arg-preserved : goal.loop-arg-preserved
loop-arg-preserved c =
    let f = function_of c.args.body.now in
    let id = seq_id c.args.body.now in
    let base = instrs_of f id in
    let args = c.args.args.now in
    let k = c.loop-arg.arg-index in
    let before = c.loop-arg.invariant in
    let after = c.in_ok-local_get.ensures in
    let low = before.known in
    let high = after.known in
    record {
      same = (after.same.0 ∙ before.same.0, after.same.1 ∙ before.same.1);
      known = omega (arith, low, high);
      added = added_is f (function_of c.loop-arg.body) (function_of c.local_get.new.self) id
          (seq_id c.loop-arg.body) (base ++ map get_of (take k args))
          (LocalGet (record { local = c.arg-item.result })) (record {
            known = c.requires;
            before = before.added;
            place = before.same.0;
            added = after.ok;
          }) ∙ ap (with_instrs f id) (gets_more base args k c.arg-item.result c.loop-arg-test.true
          c.arg-item.is);
    }

pub returns-clause-ok : goal.returns-clause-ok
returns-clause-ok c =
    let f = function_of c.args.body.now in
    let id = seq_id c.args.body.now in
    let base = instrs_of f id in
    let args = c.args.args.now in
    let k = c.loop-arg.arg-index in
    let before = c.loop-arg.invariant in
    on_ok_weaker c.call.result (λ ok. added_is f (function_of c.loop-arg.body) (function_of c.call.new.self)
    id (seq_id c.loop-arg.body) (base ++ map get_of (take k args)) (Call (record { func = c.args.func }))
    (record {
      known = c.requires;
      before = before.added;
      place = before.same.0;
      added = ok;
    }) ∙ ap (with_instrs f id) (then_call base args k c.args.func c.loop-arg-test.false)) c.call.ensures.ok
