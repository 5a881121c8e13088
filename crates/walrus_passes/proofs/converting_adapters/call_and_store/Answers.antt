use Rattle.std.proofs.Common.{◌∙◌, arith}
use Rattle.walrus_functions.specs.Building.{seq_id, function_of}
use Rattle.walrus_passes.proofs.Conversions.{stored-more}
use Rattle.walrus_passes.proofs.converting_adapters.call_and_store.Goals as goal

pub loop-local-preserved : goal.loop-local-preserved
loop-local-preserved c =
    let before = c.loop-local.invariant in
    let set = c.in_ok-local_set.ensures in
    let low = before.known in
    let high = set.known in
    record {
      same = (set.same.0 ∙ before.same.0, set.same.1 ∙ before.same.1);
      known = omega (arith, low, high);
      added = stored-more (function_of c.args.body.now) (function_of c.loop-local.body)
          (function_of c.local_set.new.self) (seq_id c.args.body.now) (seq_id c.loop-local.body) c.args.func
          c.loop-local.yielded _ c.requires before.added before.same.0 set.ok;
    }
