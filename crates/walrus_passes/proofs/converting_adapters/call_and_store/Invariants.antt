use Rattle.std.proofs.Common.{◌≡◌}
use Rattle.walrus_functions.specs.Building.{seq_id, function_of, Stays, StayKnown}
use Rattle.walrus_passes.specs.Conversions.{with_more}
use Rattle.walrus_passes.proofs.Conversions.{stored}
use Rattle.walrus_passes.proofs.converting_adapters.call_and_store.Given as goal

abbrev pub invariant-loop-local : goal.invariant-loop-local
invariant-loop-local l = record {
  same : Stays l.fn.body l.body;
  known : StayKnown (function_of l.fn.body) (function_of l.body);
  added : function_of l.body ≡ with_more (function_of l.fn.body) (seq_id l.fn.body)
      (stored l.fn.func l.yielded);
}
