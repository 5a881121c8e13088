use Rattle.std.proofs.Common.{◌≡◌, ◌++◌, map, take}
use Rattle.walrus_functions.specs.Body.{with_instrs, instrs_of}
use Rattle.walrus_functions.specs.Building.{function_of, seq_id, Stays, StayKnown}
use Rattle.walrus_passes.specs.Adapters.{get_of}
use Rattle.walrus_passes.proofs.adapters.add_call.Given as goal

abbrev pub invariant-loop-arg : goal.invariant-loop-arg
invariant-loop-arg l = record {
  same : Stays l.fn.body l.body;
  known : StayKnown (function_of l.fn.body) (function_of l.body);
  added : function_of l.body ≡ with_instrs (function_of l.fn.body) (seq_id l.fn.body)
      (instrs_of (function_of l.fn.body) (seq_id l.fn.body) ++ map get_of (take l.arg-index l.args));
}
