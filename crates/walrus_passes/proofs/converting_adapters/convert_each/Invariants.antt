use Rattle.std.proofs.Common.{length, take}
use Rattle.walrus_functions.specs.Building.{seq_id, function_of, IsKnown, Stays}
use Rattle.walrus_passes.specs.Conversions.{Reaches, ConvertsEach}
use Rattle.walrus_passes.proofs.converting_adapters.convert_each.Given as goal

abbrev pub invariant-loop-i : goal.invariant-loop-i
invariant-loop-i g l = record {
  same : Stays l.fn.body l.body;
  known : IsKnown l.body;
  reached : Reaches (goal.F-step g) (length l.locals) l.fn.convert l.convert;
  so_far : ConvertsEach (goal.F-step g) (seq_id l.fn.body) (take l.i l.locals)
      (l.fn.convert, function_of l.fn.body) (l.convert, function_of l.body);
}
