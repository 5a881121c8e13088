use Rattle.std.proofs.Common.{◌≤◌, drop, length}
use Rattle.walrus_types.specs.Table.{DeletesAll}
use Rattle.walrus_types.proofs.table.ModuleTypes.delete_all.Given as goal

abbrev pub invariant-loop-i : goal.invariant-loop-i
invariant-loop-i l = record {
  within : l.i ≤ length l.ids;
  deleted : DeletesAll l.initial.self (drop l.i l.ids) l.self;
}

abbrev pub decreases-loop-i : goal.decreases-loop-i
decreases-loop-i l = l.i
