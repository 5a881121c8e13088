use Rattle.walrus_types.specs.Steps.Finding.{IsWanted}
use Rattle.walrus_types.proofs.Tables.Search.{HasPassed}
use Rattle.walrus_types.proofs.table.ModuleTypes.first.Given as goal

abbrev pub invariant-loop-item : goal.invariant-loop-item
invariant-loop-item l = record {
  can_next : (goal.iterator-loop-item).can_next l.left;
  finite : (goal.iterator-loop-item).is_finite l.left;
  passed : HasPassed (IsWanted l.wanted) l.self.types.slots l.left;
}
