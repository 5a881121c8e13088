use Rattle.walrus_canonical.proofs.Needs.CheckedGroups.{IsCheckedTo}
use Rattle.walrus_canonical.proofs.needed.entry_count.Given as goal

abbrev pub invariant-loop-group : goal.invariant-loop-group
invariant-loop-group l = IsCheckedTo l.groups l.group-index l.start
