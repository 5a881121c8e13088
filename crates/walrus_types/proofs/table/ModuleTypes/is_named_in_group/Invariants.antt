use Rattle.walrus_types.proofs.Tables.NamedInGroup.{NoneNames}
use Rattle.walrus_types.proofs.table.ModuleTypes.is_named_in_group.Given as goal

abbrev pub invariant-loop-other : goal.invariant-loop-other
invariant-loop-other l = NoneNames l.self l.members l.id l.other-index
