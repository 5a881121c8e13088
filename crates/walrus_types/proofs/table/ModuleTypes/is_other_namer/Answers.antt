use Rattle.walrus_types.proofs.Tables.{NamedInGroup.namer_test, NamedInGroup.self_test, TypeSet.seen}
use Rattle.walrus_types.proofs.table.ModuleTypes.is_other_namer.Goals as goal

pub returns-then-ne : goal.returns-then-ne
returns-then-ne c = rw (← c.self.view_is) (namer_test
    (record { types = seen c.self.inside.types; groups = c.self.inside.groups.items }) c.args.other c.args.id
    c.index.result.now c.ne.result c.names.result c.index.ensures c.ne.ensures c.if-ne.true c.names.ensures)

pub returns-else-ne : goal.returns-else-ne
returns-else-ne c = self_test c.args.self.now c.args.other c.args.id c.ne.result c.ne.ensures c.if-ne.false
