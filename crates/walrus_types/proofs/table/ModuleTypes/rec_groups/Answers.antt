use Rattle.walrus_types.proofs.Tables.{Places.is_table, TypeSet.seen}
use Rattle.walrus_types.proofs.table.ModuleTypes.rec_groups.Goals as goal

pub returns-clause-grouping : goal.returns-clause-grouping
returns-clause-grouping c = rw (← c.self.view_is)
    (is_table (record { types = seen c.self.inside.types; groups = c.self.inside.groups.items })
    c.self.inside.group_of.items c.self.invariant)
