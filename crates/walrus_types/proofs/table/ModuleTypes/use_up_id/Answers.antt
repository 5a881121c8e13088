use Rattle.walrus_types.specs.Table.{Table}
use Rattle.walrus_types.proofs.{Reading.UsedUpId.used_up_indexed, Reading.UsedUpId.uses_up, Tables.TypeSet.seen}
use Rattle.walrus_types.proofs.table.ModuleTypes.use_up_id.Goals as goal

pub invariant_of-self-2 : goal.invariant_of-self-2
invariant_of-self-2 c =
    let old : Table = record { types = seen c.self.inside.types; groups = c.self.inside.groups.items } in
    let new : Table = record { types = seen c.alloc_dead.new.self; groups = c.self.inside.groups.items } in
    let uses = uses_up c.self.inside.types c.alloc_dead.new.self c.self.inside.groups.items
    c.in_ok-alloc_dead.ensures.ok in
    rw (c.push_reserved.ensures.items, c.reserve.ensures.items)
    (used_up_indexed old new c.self.inside.group_of.items c.self.invariant uses)

pub returns-clause-ok : goal.returns-clause-ok
returns-clause-ok c = rw (← c.self.view_is) (uses_up c.self.inside.types c.alloc_dead.new.self
    c.self.inside.groups.items c.in_ok-alloc_dead.ensures.ok)
