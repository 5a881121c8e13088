use Rattle.std.proofs.Common.{◌∙◌}
use Rattle.walrus_types.specs.Table.{Table}
use Rattle.walrus_ty.specs.SameTypes.{type_eq}
use Rattle.walrus_types.proofs.Tables.{NewType.found-holds, TypeSet.seen, TypeSet.found_seen}
use Rattle.walrus_types.proofs.table.ModuleTypes.find_equal.Goals as goal

pub returns-clause-value : goal.returns-clause-value
unfolding type_eq
returns-clause-value c = rw (← c.self.view_is) (c.find.ensures ∙ found_seen c.self.inside.types c.args.ty.now)

pub returns-clause-holds : goal.returns-clause-holds
unfolding type_eq
returns-clause-holds c =
    let t : Table = record { types = seen c.self.inside.types; groups = c.self.inside.groups.items } in
    rw (← c.self.view_is) (found-holds t c.self.inside.group_of.items c.args.ty.now c.self.invariant
    c.find.result (c.find.ensures ∙ found_seen c.self.inside.types c.args.ty.now))
