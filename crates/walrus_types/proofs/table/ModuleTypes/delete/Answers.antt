use Rattle.std.proofs.lemmas.Result.{on_ok_weaker}
use Rattle.walrus_arena.specs.Set.{Removes}
use Rattle.walrus_types.specs.Table.{Table}
use Rattle.walrus_ty.specs.SameTypes.{type_eq}
use Rattle.walrus_types.proofs.Tables.{Places.home_of, DeadTypes.table_deleted, DeadTypes.deletes_from, DeadTypes.ok_holds, DeadGroup.members_once, DeadGroup.distinct_from_once, TypeSet.seen, TypeSet.removes_seen}
use Rattle.walrus_types.proofs.table.ModuleTypes.delete.Goals as goal

pub remove_id-requires : goal.remove_id-requires
remove_id-requires c =
    let t : Table = record { types = seen c.self.inside.types; groups = c.self.inside.groups.items } in
    let live = rw (← c.self.view_is) at c.requires in
    let at = rw c.index.ensures at c.index-at.ensures in
    let home = home_of t c.self.inside.group_of.items c.args.id c.index-at.result.now
    c.index_mut-group.result.now c.self.invariant live at c.index_mut-group.ensures.value in
    distinct_from_once c.index_mut-group.result.now.types
    (members_once t c.self.inside.group_of.items c.args.id c.index-at.result.now
    c.index_mut-group.result.now c.self.invariant home)

pub invariant_of-self : goal.invariant_of-self
unfolding type_eq
invariant_of-self c =
    let t : Table = record { types = seen c.self.inside.types; groups = c.self.inside.groups.items } in
    let live = rw (← c.self.view_is) at c.requires in
    let removes : Removes type_eq c.self.inside.types c.remove.new.self c.args.id =
    ok_holds c.remove.result c.remove.ensures.succeeds c.remove.ensures.ok in
    let at = rw c.index.ensures at c.index-at.ensures in
    let home = home_of t c.self.inside.group_of.items c.args.id c.index-at.result.now
    c.index_mut-group.result.now c.self.invariant live at c.index_mut-group.ensures.value in
    table_deleted t _ c.self.inside.group_of.items c.args.id c.self.invariant live
    (deletes_from t c.args.id c.index-at.result.now c.index_mut-group.result.now (seen c.remove.new.self)
    c.remove_id.new.ids home c.remove_id.ensures
    (removes_seen c.self.inside.types c.remove.new.self c.args.id removes))

pub returns-clause-ok : goal.returns-clause-ok
unfolding type_eq
returns-clause-ok c =
    let t : Table = record { types = seen c.self.inside.types; groups = c.self.inside.groups.items } in
    let live = rw (← c.self.view_is) at c.requires in
    let at = rw c.index.ensures at c.index-at.ensures in
    let home = home_of t c.self.inside.group_of.items c.args.id c.index-at.result.now
    c.index_mut-group.result.now c.self.invariant live at c.index_mut-group.ensures.value in
    on_ok_weaker c.remove.result (λ (r : Removes type_eq c.self.inside.types c.remove.new.self c.args.id).
    rw (← c.self.view_is) (deletes_from t c.args.id c.index-at.result.now c.index_mut-group.result.now
    (seen c.remove.new.self) c.remove_id.new.ids home c.remove_id.ensures
    (removes_seen c.self.inside.types c.remove.new.self c.args.id r))) c.remove.ensures.ok
