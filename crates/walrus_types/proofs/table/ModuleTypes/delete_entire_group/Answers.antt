use Rattle.std.proofs.Common.{ℕ, List, All, nat_eq, subst, sym, ◌∙◌}
use Rattle.std.specs.List.{IsDistinct}
use Rattle.std.proofs.lemmas.Result.{on_ok_weaker}
use Rattle.walrus_arena.specs.{Arena.IsLive, Set.RemovesAll}
use Rattle.walrus_types.specs.Table.{Table}
use Rattle.walrus_ty.specs.SameTypes.{type_eq}
use Rattle.walrus_types.proofs.Tables.{Places.home_of, DeadTypes.ok_holds, TypeSet.seen, TypeSet.removes_all_seen}
use Rattle.walrus_types.proofs.Tables.DeadGroup.{all_live, members_once, distinct_from_once, ended_indexed, ended_deletes}
use Rattle.walrus_types.proofs.table.ModuleTypes.delete_entire_group.Goals as goal

pub remove_all-requires : goal.remove_all-requires
remove_all-requires c =
    let t : Table = record { types = seen c.self.inside.types; groups = c.self.inside.groups.items } in
    let live = rw (← c.self.view_is) at c.requires in
    let at = rw c.index.ensures at c.index-at.ensures in
    let home = home_of t c.self.inside.group_of.items c.args.id c.index-at.result.now
    c.index_mut-group.result.now c.self.invariant live at c.index_mut-group.ensures.value in
    let whole = sym (c.as_slice.ensures ∙ c.replace-members.ensures.value) in
    record {
      live = subst (λ (ids : List ℕ). All (IsLive c.self.inside.types.slots) ids) whole
          (all_live t c.self.inside.group_of.items c.args.id c.index-at.result.now
          c.index_mut-group.result.now c.self.invariant home);
      distinct = subst (λ (ids : List ℕ). IsDistinct nat_eq ids) whole
          (distinct_from_once c.index_mut-group.result.now.types
          (members_once t c.self.inside.group_of.items c.args.id c.index-at.result.now
          c.index_mut-group.result.now c.self.invariant home));
    }

pub invariant_of-self : goal.invariant_of-self
unfolding type_eq
invariant_of-self c =
    let t : Table = record { types = seen c.self.inside.types; groups = c.self.inside.groups.items } in
    let live = rw (← c.self.view_is) at c.requires in
    let at = rw c.index.ensures at c.index-at.ensures in
    let home = home_of t c.self.inside.group_of.items c.args.id c.index-at.result.now
    c.index_mut-group.result.now c.self.invariant live at c.index_mut-group.ensures.value in
    let removes : RemovesAll type_eq c.self.inside.types c.as_slice.result.now c.remove_all.new.self =
    ok_holds c.remove_all.result c.remove_all.ensures.succeeds c.remove_all.ensures.ok in
    ended_indexed t c.self.inside.group_of.items c.args.id c.index-at.result.now c.index_mut-group.result.now
    (seen c.remove_all.new.self) c.as_slice.result.now c.replace-members.new.dest c.self.invariant home
    (c.as_slice.ensures ∙ c.replace-members.ensures.value) (c.replace-members.ensures.after
    ∙ (c.from_vec-none.ensures ∙ c.new.ensures.items))
    (removes_all_seen c.self.inside.types c.remove_all.new.self c.as_slice.result.now removes)

pub returns-clause-ok : goal.returns-clause-ok
unfolding type_eq
returns-clause-ok c =
    let t : Table = record { types = seen c.self.inside.types; groups = c.self.inside.groups.items } in
    let live = rw (← c.self.view_is) at c.requires in
    let at = rw c.index.ensures at c.index-at.ensures in
    let home = home_of t c.self.inside.group_of.items c.args.id c.index-at.result.now
    c.index_mut-group.result.now c.self.invariant live at c.index_mut-group.ensures.value in
    on_ok_weaker c.remove_all.result (λ (r : RemovesAll type_eq c.self.inside.types c.as_slice.result.now
    c.remove_all.new.self). rw (← c.self.view_is)
    (ended_deletes t c.self.inside.group_of.items c.args.id c.index-at.result.now
    c.index_mut-group.result.now (seen c.remove_all.new.self) c.as_slice.result.now
    c.replace-members.new.dest c.self.invariant home (c.as_slice.ensures
    ∙ c.replace-members.ensures.value) (c.replace-members.ensures.after
    ∙ (c.from_vec-none.ensures ∙ c.new.ensures.items))
    (removes_all_seen c.self.inside.types c.remove_all.new.self c.as_slice.result.now r)))
    c.remove_all.ensures.ok
