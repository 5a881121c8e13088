use Rattle.std.proofs.Common.{◌≡◌, ℕ, List, ◌++◌, [], ◌∷◌, ◌∙◌, length, map, Some, true, ap, arith}
use Rattle.std.specs.List.{range_with_len}
use Rattle.walrus_arena.specs.Set.{Set}
use Rattle.walrus_types.specs.declared.table.rec_group.RecGroup.{RecGroup}
use Rattle.walrus_ty.specs.Types.{ModuleType}
use Rattle.walrus_types.specs.Table.{Table, AddsGroup, member_types}
use Rattle.walrus_types.proofs.Tables.{NewGroup.table_grouped, NewGroup.length-placed, TypeSet.seen, TypeSet.range_seen}
use Rattle.walrus_types.proofs.table.ModuleTypes.place_group.Goals as goal

added : (c : goal.After-push_reserved) → AddsGroup
    (record { types = seen c.self.inside.types; groups = c.self.inside.groups.items })
    (record { types = seen c.alloc_all.new.self; groups = c.push_reserved.new.self.items })
    c.args.members.items
added c =
    let members = c.args.members.items in
    let first : c.len.result ≡ length c.self.inside.types.slots =
    omega (arith, c.len.ensures, c.self.inside.group_of.ok, c.self.invariant.one_each) in
    let types : c.in_ok-types.types.items ≡ member_types (length c.self.inside.types.slots)
    c.args.members.items = c.in_ok-types.ensures
    ∙ ap (λ (n : ℕ). member_types n c.args.members.items) first in
    let many : length c.in_ok-types.types.items ≡ length c.args.members.items = ap length types
    ∙ length-placed (length c.self.inside.types.slots) c.args.members.items in
    let ids : c.from_vec.result ≡ range_with_len (length c.self.inside.types.slots)
    (length c.args.members.items) = c.from_vec.ensures
    ∙ (c.in_ok-ids.ensures.ids ∙ (range_seen (length c.self.inside.types.slots)
    (length c.in_ok-types.types.items) ∙ ap (range_with_len (length c.self.inside.types.slots)) many)) in
    let made : List ℕ → RecGroup = λ ns. record { types = ns; is_explicit = true } in
    record {
      types = ap (λ (s : Set ModuleType). seen s) c.in_ok-ids.ensures.ok
          ∙ ap (λ (tys : List ModuleType). record (seen c.self.inside.types) {
            slots = c.self.inside.types.slots ++ map Some tys;
          }) types;
      groups = c.push_reserved.ensures.items ∙ (ap (λ (gs : List RecGroup). gs ++ made c.from_vec.result ∷ [])
          c.reserve.ensures.items ∙ ap (λ (ns : List ℕ). c.self.inside.groups.items ++ made ns ∷ []) ids);
    }

pub invariant_of-self-2 : goal.invariant_of-self-2
invariant_of-self-2 c =
    let old : Table = record { types = seen c.self.inside.types; groups = c.self.inside.groups.items } in
    let new : Table = record { types = seen c.alloc_all.new.self; groups = c.push_reserved.new.self.items } in
    let is = table_grouped old new c.self.inside.group_of.items c.args.members.items c.self.invariant
    (added c) in
    let count : c.len-count.result ≡ length c.args.members.items =
    omega (arith, c.len-count.ensures, c.args.members.ok) in
    let group : c.len-2.result ≡ length c.self.inside.groups.items =
    omega (
      arith,
      c.len-2.ensures,
      ap length c.reserve.ensures.items,
      c.reserve.ensures.len,
      c.self.inside.groups.ok,
      c.reserve.new.self.ok,
    ) in
    rw (c.push_all.ensures, c.reserve-2.ensures.items, count, group) is

pub returns-clause-ok : goal.returns-clause-ok
returns-clause-ok c = rw (← c.self.view_is) (added c)
