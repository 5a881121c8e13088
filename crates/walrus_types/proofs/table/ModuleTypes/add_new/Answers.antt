use Rattle.std.proofs.Common.{◌≡◌, ℕ, [], ◌∷◌, ◌∙◌, length, refl, sym, ap, arith}
use Rattle.walrus_types.specs.Table.{Table, AddsType, IsSameTable}
use Rattle.walrus_ty.specs.SameTypes.{type_eq}
use Rattle.walrus_types.proofs.Tables.{NewType.table_added, NewType.answer_new, NewType.on_err_holds, Places.indexed_same, TypeSet.seen, TypeSet.same_seen, TypeSet.adds_seen}
use Rattle.walrus_ty.proofs.Equality.Types.{clones_equal}
use Rattle.walrus_types.proofs.table.ModuleTypes.add_new.Goals as goal

pub alloc_and_register-requires : goal.alloc_and_register-requires
unfolding type_eq
alloc_and_register-requires c = clones_equal

kept : (c : goal.After-drop-ids-in_err-id) →
    IsSameTable (record { types = seen c.self.inside.types; groups = c.self.inside.groups.items })
    (record { types = seen c.alloc_and_register.new.self; groups = c.reserve.new.self.items })
unfolding type_eq
kept c = record {
  types = same_seen c.self.inside.types c.alloc_and_register.new.self c.in_err-id.ensures.err;
  groups = c.reserve.ensures.items;
}

pub invariant_of-self-in_err-id : goal.invariant_of-self-in_err-id
invariant_of-self-in_err-id c = rw (c.reserve-2.ensures.items)
    (indexed_same (record { types = seen c.self.inside.types; groups = c.self.inside.groups.items })
    (record { types = seen c.alloc_and_register.new.self; groups = c.reserve.new.self.items })
    c.self.inside.group_of.items c.self.invariant (kept c))

pub returns-in_err-id-clause-err : goal.returns-in_err-id-clause-err
returns-in_err-id-clause-err c = rw (← c.self.view_is)
    (on_err_holds c.from_residual-in_err-id.result (kept c))

added : (c : goal.After-push_reserved-2) → AddsType
    (record { types = seen c.self.inside.types; groups = c.self.inside.groups.items })
    (record { types = seen c.alloc_and_register.new.self; groups = c.push_reserved-2.new.self.items })
    c.args.ty c.in_ok-id.id
unfolding type_eq
added c =
    let ids : c.from_vec.result ≡ c.in_ok-id.id ∷ [] = c.from_vec.ensures
    ∙ (c.in_ok-ids.ensures.items ∙ ap (λ (n : ℕ). n ∷ []) (c.next_id-at.ensures
    ∙ sym c.in_ok-id.ensures.ok.named)) in
    record {
      types = adds_seen c.self.inside.types c.alloc_and_register.new.self c.args.ty c.in_ok-id.id
          c.in_ok-id.ensures.ok;
      groups = c.push_reserved-2.ensures.items ∙ rw (c.reserve.ensures.items, ids) refl;
    }

pub invariant_of-self-2 : goal.invariant_of-self-2
invariant_of-self-2 c =
    let old : Table = record { types = seen c.self.inside.types; groups = c.self.inside.groups.items } in
    let new : Table = record {
      types = seen c.alloc_and_register.new.self;
      groups = c.push_reserved-2.new.self.items;
    } in
    let is = table_added old new c.self.inside.group_of.items c.args.ty c.in_ok-id.id c.self.invariant
    (added c) in
    let many : c.len.result ≡ length c.self.inside.groups.items =
    omega (
      arith,
      c.len.ensures,
      ap length c.reserve.ensures.items,
      c.reserve.ensures.len,
      c.self.inside.groups.ok,
      c.reserve.new.self.ok,
    ) in
    rw (c.push_reserved.ensures.items, c.reserve-2.ensures.items, many) is

pub returns-clause-holds : goal.returns-clause-holds
returns-clause-holds c =
    let old : Table = record { types = seen c.self.inside.types; groups = c.self.inside.groups.items } in
    let new : Table = record {
      types = seen c.alloc_and_register.new.self;
      groups = c.push_reserved-2.new.self.items;
    } in
    answer_new old new c.args.ty c.in_ok-id.id (added c)

pub returns-clause-ok : goal.returns-clause-ok
returns-clause-ok c = rw (← c.self.view_is) (added c)
