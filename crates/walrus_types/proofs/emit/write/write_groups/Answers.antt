use Rattle.std.proofs.Common.{◌≡◌, ℕ, ◌≤◌, List, All, None, false, length, sym, ap, subst, arith, nat_eq}
use Rattle.std.specs.List.{IsDistinct}
use Rattle.std.proofs.lemmas.Result.{err_from_is_err_and}
use Rattle.walrus_types.specs.{TableEmission.definition_at, TypesById.IsLive, Steps.PendingGroups.groups_of}
use Rattle.walrus_ty.specs.Indices.{GivesAll, type_indices, func_indices, global_indices}
use Rattle.walrus_types.specs.declared.table.rec_group.RecGroup.{RecGroup}
use Rattle.walrus_types.proofs.Emission.WriteLoop.{all_of, filled_of, groups_count, IsMemoryOrMissing-weaker, advances, distinct, empty_same, finishes, fresh, next, room, stops}
use Rattle.walrus_types.proofs.emit.write.write_groups.Goals as goal

pub push_all_types-requires : goal.push_all_types-requires
push_all_types-requires c =
    let s = next c.args.groups.now c.args.pending.now c.loop-item.item-index c.item-item.result
    c.index-groups-item.result c.loop-item-test.true c.item-item.is c.index-groups-item.is c.requires.within
    c.requires.filled c.loop-item.invariant.written in
    let P : List ℕ → Type 0 = λ ids. All (λ i. (type_indices c.loop-item.indices).index i ≡ None) ids in
    record {
      fresh = subst P (sym c.as_slice.ensures) (fresh s c.requires.apart);
      distinct = subst (λ (ids : List ℕ). IsDistinct nat_eq ids) (sym c.as_slice.ensures)
          (distinct s c.requires.apart);
      room = omega (arith, room s c.requires.few, ap length c.as_slice.ensures);
    }

pub returns-in_err-record-clause-missing : goal.returns-in_err-record-clause-missing
returns-in_err-record-clause-missing c =
    let s = next c.args.groups.now c.args.pending.now c.loop-item.item-index c.item-item.result
    c.index-groups-item.result c.loop-item-test.true c.item-item.is c.index-groups-item.is c.requires.within
    c.requires.filled c.loop-item.invariant.written in
    let y = type_indices c.push_all_types.new.self in
    let given = subst (λ (ids : List ℕ). GivesAll (type_indices c.loop-item.indices) y ids)
    c.as_slice.ensures c.in_ok-push_all_types.ensures.ok in
    let p = err_from_is_err_and c.from_residual-in_err-record.result c.from_residual-in_err-record.ensures.1
    in
    rw (p.1, p.2) (IsMemoryOrMissing-weaker _ _ (stops s c.requires.apart y given)
    c.in_err-record.field-0.0 c.in_err-record.ensures.missing)

pub loop-item-preserved : goal.loop-item-preserved
loop-item-preserved c =
    let s = next c.args.groups.now c.args.pending.now c.loop-item.item-index c.item-item.result
    c.index-groups-item.result c.loop-item-test.true c.item-item.is c.index-groups-item.is c.requires.within
    c.requires.filled c.loop-item.invariant.written in
    let y = type_indices c.push_all_types.new.self in
    let given = subst (λ (ids : List ℕ). GivesAll (type_indices c.loop-item.indices) y ids)
    c.as_slice.ensures c.in_ok-push_all_types.ensures.ok in
    record {
      written = rw c.in_ok-push.ensures.items (advances s c.requires.apart y given c.in_ok-record.record
          c.in_ok-record.ensures.renamed c.in_ok-record.ensures.complete);
      funcs = empty_same (func_indices c.loop-item.indices) (func_indices c.push_all_types.new.self)
          c.loop-item.invariant.funcs c.in_ok-push_all_types.ensures.funcs;
      globals = empty_same (global_indices c.loop-item.indices) (global_indices c.push_all_types.new.self)
          c.loop-item.invariant.globals c.in_ok-push_all_types.ensures.globals;
    }

pub returns-clause-written : goal.returns-clause-written
returns-clause-written c =
    let ws = groups_of c.args.groups.now c.args.pending.now in
    let done : c.loop-item.item-index ≡ length ws = omega (
      arith,
      c.loop-item-test.false,
      c.loop-item.auto.item-index-end,
      groups_count c.args.groups.now c.args.pending.now,
    ) in
    finishes (definition_at c.args.table.now.types.slots) ws c.loop-item.item-index c.loop-item.written.items
    (type_indices c.loop-item.indices) done c.loop-item.invariant.written

pub record_of-requires : goal.record_of-requires
record_of-requires c =
    let each = all_of c.args.groups.now c.args.pending.now c.loop-item.item-index c.item-item.result
    c.index-groups-item.result c.loop-item-test.true c.item-item.is c.index-groups-item.is
    c.requires.within in
    record {
      live = each (λ (g : RecGroup). All (IsLive c.args.table.now.types.slots) g.types) c.requires.live;
      single = each (λ (g : RecGroup). g.is_explicit ≡ false → length g.types ≤ 1) c.requires.single;
      filled = filled_of c.args.groups.now c.args.pending.now c.loop-item.item-index c.item-item.result
          c.index-groups-item.result c.loop-item-test.true c.item-item.is c.index-groups-item.is
          c.requires.within c.requires.filled;
    }
