use Rattle.std.proofs.Common.{length, refl}
use Rattle.walrus_ty.specs.contracts.ty.TypeOrd.TheImpl.Laws as type_ord
use Rattle.walrus_types.specs.contracts.emit.order.PendingGroupOrd.TheImpl.Laws as pending_ord
use Rattle.walrus_types.specs.Table.{rec_group_at}
use Rattle.walrus_types.specs.Steps.FreeGroups.{head, is_free_at, is_written_at}
use Rattle.walrus_types.proofs.Emission.{OrderFromSort.sorted_from, OrderFromSort.order_from_sort, OrderFromSort.count_from_sort, SortedGroups.stands_sorted}
use Rattle.walrus_types.proofs.emit.order.writing_order.Goals as goal

pub returns-clause-order : goal.returns-clause-order
returns-clause-order c =
    let t = c.args.table.now in
    let ps = c.sort.new.self.items in
    let all = sorted_from t c.rec_groups.result.now c.rec_groups.ensures.groups c.in_ok-pending.pending.items
    ps c.in_ok-pending.ensures c.in_ok-sort.ensures.permutation in
    order_from_sort t c.rec_groups.ensures.grouping ps all
    (stands_sorted (is_free_at t.types.slots t.groups) (is_written_at t.types.slots t.groups) (λ g.
    head t.types.slots (rec_group_at t.groups g)) (length t.groups) ps all _ type_ord.total-law _ (λ x y.
    refl) pending_ord.total-law c.in_ok-sort.ensures.sorted)

pub returns-clause-count : goal.returns-clause-count
returns-clause-count c =
    let t = c.args.table.now in
    let ps = c.sort.new.self.items in
    count_from_sort t c.rec_groups.ensures.grouping ps
    (sorted_from t c.rec_groups.result.now c.rec_groups.ensures.groups c.in_ok-pending.pending.items ps
    c.in_ok-pending.ensures c.in_ok-sort.ensures.permutation)
