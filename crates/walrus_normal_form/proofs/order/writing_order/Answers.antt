use Rattle.std.proofs.Common.{refl, length, sym, subst, ◌∙◌, ap}
use Rattle.std.proofs.lemmas.Result.{IfOk-weaker}
use Rattle.walrus_ty.specs.contracts.records.EntryAtOrd.TheImpl.Laws as entry_ord
use Rattle.walrus_sections.specs.Emission.{read_table}
use Rattle.walrus_sections.specs.NormalForm.{image}
use Rattle.walrus_normal_form.specs.contracts.order.PendingGroupOrd.TheImpl.Laws as pending_ord
use Rattle.walrus_normal_form.specs.declared.order.PendingGroup.{PendingGroup}
use Rattle.walrus_normal_form.specs.Steps.PendingGroups.{is_free_at, is_written_at, places_of}
use Rattle.walrus_sections.specs.WritingOrders.{IsWritingOrder}
use Rattle.walrus_normal_form.proofs.Ordering.OrderFromSort.{entry_cmp, order_from_sort}
use Rattle.walrus_sections.proofs.Ordering.SortedPlaces.{stands_sorted}
use Rattle.walrus_normal_form.proofs.order.writing_order.Goals as goal

pub returns : goal.returns
returns c = record {
  order = λ section slots is.
      (let groups = c.args.groups.now in
      let ps = c.in_ok-pending.pending.items in
      let qs = c.sort.new.self.items in
      let are = c.in_ok-pending.ensures in
      let perm = c.in_ok-sort.ensures.permutation in
      let written : IsWritingOrder (read_table section (image slots)) (places_of qs) =
      order_from_sort section slots groups is ps qs are perm (λ a b less p q at_a at_b.
      stands_sorted (λ (x : PendingGroup). x.place) (is_written_at groups) (length groups) ps qs perm
      are.places (is_free_at groups) (λ (x : PendingGroup). x.start) _ entry_cmp entry_ord.total-law
      (λ k d below. (are.each k d below).start) pending_ord.total-law c.in_ok-sort.ensures.sorted a b less p q
      p.head q.head at_a at_b refl) in
      IfOk-weaker c.places_of.result _ _ (λ v e.
      subst (IsWritingOrder (read_table section (image slots)))
      (sym (e ∙ ap places_of c.as_slice.ensures.value)) written) c.places_of.ensures);
}
