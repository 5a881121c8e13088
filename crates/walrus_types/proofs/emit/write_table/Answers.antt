use Rattle.std.proofs.Common.{◌≡◌, ◌<◌, ◌≤◌, ◌^◌, arith, List, All, length, sym, subst, false}
use Rattle.std.proofs.lemmas.Result.{IfOk-weaker, IfErr-weaker}
use Rattle.walrus_arena.specs.Arena.{IsLive}
use Rattle.walrus_types.specs.{declared.emit.order.PendingGroup.PendingGroup, declared.table.rec_group.RecGroup.RecGroup, TableEmission.definition_at, TableEmission.table_view, Steps.PendingGroups.places_of, Steps.WrittenGroups.AreWritten, Steps.WrittenGroups.IsMemoryOrMissing}
use Rattle.walrus_sections.specs.{SlotMap.TypeGroup, WritingOrders.IsApart, WritingOrders.ids_in, MissingNames.FirstMissingIs}
use Rattle.walrus_ty.specs.Indices.{type_indices}
use Rattle.walrus_types.proofs.Emission.EmittedTables.{within, singles, places_within, carried, apart, emitted, as_ordered, live_groups, filled_in_order}
use Rattle.walrus_types.proofs.Emission.WriteLoop.{IsMemoryOrMissing-weaker}
use Rattle.walrus_types.proofs.emit.write_table.Goals as goal

pub write_groups-requires : goal.write_groups-requires
write_groups-requires c =
    let t = c.args.table.now in
    let ps = c.in_ok-pending.pending.items in
    let sound = c.rec_groups.ensures.grouping in
    let order = c.in_ok-pending.ensures.order in
    let all = sym c.rec_groups.ensures.groups in
    let given = as_ordered c.rec_groups.result.now t.groups c.as_slice.result.now ps
    c.rec_groups.ensures.groups c.as_slice.ensures.value in
    record {
      live = subst (λ (gs : List RecGroup). All (λ (g : RecGroup). All (IsLive t.types.slots) g.types) gs) all
          (live_groups t sound);
      single = subst (λ (gs : List RecGroup). All (λ (g : RecGroup). g.is_explicit ≡ false →
          length g.types ≤ 1) gs) all (singles t sound (places_of ps) order);
      within = carried (λ (gs : List RecGroup) (qs : List PendingGroup). All (λ (p : PendingGroup).
          p.place < length gs) qs) t.groups c.rec_groups.result.now ps c.as_slice.result.now all
          (sym c.as_slice.ensures.value)
          (places_within ps (length t.groups) (within t sound (places_of ps) order));
      filled = subst (λ (ws : List TypeGroup). All (λ (w : TypeGroup). 0 < length w.ids) ws) (sym given)
          (λ k d lt. filled_in_order t sound (places_of ps) order k d lt);
      apart = subst (λ (ws : List TypeGroup). IsApart (ids_in ws)) (sym given)
          (apart t sound (places_of ps) order);
      few = subst (λ (ws : List TypeGroup). length (ids_in ws) < 2 ^ 32) (sym given)
          (omega (arith, c.in_ok-pending.ensures.count, c.requires));
    }

pub returns-clause-written : goal.returns-clause-written
returns-clause-written c =
    let given = as_ordered c.rec_groups.result.now c.args.table.now.groups c.as_slice.result.now
    c.in_ok-pending.pending.items c.rec_groups.ensures.groups c.as_slice.ensures.value in
    let t = c.args.table.now in
    IfOk-weaker c.write_groups.result _ _ (λ r h.
    (let P : List TypeGroup → Type 0 = λ ws. AreWritten (definition_at t.types.slots) ws r.0.items
    (type_indices r.1) in
    let order = places_of c.in_ok-pending.pending.items in
    let ord = c.in_ok-pending.ensures.order in
    emitted t c.rec_groups.ensures.grouping order ord
    (λ m. c.written_in_order.ensures.emission (table_view t) order m ord)
    (c.written_in_order.ensures.complete (table_view t) order ord) c.in_ok-pending.ensures.count r.0.items
    (type_indices r.1) (subst P given h))) c.write_groups.ensures.written

pub returns-clause-missing : goal.returns-clause-missing
returns-clause-missing c =
    let given = as_ordered c.rec_groups.result.now c.args.table.now.groups c.as_slice.result.now
    c.in_ok-pending.pending.items c.rec_groups.ensures.groups c.as_slice.ensures.value in
    let t = c.args.table.now in
    IfErr-weaker c.write_groups.result _ _ (λ e h.
    (let P : List TypeGroup → Type 0 = λ ws. IsMemoryOrMissing e
    (FirstMissingIs (definition_at t.types.slots) ws) in
    let order = places_of c.in_ok-pending.pending.items in
    IsMemoryOrMissing-weaker _ _ (λ from to. c.written_in_order.ensures.missing (table_view t) order from to
    c.in_ok-pending.ensures.order) e (subst P given h))) c.write_groups.ensures.missing
