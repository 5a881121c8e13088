use Rattle.std.proofs.Common.{ℕ, List, ap, subst, sym, ◌∙◌, map}
use Rattle.walrus_ty.specs.Records.{section_of}
use Rattle.walrus_sections.specs.Emission.{read_table}
use Rattle.walrus_sections.specs.NormalForm.{image, IsNormalForm}
use Rattle.walrus_normal_form.specs.Steps.ReadSections.{IsReadAs}
use Rattle.walrus_sections.specs.WritingOrders.{IsWritingOrder}
use Rattle.walrus_normal_form.specs.Steps.WrittenRecords.{CanBeWritten}
use Rattle.walrus_normal_form.proofs.Writing.ReadOrder.{can_be_written, normal}
use Rattle.walrus_normal_form.proofs.write.write_section.Goals as goal

pub write_groups-requires : goal.write_groups-requires
write_groups-requires c =
    let section = c.requires.0 in
    let slots = c.args.read.slots.items in
    let groups = c.args.read.groups.items in
    let as_lent : IsReadAs section slots c.as_slice.result.now =
    subst (IsReadAs section slots) (sym c.as_slice.ensures.value) c.requires.1 in
    let order : IsWritingOrder (read_table section (image slots)) c.as_slice-2.result.now =
    subst (IsWritingOrder (read_table section (image slots))) (sym c.as_slice-2.ensures.value)
    (c.in_ok-order.ensures.order section slots as_lent) in
    subst (CanBeWritten groups c.as_slice-2.result.now) (sym (c.len.ensures ∙ c.args.read.slots.ok.0))
    (can_be_written section slots groups c.requires.1 c.as_slice-2.result.now order)

pub returns : goal.returns
returns c section has =
    let slots = c.args.read.slots.items in
    let groups = c.args.read.groups.items in
    let as_lent : IsReadAs section slots c.as_slice.result.now =
    subst (IsReadAs section slots) (sym c.as_slice.ensures.value) has in
    let order : IsWritingOrder (read_table section (image slots)) c.as_slice-2.result.now =
    subst (IsWritingOrder (read_table section (image slots))) (sym c.as_slice-2.ensures.value)
    (c.in_ok-order.ensures.order section slots as_lent) in
    subst (IsNormalForm section (section_of c.in_ok-normal.normal.items))
    (ap (λ (new : List ℕ). map (image new) slots) (sym c.as_slice-3.ensures.value)
    ∙ sym c.new_indices-map.ensures)
    (normal section slots groups has c.as_slice-2.result.now order c.in_ok-normal.new_index.items
    c.in_ok-normal.ensures.numbered c.in_ok-normal.normal.items c.in_ok-normal.ensures.renamed)
