use Rattle.std.proofs.Common.{◌≡◌, ℕ, ◌<◌, ◌≤◌, length, map, take}
use Rattle.std.specs.List.{slice_index}
use Rattle.walrus_ty.specs.Records.{section_of}
use Rattle.walrus_normal_form.specs.Steps.ReadSections.{slot_group_at}
use Rattle.walrus_normal_form.specs.Steps.WrittenRecords.{AreNumbered, groups_at, slots_in}
use Rattle.walrus_normal_form.proofs.Writing.Numbering.{renamed}
use Rattle.walrus_normal_form.proofs.write.write_groups.Given as goal

abbrev pub invariant-loop-place : goal.invariant-loop-place
invariant-loop-place l = record {
  next : l.next ≡ length (slots_in (take l.place-index (groups_at l.fn.groups.items l.order)));
  places : length l.groups.items ≡ length l.fn.groups.items;
  left : (a : ℕ) → l.place-index ≤ a → a < length l.order →
      slot_group_at l.groups.items (slice_index l.order a) ≡
      slot_group_at l.fn.groups.items (slice_index l.order a);
  slots : length l.new_index.items ≡ l.count;
  numbered : AreNumbered (slots_in (take l.place-index (groups_at l.fn.groups.items l.order)))
      l.new_index.items;
  renamed : section_of l.written.items ≡
      map (renamed l.new_index.items) (take l.place-index (groups_at l.fn.groups.items l.order));
}
