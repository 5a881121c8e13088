use Rattle.std.proofs.Common.{◌≡◌, ◌∙◌, ◌++◌, ℕ, List, length, map, sym, ap, subst, arith}
use Rattle.std.specs.Prelude.{Some, if◌then◌else◌}
use Rattle.std.specs.Prelude.{Vec, vec_len}
use Rattle.walrus_sections.specs.Section.{index_space}
use Rattle.std.specs.Option.{unwrap_or}
use Rattle.std.specs.List.{range_with_len}
use Rattle.walrus_ty.specs.Records.{group_of}
use Rattle.walrus_sections.specs.FirstError.{definitions_of}
use Rattle.walrus_canonical.specs.declared.classes.Class.{Class}
use Rattle.walrus_canonical.specs.Steps.Classes.{reading, reading_of, IsReadTo}
use Rattle.walrus_canonical.specs.Steps.KnownClasses.{are_same, place_of}
use Rattle.walrus_canonical.proofs.Reading.SkippedGroups.{stands_begins, stands_whole}
use Rattle.walrus_canonical.proofs.Reading.NeededGroups.{read_needed, first_of_class, firsts_length, put_records, size_of_records}
use Rattle.walrus_canonical.proofs.classes.Reader.push_needed.Goals as goal

len_is : {X : Type 0} {Z : Type 0} (v : Vec X Z) (n : ℕ) → n ≡ vec_len v → n ≡ length v.items
len_is v n e = cc

pub returns : goal.returns
returns c marks marked filled section roots well needs stands h =
    let ds = definitions_of (group_of c.args.group) in
    let start = length c.args.self.now.slots.items in
    let classes = c.args.self.now.classes.items in
    let b = stands_begins section start (group_of c.args.group) stands filled in
    let len_start : c.len.result ≡ start = cc in
    let len_next : c.len-2.result ≡ length classes = len_is c.args.self.now.classes c.len-2.result
    c.len-2.ensures in
    let firsts_long = firsts_length classes in
    let size = size_of_records c.in_ok-entries.entries ds c.len-count.result c.in_ok-entries.ensures
    c.len-count.ensures in
    let bound : c.number_after.result ≡ start =
    c.number_after.ensures (omega (arith, len_start, b.inside, well.few)) ∙ omega (arith, len_start) in
    let is = put_records c.in_ok-entries.entries c.rename_entries.new.entries ds _ c.number_after.result start
    c.own_base.result c.len-count.result c.as_slice.result.now c.args.self.now.slots.items
    c.in_ok-entries.ensures c.rename_entries.ensures c.new.ensures bound c.as_slice.ensures.value
    c.own_base.ensures c.len-count.ensures in
    let new = reading c.push_slots.new.slots.items c.first_slot.new.self.slot_count
    (map (λ (k : Class). k.first) c.first_slot.new.self.classes.items) c.first_slot.new.self.known.entries in
    let r = read_needed section roots well marks needs start ds b (reading_of c.args.self.now) h
    (stands_whole section start (group_of c.args.group) stands) marked
    c.rename_entries.new.entries is new c.in_ok-class.class c.in_ok-first.first (record {
      place = c.in_ok-class.ensures.place
          ∙ ap (unwrap_or (place_of c.args.self.now.known.entries c.rename_entries.new.entries))
          (len_next ∙ sym firsts_long);
      same_known = λ e. c.in_ok-first.ensures.known ∙ c.in_ok-class.ensures.known e;
      new_known = λ e other. ap (λ es. place_of es other) c.in_ok-first.ensures.known
          ∙ (c.in_ok-class.ensures.new e other
          ∙ ap (λ (n : ℕ). if are_same c.rename_entries.new.entries other then Some n
          else place_of c.args.self.now.known.entries other) (len_next ∙ sym firsts_long));
      old_first = first_of_class classes c.in_ok-class.class c.in_ok-first.first c.in_ok-first.ensures.old;
      old_firsts = λ low. ap (map (λ (k : Class). k.first))
          (c.in_ok-first.ensures.old_classes (omega (arith, low, firsts_long)));
      old_count = λ low. c.in_ok-first.ensures.old_count (omega (arith, low, firsts_long));
      new_first = λ over. c.in_ok-first.ensures.new (omega (arith, over, firsts_long));
      new_firsts = λ over. c.in_ok-first.ensures.new_classes (omega (arith, over, firsts_long));
      new_count = λ over fits. c.in_ok-first.ensures.new_count (omega (arith, over, firsts_long))
          (omega (arith, fits, size)) ∙ omega (arith, size);
      pushed = λ fits. c.in_ok-push_slots.ensures (omega (arith, fits, size))
          ∙ (ap (λ (xs : List ℕ). xs ++ range_with_len c.in_ok-first.first c.len-count.result)
          c.in_ok-first.ensures.slots
          ∙ ap (λ (n : ℕ). c.args.self.now.slots.items ++ range_with_len c.in_ok-first.first n) size);
    }) in (
      subst (λ (n : ℕ). IsReadTo (index_space section) marks n new) (sym r.one_each) r,
      r.one_each,
    )
