use Rattle.std.proofs.Common.{refl, arith}
use Rattle.walrus_canonical.specs.Steps.Writing.{Task}
use Rattle.walrus_canonical.proofs.write.write_section.Goals as goal

pub returns : goal.returns
returns c = λ section roots well known needs are. (
    let task : Task = record {
      section = section;
      roots = roots;
      marks = c.args.needed.now;
      slots = c.args.read.slots.items;
      slot_count = c.args.read.slot_count;
      classes = c.args.read.classes.items;
      well = well;
      known = known;
      needs = needs;
      are = are;
    } in
    c.in_ok-written.ensures task refl refl (omega (arith, are.one_each)) c.in_ok-map.map.items
    (rw (c.as_slice.ensures.value, c.as_slice-2.ensures.value) at c.in_ok-map.ensures))
