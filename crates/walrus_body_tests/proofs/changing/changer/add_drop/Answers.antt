use Rattle.std.proofs.Common.{refl}
use Rattle.walrus_ir.specs.Instr.TheVariants as instr
use Rattle.walrus_ir.specs.Sequence.{Sequence}
use Rattle.walrus_body_tests.proofs.changing.changer.add_drop.Goals as goal

pub returns : goal.returns
returns c =
    let before : Sequence = record {
      id = c.seq.inside.id;
      ty = c.seq.inside.ty;
      instrs = c.seq.inside.instrs.items;
      end = c.seq.inside.end;
    } in
    let after : Sequence = record before { instrs = c.push.new.self.items } in
    rw (← c.seq.view_is) (c.instrs_without_children_may_be_added.ensures before after
    (instr.Drop (record {}), c.default.result) refl refl c.in_default.ensures.items)
