use Rattle.std.proofs.Common.{◌∙◌, ◌+◌, sym, ap, arith, refl, length}
use Rattle.walrus_types.specs.TableEmission.{is_entry_at}
use Rattle.walrus_types.proofs.Emission.WrittenCount.{count_more_written, count_more_left, count_part}
use Rattle.walrus_types.proofs.emit.counts_too_many.Goals as goal
use Rattle.walrus_types.proofs.emit.counts_too_many.Goals.{then-is_written_group+else-count-ge-TOO_MANY, else-is_written_group}

pub returns-then-count-ge-TOO_MANY : goal.returns-then-count-ge-TOO_MANY
returns-then-count-ge-TOO_MANY c =
    let entry = is_entry_at c.args.table.now.types.slots in
    let more = count_more_written entry c.args.groups.now c.loop-group.group-index c.group-item.result
    c.loop-group-test.true c.group-item.is (sym c.is_written_group.ensures ∙ c.if-is_written_group.true) in
    let part = count_part entry c.args.groups.now (c.loop-group.group-index + 1) in (
      (λ _. omega (
        arith,
        c.if-count-ge-TOO_MANY.true,
        ap length c.as_slice.ensures,
        c.loop-group.invariant.counted,
        more,
        part,
      )),
      (λ _. refl),
    )

pub loop-group-preserved : goal.loop-group-preserved
loop-group-preserved c =
    let entry = is_entry_at c.args.table.now.types.slots in
    let groups = c.args.groups.now in
    let i = c.loop-group.group-index in
    let g = c.group-item.result in
    elim c.if-is_written_group.branch [
      | then-is_written_group+else-count-ge-TOO_MANY w ↦
          let more = count_more_written entry groups i g c.loop-group-test.true c.group-item.is
          (sym c.is_written_group.ensures ∙ w.if-is_written_group.true) in
          record {
            counted = omega (
              arith,
              w.count-is,
              ap length w.as_slice.ensures,
              c.loop-group.invariant.counted,
              more,
            );
            few = omega (arith, w.count-is, w.if-count-ge-TOO_MANY.false);
          }
      | else-is_written_group w ↦
          let more = count_more_left entry groups i g c.loop-group-test.true c.group-item.is
          (sym c.is_written_group.ensures ∙ w.if-is_written_group.false) in
          record {
            counted = omega (arith, w.count-is, c.loop-group.invariant.counted, more);
            few = omega (arith, w.count-is, c.loop-group.invariant.few);
          }
    ]
