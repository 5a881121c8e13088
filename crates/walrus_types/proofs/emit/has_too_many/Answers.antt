use Rattle.std.proofs.Common.{arith}
use Rattle.std.proofs.lemmas.Bool.{leb-true}
use Rattle.walrus_types.proofs.Emission.EmittedTables.{few_written}
use Rattle.walrus_types.proofs.emit.has_too_many.Goals as goal

pub returns-else-index-ge-TOO_MANY : goal.returns-else-index-ge-TOO_MANY
returns-else-index-ge-TOO_MANY c =
    let few = few_written c.args.table.now c.rec_groups-groups.ensures.grouping in (
      (λ reached. absurd (omega (
        arith,
        leb-true 4294967296 c.index.result reached,
        c.if-index-ge-TOO_MANY.false,
      ))),
      (λ many. absurd (omega (
        arith,
        many,
        few,
        c.next_id.ensures,
        c.index.ensures,
        c.if-index-ge-TOO_MANY.false,
      ))),
    )
