use Rattle.std.proofs.Common.{◌∙◌}
use Rattle.walrus_types.proofs.Tables.DeadTypes.{last_taken}
use Rattle.walrus_types.proofs.table.delete.remove_id.Goals as goal

pub returns-then-is_last : goal.returns-then-is_last
returns-then-is_last c =
    c.pop.ensures.rest ∙ last_taken c.args.id c.args.ids.now c.requires
    (rw c.as_slice.ensures at (c.is_last.ensures.0 c.if-is_last.true))
