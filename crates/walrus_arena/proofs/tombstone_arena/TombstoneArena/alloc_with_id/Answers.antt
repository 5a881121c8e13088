use Rattle.std.proofs.Common.{◌≡◌, length, ◌∙◌, arith}
use Rattle.std.proofs.lemmas.Grind.{common_steps}
use Rattle.walrus_arena.proofs.tombstone_arena.TombstoneArena.alloc_with_id.Goals as goal

pub returns-clause-id : goal.returns-clause-id
returns-clause-id g c =
    let counted : c.len-at.result ≡ length c.args.self.now = grind (arith, common_steps) in
    c.from_index-2.ensures ∙ counted
