use Rattle.std.proofs.Common.{take, ◌∙◌, ap, sym}
use Rattle.std.proofs.lemmas.List.{take_more}
use Rattle.std.proofs.lemmas.List.Sums.{fold_push}
use Rattle.walrus_arena.specs.Arena.{without}
use Rattle.walrus_arena.proofs.ArenaLemmas.{next_is_live}
use Rattle.walrus_arena.proofs.SetLemmas.{RemovesAll-push}
use Rattle.walrus_arena.proofs.arena_set.ArenaSet.remove_all.Goals as goal

pub take_out-requires : goal.take_out-requires
take_out-requires g c =
    let next = next_is_live c.args.self.now.slots c.args.ids.now c.loop-id.id-index c.id-item.result
    c.requires.live c.requires.distinct c.loop-id-test.true in
    rw (c.loop-id.invariant.slots, c.place.ensures, c.id-item.is) next

pub loop-id-preserved : goal.loop-id-preserved
loop-id-preserved g c =
    let more = take_more c.args.ids.now c.loop-id.id-index c.id-item.result c.loop-id-test.true in
    rw (more, ← c.id-item.is, ← c.place.ensures) (record {
      slots = c.take_out.ensures.slots ∙ ap (λ s. without s c.place.result) c.loop-id.invariant.slots
          ∙ sym (fold_push without c.args.self.now.slots (take c.loop-id.id-index c.args.ids.now)
          c.place.result);
      removed = RemovesAll-push g.T.PartialEq.eq _ c.loop-id.self _ _ _ c.loop-id.invariant.removed
          c.take_out.ensures;
    })
