use Rattle.std.proofs.Common.{refl}
use Rattle.walrus_arena.proofs.SlotLemmas.{read_live, shows_written, counts_written}
use Rattle.walrus_arena.proofs.tombstone_arena.TombstoneArena.item_mut.Goals as goal

pub invariant_of-self-lent : goal.invariant_of-self-lent
invariant_of-self-lent g c = λ w.
    let slots = c.self.inside.slots.items in
    let same = c.index_mut.ensures.value in
    let read = read_live slots c.args.at c.index_mut.result.now same (rw (← c.self.view_is) at c.requires) in
    counts_written slots c.args.at _ _ w same read c.self.invariant

pub returns : goal.returns
returns g c =
    let slots = c.self.inside.slots.items in
    let read = read_live slots c.args.at c.index_mut.result.now c.index_mut.ensures.value
    (rw (← c.self.view_is) at c.requires) in (
      (refl, λ w. rw (← c.self.view_is) (shows_written slots c.args.at _ w read)),
      record { writes_back = tt; value = rw (← c.self.view_is, c.item_mut.ensures.value) read.shown },
    )
