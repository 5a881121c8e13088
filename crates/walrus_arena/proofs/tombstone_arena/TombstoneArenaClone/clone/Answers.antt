use Rattle.std.proofs.Common.{sym, ◌∙◌}
use Rattle.walrus_arena.proofs.SlotLemmas.{slots_cloned, clones_counted}
use Rattle.walrus_arena.proofs.tombstone_arena.TombstoneArenaClone.clone.Goals as goal

pub invariant_of-result : goal.invariant_of-result
invariant_of-result g c = c.self.invariant
    ∙ sym (clones_counted g.T.Clone.is_clone c.self.inside.slots.items c.in_ok-clone.field-0.items
    c.in_ok-clone.ensures.cases.0)

pub returns : goal.returns
returns g c = record {
  cases = rw (← c.self.view_is) (slots_cloned g.T.Clone.is_clone c.self.inside.slots.items
      c.in_ok-clone.field-0.items c.in_ok-clone.ensures.cases.0);
}
