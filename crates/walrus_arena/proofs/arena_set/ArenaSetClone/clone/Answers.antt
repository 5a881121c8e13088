use Rattle.walrus_arena.proofs.arena_set.ArenaSetClone.clone.Goals as goal

pub returns : goal.returns
returns g c = record {
  cases = rw (← c.self.view_is) (record {
    slots = c.in_ok-clone.ensures.cases;
    map = c.in_ok-clone_map.ensures.same;
    keys = c.in_ok-clone_map.ensures.keys;
  });
}
