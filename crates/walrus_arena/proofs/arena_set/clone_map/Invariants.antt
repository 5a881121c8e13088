use Rattle.std.proofs.Common.{◌≡◌}
use Rattle.std.specs.HashMap.{hasher_of}
use Rattle.std.specs.List.{IsDistinct}
use Rattle.std.specs.Map.{lookup, keys_of}
use Rattle.std.specs.Option.{option_or}
use Rattle.walrus_arena.specs.Set.{ClonesAreEqual}
use Rattle.walrus_arena.proofs.arena_set.clone_map.Given as goal

abbrev pub invariant-loop-key : goal.invariant-loop-key
invariant-loop-key g l = record {
  keys : hasher_of l.copies ≡ hasher_of l.map;
  distinct : IsDistinct g.T.PartialEq.eq (keys_of l.key-iterator);
  same : ClonesAreEqual g.T.Clone.is_clone g.T.PartialEq.eq →
      (q : g.row.T.Denot) →
      option_or (lookup (g.T.PartialEq.eq q) l.key-iterator) (lookup (g.T.PartialEq.eq q) l.copies.entries)
      ≡ lookup (g.T.PartialEq.eq q) l.map.entries;
}
