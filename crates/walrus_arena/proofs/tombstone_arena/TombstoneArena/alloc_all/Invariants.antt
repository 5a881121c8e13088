use Rattle.std.proofs.Common.{◌≡◌, ◌+◌, ◌≤◌, ◌++◌, map, length, vec_len, vec_capacity, Some}
use Rattle.std.specs.Vec.Iter.{into_iter_items}
use Rattle.walrus_arena.specs.Arena.{range}
use Rattle.walrus_arena.specs.Slot.{value_of, IsCounted}
use Rattle.walrus_arena.proofs.tombstone_arena.TombstoneArena.alloc_all.Given as goal

abbrev pub invariant-loop-item : goal.invariant-loop-item
invariant-loop-item g l =
    let left = into_iter_items l.item-iterator in
    let slots = l.self-inside.slots in record {
      counted : IsCounted slots.items l.self-inside.live;
      shown : map value_of slots.items ++ map Some left ≡ l.fn.self ++ map Some l.fn.values.items;
      named : l.all.items ++ range (vec_len slots) (length left) ≡ range (length l.fn.self)
          (vec_len l.fn.values);
      room : vec_len slots + length left ≤ vec_capacity slots;
      room_named : vec_len l.all + length left ≤ vec_capacity l.all;
    }
