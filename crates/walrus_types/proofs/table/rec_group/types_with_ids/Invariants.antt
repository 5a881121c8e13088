use Rattle.std.proofs.Common.{◌≡◌, ◌+◌, ◌≤◌, ◌<◌, ◌^◌, ◌++◌, length, vec_len, vec_capacity}
use Rattle.std.specs.Vec.Iter.{into_iter_items}
use Rattle.walrus_types.specs.Table.{member_types}
use Rattle.walrus_types.proofs.table.rec_group.types_with_ids.Given as goal

abbrev pub invariant-loop-kind : goal.invariant-loop-kind
invariant-loop-kind l =
    let left = into_iter_items l.kind-iterator in record {
      shown : l.types.items ++ member_types (l.first + vec_len l.types) left ≡ member_types l.first
          l.fn.members.items;
      room : vec_len l.types + length left ≤ vec_capacity l.types;
      fits : l.first + (vec_len l.types + length left) < 2 ^ 64;
    }
