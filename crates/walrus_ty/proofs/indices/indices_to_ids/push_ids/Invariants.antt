use Rattle.std.proofs.Common.{◌≡◌, ◌+◌, ◌++◌, vec_len, vec_capacity}
use Rattle.std.specs.List.{range_with_len}
use Rattle.walrus_ty.proofs.indices.indices_to_ids.push_ids.Given as goal

abbrev pub invariant-loop-k : goal.invariant-loop-k
invariant-loop-k l = record {
  pushed : l.ids.items ≡ l.fn.ids.items ++ range_with_len l.first l.k;
  many : vec_len l.ids ≡ vec_len l.fn.ids + l.k;
  room : vec_capacity l.ids ≡ vec_capacity l.fn.ids;
}
