use Rattle.std.proofs.Common.{◌≡◌, ◌≤◌, vec_len, vec_capacity}
use Rattle.std.specs.List.{range_with_len}
use Rattle.walrus_types.proofs.table.ModuleTypes.next_ids.Given as goal

abbrev pub invariant-loop-k : goal.invariant-loop-k
invariant-loop-k l = record {
  made : l.ids.items ≡ range_with_len l.first l.k;
  many : vec_len l.ids ≡ l.k;
  room : l.count ≤ vec_capacity l.ids;
}
