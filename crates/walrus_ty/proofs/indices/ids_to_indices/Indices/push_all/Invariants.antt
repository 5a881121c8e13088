use Rattle.std.proofs.Common.{◌≡◌, ◌+◌, take, ◌≤◌, length}
use Rattle.std.specs.HashMap.{spare}
use Rattle.walrus_ty.specs.Indices.{GivesAll, index_map}
use Rattle.walrus_ty.proofs.indices.ids_to_indices.Indices.push_all.Given as goal

abbrev pub invariant-loop-id : goal.invariant-loop-id
invariant-loop-id g l = record {
  gives : GivesAll (index_map l.fn.self) (index_map l.self) (take l.id-index l.ids);
  many : l.self.count ≡ l.fn.self.count + l.id-index;
  room : length l.ids ≤ spare l.self.by_id + l.id-index;
}
