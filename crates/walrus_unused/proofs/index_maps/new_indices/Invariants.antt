use Rattle.std.proofs.Common.{◌≡◌, map, take}
use Rattle.walrus_ty.specs.Indices.{type_index}
use Rattle.walrus_unused.proofs.index_maps.new_indices.Given as goal

abbrev pub invariant-loop-id : goal.invariant-loop-id
invariant-loop-id l = l.new.items ≡ map (type_index l.indices) (take l.id-index l.ids)
