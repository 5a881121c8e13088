use Rattle.std.proofs.Common.{◌≡◌, map, take}
use Rattle.walrus_ty.specs.{Indices.type_index, Lookups.value_or_zero}
use Rattle.walrus_types.proofs.read_then_emit.indices_of.Given as goal

abbrev pub invariant-loop-id : goal.invariant-loop-id
invariant-loop-id l = l.all.items ≡ map (value_or_zero (type_index l.indices)) (take l.id-index l.ids)
