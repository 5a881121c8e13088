-- `IsWritingOrder`: the order in which groups are written, and what each is written as.
-- WebAssembly core specification, "Modules", types. The specification has no such order; this one is
-- of this crate's own.
use Rattle.std.specs.Prelude.{◌≡◌, ℕ, ◌<◌, cond, List, length, map, slice_get, slice_index, Option, Some, unwrap_or}
use Rattle.std.specs.List.{flat_map}
use Rattle.walrus_ty.specs.Definition.{Definition, rename}
use Rattle.walrus_ty.specs.Groups.{Group, Single, Rec}
use Rattle.walrus_sections.specs.SlotMap.{TypeGroup}
use Rattle.walrus_sections.specs.Emission.{TableView, group_at, IsWritten, IsWrittenBefore}

-- the written groups, in the order in which they are written
pub record IsWritingOrder (table : TableView) (order : List ℕ) : Type 0 where
  pub written : (a : ℕ) → a < length order → IsWritten table (slice_index order a)
  pub onto :
      (group : ℕ) → IsWritten table group →
      (a : ℕ) × (a < length order) × (slice_index order a ≡ group)
  pub stands :
      (a b : ℕ) → a < b → b < length order →
      IsWrittenBefore table (slice_index order a) (slice_index order b)

-- the groups at these places
abbrev pub in_order : List TypeGroup → List ℕ → List TypeGroup
in_order gs order = map (group_at gs) order

-- the ids of these groups in order
abbrev pub ids_in : List TypeGroup → List ℕ
ids_in ws = flat_map (λ w. w.ids) ws

-- how many ids the groups at these places have
abbrev pub id_count : List TypeGroup → List ℕ → ℕ
id_count gs order = length (ids_in (in_order gs order))

-- no id stands in the list twice
abbrev pub IsApart : List ℕ → Type 0
IsApart ids = (p q i : ℕ) → slice_get ids p ≡ Some i → slice_get ids q ≡ Some i → p ≡ q

-- the group, each of its ids written as this definition
abbrev pub written_group : (ℕ → Definition) → TypeGroup → Group
written_group d w = cond w.is_explicit (Rec (map d w.ids)) (Single (d (slice_index w.ids 0)))

-- the definition of the id, with each name replaced by its index
abbrev pub with_indices : (ℕ → Option ℕ) → (ℕ → Definition) → ℕ → Definition
with_indices index definition i = rename (λ k. unwrap_or (index k) 0) (definition i)
