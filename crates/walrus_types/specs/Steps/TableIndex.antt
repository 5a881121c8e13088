-- How a table finds the group of a type.
-- Of this crate's own working; it serves the groups of a table. WebAssembly core specification,
-- "Types", recursive types.
use Rattle.std.specs.Prelude.{◌≡◌, ℕ, ◌<◌, ◌≤◌, List, length, slice_index, Some, false}
use Rattle.walrus_ty.specs.Types.{ModuleType}
use Rattle.walrus_types.specs.TypesById.{IsLive, known_id}
use Rattle.walrus_types.specs.Table.{Table, IsIdAt, rec_group_at}

-- group_of has the number of the group of each live id
pub record IsIndexed (t : Table) (group_of : List ℕ) : Type 0 where
  pub one_each : length group_of ≡ length t.types.slots
  pub grouping :
      (id : ℕ) → IsLive t.types.slots id → (u : ℕ) × IsIdAt t.groups (slice_index group_of id) u id
  pub live : (k u id : ℕ) → IsIdAt t.groups k u id → IsLive t.types.slots id
  pub own : (k u id : ℕ) → IsIdAt t.groups k u id → slice_index group_of id ≡ k
  pub once : (k u v id : ℕ) → IsIdAt t.groups k u id → IsIdAt t.groups k v id → u ≡ v
  pub single :
      (k : ℕ) → (rec_group_at t.groups k).is_explicit ≡ false →
      length (rec_group_at t.groups k).types ≤ 1
  pub known_implicit :
      (q : ModuleType) (id : ℕ) → known_id t.types q ≡ Some id → IsLive t.types.slots id →
      (rec_group_at t.groups (slice_index group_of id)).is_explicit ≡ false
  pub known_below :
      (q : ModuleType) (id : ℕ) → known_id t.types q ≡ Some id → id < length t.types.slots
