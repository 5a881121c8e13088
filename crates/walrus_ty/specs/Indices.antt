-- Which indices the ids of a module were given in a section.
-- WebAssembly core specification, "Modules", indices: types, functions and globals have an index
-- space each, numbered from 0.
use Rattle.std.specs.Prelude.{◌≡◌, ℕ, ◌+◌, ◌==◌, List, length, Contains, Option, Some, None, nat_eq, slice_get, ◌↔◌, if◌then◌else◌}
use Rattle.std.specs.Map.{lookup}
use Rattle.walrus_ty.specs.declared.indices.ids_to_indices.Indices.{Indices}
use Rattle.walrus_ty.specs.declared.indices.ids_to_indices.IdsToIndices.{IdsToIndices}

-- the indices of one kind: how many ids have one, and which one an id has
pub record IndexMap : Type 0 where
  pub count : ℕ
  pub index : ℕ → Option ℕ

abbrev pub index_map : {T : Type 0} → Indices T → IndexMap
index_map x = record { count = x.count; index = λ id. lookup (nat_eq id) x.by_id.entries }

abbrev pub type_indices : IdsToIndices → IndexMap
type_indices x = index_map x.types

abbrev pub func_indices : IdsToIndices → IndexMap
func_indices x = index_map x.funcs

abbrev pub global_indices : IdsToIndices → IndexMap
global_indices x = index_map x.globals

-- the index of a type
abbrev pub type_index : IdsToIndices → ℕ → Option ℕ
type_index x = (type_indices x).index

-- no id has an index
pub record IsEmpty (x : IndexMap) : Type 0 where
  pub count : x.count ≡ 0
  pub index : (id : ℕ) → x.index id ≡ None

-- the same ids have the same indices
pub record IsSame (old new : IndexMap) : Type 0 where
  pub count : new.count ≡ old.count
  pub index : (id : ℕ) → new.index id ≡ old.index id

-- this id got the next index, and each other id keeps what it had
pub record GivesNext (old new : IndexMap) (id : ℕ) : Type 0 where
  pub count : new.count ≡ old.count + 1
  pub index :
      (other : ℕ) → new.index other ≡ (if id == other then Some old.count else old.index other)

-- the k-th of these ids has the index k, and no other id has one
pub record Indexes (known : List ℕ) (x : IndexMap) : Type 0 where
  pub count : x.count ≡ length known
  pub index : (id k : ℕ) → (x.index id ≡ Some k) ↔ (slice_get known k ≡ Some id)

-- these ids got the next indices in order, and each other id keeps what it had
pub record GivesAll (old new : IndexMap) (ids : List ℕ) : Type 0 where
  pub count : new.count ≡ old.count + length ids
  pub given : (k id : ℕ) → slice_get ids k ≡ Some id → new.index id ≡ Some (old.count + k)
  pub kept : (id : ℕ) → ¬ (Contains ids id) → new.index id ≡ old.index id
