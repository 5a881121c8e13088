-- What contracts see of a map from the indices of a section to ids.
-- WebAssembly core specification, "Modules", indices: types, functions and globals have an index
-- space each. Ids are of this crate's own.
use Rattle.std.specs.Prelude.{ℕ, List, Option, slice_get}

-- the ids of each kind, each at the index that stands for it
pub record IdLists : Type 0 where
  pub types : List ℕ
  pub funcs : List ℕ
  pub globals : List ℕ

-- the type that an index stands for
abbrev pub type_at : IdLists → ℕ → Option ℕ
type_at m = slice_get m.types
