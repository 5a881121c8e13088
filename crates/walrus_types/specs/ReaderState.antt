-- What contracts see of a section that is read group by group.
-- WebAssembly core specification, "Binary Format", type section: the recursion groups of a module,
-- one after the other.
use Rattle.std.specs.Prelude.{◌≡◌, ℕ, List}
use Rattle.walrus_ty.specs.Groups.{Section}
use Rattle.walrus_types.specs.TableEmission.{type_groups}
use Rattle.walrus_types.specs.TypesById.{known_id}
use Rattle.walrus_types.specs.Table.{Table, IsSameTable}
use Rattle.walrus_types.specs.ReadResult.{IsReadResult}

-- the table so far, and the id that each index stands for
pub record ReaderState : Type 0 where
  pub table : Table
  pub ids : List ℕ

-- the table and the ids are what this section is read into
abbrev pub IsReadInto : Section → Table → List ℕ → Type 0
IsReadInto s t ids = IsReadResult s ids t.types.slots (known_id t.types) (type_groups t.groups)

-- the same table, and the same ids
pub record IsSameState (old new : ReaderState) : Type 0 where
  pub table : IsSameTable old.table new.table
  pub ids : new.ids ≡ old.ids
