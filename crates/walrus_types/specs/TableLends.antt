-- What a table ends as, where a `&mut` to one of its types is returned.
-- The specification has no writes of types: they are of this crate's own.
use Rattle.std.specs.Prelude.{ℕ, Some, slice_set}
use Rattle.std.specs.Borrow.{Lends, Fml, MutBor}
use Rattle.walrus_ty.specs.Types.{ModuleType}
use Rattle.walrus_types.specs.Table.{Table}
use Rattle.walrus_ty.specs.contracts.ty.«Type».{the_row as type_row}
use Rattle.walrus_types.specs.contracts.table.ModuleTypes.{the_row as table_row}

-- the table after a write of this type at the id: what is found and the groups stay
abbrev pub with_type : Table → ℕ → ModuleType → Table
with_type table id ty =
    record table { types = record table.types { slots = slice_set table.types.slots id (Some ty) } }

-- once the borrow of the type ends, the id has the last one written through it
abbrev pub LendsType : MutBor Table → ℕ → MutBor ModuleType → Fml
LendsType table id ty = Lends table_row type_row table ty (with_type table.now id)
