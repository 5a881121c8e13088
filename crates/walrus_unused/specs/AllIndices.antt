-- Which tables can be written without a name that misses its index.
-- WebAssembly core specification, "Validation", "Modules", types: a group is valid where it names
-- types of its own and of the groups before it.
use Rattle.walrus_types.specs.Refusal.{NameUse, IsMissing}
use Rattle.walrus_types.specs.Table.{Table}
use Rattle.walrus_types.specs.TableEmission.{table_view}

-- each name in a group that is written stands for a type of that group, or of one that is written
-- before it
abbrev pub HasAllIndices : Table → Type 0
HasAllIndices t = (name : NameUse) → ¬ (IsMissing (table_view t) name)
