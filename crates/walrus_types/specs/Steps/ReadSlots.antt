-- The slots that reading fills, as lists of types.
-- Of this crate's own working; it serves the reading of a type section. WebAssembly core
-- specification, "Modules", types.
use Rattle.std.specs.Prelude.{ℕ, ◌+◌, List, [], ◌∷◌, map, Some}
use Rattle.walrus_ty.specs.Definition.{Definition, rename}
use Rattle.walrus_ty.specs.Types.{ModuleType}
use Rattle.walrus_types.specs.TypesById.{TypeSlots}
use Rattle.walrus_types.specs.ReadResult.{type_of_definition}

-- the types with these definitions, renamed, and ids from b on
abbrev pub types_of_definitions : (ℕ → ℕ) → ℕ → List Definition → List ModuleType
types_of_definitions m b [] = []
types_of_definitions m b (d ∷ ds) =
    type_of_definition (rename m d) b ∷ types_of_definitions m (b + 1) ds

-- a live slot for each of these types
abbrev pub live_slots : List ModuleType → TypeSlots
live_slots tys = map Some tys
