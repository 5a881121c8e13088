-- What reading does to a table.
-- Of this crate's own working; it serves the reading of a type section. WebAssembly core
-- specification, "Modules", types.
use Rattle.std.specs.Prelude.{◌≡◌, ℕ, List, [], ◌∷◌, ◌++◌, map, None, MatchOption}
use Rattle.walrus_ty.specs.Definition.{Definition}
use Rattle.walrus_types.specs.TypesById.{KnowsSame, found_id}
use Rattle.walrus_types.specs.Table.{Table, Member, AddsType, AddsGroup}
use Rattle.walrus_ty.specs.Types.{ModuleType, kind_composite}

-- the next id is used up: its slot is dead, and nothing else changes
pub record UsesUpId (old new : Table) : Type 0 where
  pub slots : new.types.slots ≡ old.types.slots ++ None ∷ []
  pub map : KnowsSame old.types new.types
  pub groups : new.groups ≡ old.groups
  pub keys : new.types.keys ≡ old.types.keys

-- what is found is returned and the next id is used up; where nothing is found the type is added
abbrev pub ReadsSingle : Table → Table → ModuleType → ℕ → Type 0
ReadsSingle old new ty id =
    MatchOption (found_id old.types ty) (AddsType old new ty id)
    (λ found. (id ≡ found) × UsesUpId old new)

-- what is said of a new type of a group, as a definition
abbrev pub member_definition : Member → Definition
member_definition m = record { composite = kind_composite m.0; is_final = m.1; supertype = m.2 }

-- the types of a group with these definitions are added
abbrev pub ReadsRec : Table → Table → List Definition → Type 0
ReadsRec old new ds =
    (members : List Member) × AddsGroup old new members × (map member_definition members ≡ ds)
