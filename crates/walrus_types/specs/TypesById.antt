-- The types of a module by id, and at which id a type is found by its value. An id is never used
-- again: that of a type that died keeps its place.
-- WebAssembly core specification, "Modules", types: a module has a list of types, and each is named
-- by its place in it.
-- The specification has no type that dies and no look-up by value; both are of this crate's own.
use Rattle.walrus_arena.specs.HashKeys.{InitialHasher}
use Rattle.walrus_ty.specs.SameTypes.{type_eq}
use Rattle.std.specs.Prelude.{◌≡◌, ℕ, List, [], ◌∷◌, ◌++◌, length, Bool, false, ◌&&◌, ◌==◌, if◌then◌else◌, Option, Some, None, IsSome, option_and_then, slice_index_or, slice_set}
use Rattle.std.specs.Option.{option_eq}
use Rattle.std.specs.Map.{lookup}
use Rattle.walrus_ty.specs.Types.{ModuleType}

-- at the place of each id its type, and `None` where none lives
abbrev pub TypeSlots : Type 0
TypeSlots = List (Option ModuleType)

-- the types by id; a finite map from types to ids, of which only the look-up means something
-- (`known_id`); and the keys of the hash by which types are found
pub record TypesById : Type 0 where
  pub slots : TypeSlots
  pub entries : List (ModuleType × ℕ)
  pub keys : InitialHasher

-- the type of this id, if it is live
abbrev pub live_type : TypeSlots → ℕ → Option ModuleType
live_type slots id = slice_index_or slots id None

-- the type of this id lives
abbrev pub IsLive : TypeSlots → ℕ → Type 0
IsLive slots id = IsSome (live_type slots id)

-- there is a type, and it passes the test
abbrev pub passes : (ModuleType → Bool) → Option ModuleType → Bool
passes test None = false
passes test (Some ty) = test ty

-- the id that is known for a type: the map has it for the types equal to this one, whatever became
-- of it since
abbrev pub known_id : TypesById → ModuleType → Option ℕ
known_id t q = lookup (type_eq q) t.entries

-- the id that is found for a type: the known one, if it is live and its type is equal to this one
abbrev pub found_id : TypesById → ModuleType → Option ℕ
found_id t q =
    option_and_then (λ id. if passes (type_eq q) (live_type t.slots id) then Some id else None)
    (known_id t q)

-- q is equal to the type of the id, and this very id is known for that type
abbrev pub is_known_as : TypesById → ℕ → ModuleType → Bool
is_known_as t id q =
    passes (λ ty. type_eq ty q && option_eq (λ a b. a == b) (known_id t ty) (Some id))
    (live_type t.slots id)

module _ (old new : TypesById) where
  -- the same ids are known for the same types
  abbrev pub KnowsSame : Type 0
  KnowsSame = (q : ModuleType) → known_id new q ≡ known_id old q

  -- the same types, the same ids known for them, and the same keys
  pub record IsUnchanged : Type 0 where
    pub slots : new.slots ≡ old.slots
    pub map : KnowsSame
    pub keys : new.keys ≡ old.keys

  -- the type has the next id, this is known for the types equal to it, and the keys stay
  pub record Gains (ty : ModuleType) (id : ℕ) : Type 0 where
    pub is_next : id ≡ length old.slots
    pub slots : new.slots ≡ old.slots ++ Some ty ∷ []
    pub map : (q : ModuleType) → known_id new q ≡ (if type_eq ty q then Some id else known_id old q)
    pub keys : new.keys ≡ old.keys

  -- the type of the id died; where this very id was known for the types equal to it, none is known
  -- any more; and the keys stay
  pub record Loses (id : ℕ) : Type 0 where
    pub slots : new.slots ≡ slice_set old.slots id None
    pub map :
        (q : ModuleType) → known_id new q ≡ (if is_known_as old id q then None else known_id old q)
    pub keys : new.keys ≡ old.keys

-- the types of these ids died, one after the other
abbrev pub LosesAll : TypesById → List ℕ → TypesById → Type 0
LosesAll old [] new = IsUnchanged old new
LosesAll old (id ∷ ids) new =
    (between : TypesById) × Loses old between id × LosesAll between ids new
