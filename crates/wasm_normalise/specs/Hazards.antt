-- What can be wrong in a module with its types in canonical form. `allowed` has the names of custom
-- sections that the caller knows.
use Rattle.std.specs.Prelude.{ℕ, List}
use Rattle.std.specs.Borrow.{Bor}
use Rattle.wasm_module.specs.UnknownCustoms.{HasNoUnknownCustom, HasUnknownCustomAt}
use Rattle.wasm_module.specs.UnreadNames.{HasNoUnreadNames, HasUnreadNamesAt}
use Rattle.wasm_normalise.specs.CanonicalModules.{HasCount}
use Rattle.wasm_normalise.specs.declared.hazards.Hazard.{Hazard}
use Rattle.wasm_normalise.specs.declared.hazards.Hazard.TheVariants as hazard

-- no custom section is of an unknown kind, and the sections `name` can be read
pub record HasNoHazard (allowed : List (Bor (List ℕ))) (bytes : List ℕ) : Type 0 where
  pub none_unknown : HasNoUnknownCustom allowed bytes
  pub none_unread : (count : ℕ) → HasCount bytes count → HasNoUnreadNames count bytes

-- the first section `name` that can't be read begins at this place
pub record HasUnreadAt (bytes : List ℕ) (offset : ℕ) : Type 0 where
  pub count : ℕ
  pub has_count : HasCount bytes count
  pub at : HasUnreadNamesAt count bytes offset

-- what a hazard says of the bytes
abbrev pub IsHazard : List (Bor (List ℕ)) → List ℕ → Hazard → Type 0
IsHazard allowed bytes (hazard.UnknownSection offset) = HasUnknownCustomAt allowed bytes offset
IsHazard allowed bytes (hazard.UnreadNames offset) = HasUnreadAt bytes offset
