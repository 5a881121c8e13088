-- Custom sections of an unknown kind (`IsUnknownCustom`), and modules without these. `allowed` has the
-- names of further sections that a caller knows.
-- WebAssembly core specification, "Binary Format", "Custom Section". The names are conventions of
-- tools, but for `name`.
use Rattle.std.specs.Prelude.{◌≡◌, ℕ, List, [], ◌∷◌, ◌++◌, map, codes}
use Rattle.std.specs.Borrow.{Bor}
use Rattle.std.specs.List.{Any}
use Rattle.wasm_binary.specs.Modules.{Section}
use Rattle.wasm_module.specs.Customs.{IsDescriptionName, HasName, HasNone, HasFirstAt}

-- Sections of these names refer to no type and to no place in the file, but for `name`, which is
-- written again with the types that it names. The first ones are conventions for all tools, and the
-- others are of single tools.
abbrev pub known_names : List (List ℕ)
known_names =
    codes "name"
    ∷ codes "producers"
    ∷ codes "target_features"
    ∷ codes "dylink.0"
    ∷ codes "dylink"
    ∷ codes "build_id"
    ∷ codes "authors"
    ∷ codes "licenses"
    ∷ codes "description"
    ∷ codes "homepage"
    ∷ codes "source"
    ∷ codes "revision"
    ∷ codes "version"
    ∷ codes ".dep-v0"
    ∷ codes ".llvmbc"
    ∷ codes ".llvmcmd"
    ∷ codes "emscripten_metadata"
    ∷ codes "__wasm_bindgen_unstable"
    ∷ codes "contractspecv0"
    ∷ codes "contractmetav0"
    ∷ codes "contractenvmetav0"
    ∷ []

-- Sections of these names are of a known kind. `component_type` has the types of a component, which
-- are none of the module. Those of `description` describe other bytes of their module.
pub data IsKnownName (allowed : List (Bor (List ℕ))) : List ℕ → Type 0 where
  listed : (name : List ℕ) → Any (λ k. k ≡ name) known_names → IsKnownName allowed name
  component_type : (rest : List ℕ) → IsKnownName allowed (codes "component-type" ++ rest)
  description : (name : List ℕ) → IsDescriptionName name → IsKnownName allowed name
  is_allowed :
      (name : List ℕ) → Any (λ k. k ≡ name) (map (λ k. k.now) allowed) → IsKnownName allowed name

-- a custom section that has no known name; one without a whole name has none
pub record IsUnknownCustom (allowed : List (Bor (List ℕ))) (s : Section) : Type 0 where
  pub is_custom : s.id ≡ 0
  pub unknown : (name : List ℕ) → HasName name s.content → IsKnownName allowed name → ⊥

-- ---- where the first of them is

-- no custom section of the module is of an unknown kind
abbrev pub HasNoUnknownCustom : List (Bor (List ℕ)) → List ℕ → Type 0
HasNoUnknownCustom allowed = HasNone (IsUnknownCustom allowed)

-- the first custom section of an unknown kind begins at this place of the module
abbrev pub HasUnknownCustomAt : List (Bor (List ℕ)) → List ℕ → ℕ → Type 0
HasUnknownCustomAt allowed = HasFirstAt (IsUnknownCustom allowed)
