-- What an error says of bytes of which no module is made, or only one that can be wrong.
use Rattle.std.specs.Prelude.{◌≡◌, ℕ, List}
use Rattle.std.specs.Borrow.{Bor}
use Rattle.wasm_normalise.specs.Hazards.{IsHazard}
use Rattle.wasm_normalise.specs.CanonicalModules.{DescriptionsFit, IsCanonicalModule, IsRefusedBy}
use Rattle.wasm_normalise.specs.declared.hazards.Hazard.{Hazard}
use Rattle.wasm_normalise.specs.declared.options.Descriptions.TheVariants as descriptions
use Rattle.wasm_normalise.specs.declared.options.NormaliseOptions.{NormaliseOptions}
use Rattle.wasm_normalise.specs.declared.strict.StrictError.{StrictError}
use Rattle.wasm_normalise.specs.declared.strict.StrictError.TheVariants as failure

-- the bytes are a module with its types in canonical form, in which this can be wrong
pub record HasHazard (options : NormaliseOptions) (allowed : List (Bor (List ℕ))) (bytes : List ℕ)
    (h : Hazard) : Type 0 where
  pub new : List ℕ
  pub is_canonical : IsCanonicalModule options bytes new
  pub fits : options.descriptions ≡ descriptions.Kept → DescriptionsFit bytes new
  pub is_hazard : IsHazard allowed bytes h

abbrev pub IsStrictError :
    NormaliseOptions → List (Bor (List ℕ)) → List ℕ → StrictError → Type 0
IsStrictError options allowed bytes (failure.Refused e) = IsRefusedBy options bytes e
IsStrictError options allowed bytes (failure.Hazard h) = HasHazard options allowed bytes h
