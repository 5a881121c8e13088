-- Why the types of a module have no canonical form.
use Rattle.std.specs.Prelude.{◌≡◌, ℕ, List}
use Rattle.wasm_normalise.specs.declared.options.UnusedTypes.{UnusedTypes}
use Rattle.wasm_normalise.specs.declared.options.UnusedTypes.TheVariants as kinds
use Rattle.wasm_normalise.specs.declared.refusal.Refusal.{Refusal}
use Rattle.wasm_normalise.specs.declared.refusal.Refusal.TheVariants as refusal
use Rattle.wasm_normalise.specs.CanonicalModules.{HasNoKnownRoots, HasTypesError}

-- what a refusal says of the types of the module
abbrev pub IsTypesRefusal : UnusedTypes → List ℕ → Refusal → Type 0
IsTypesRefusal unused bytes refusal.Fault = (unused ≡ kinds.Deleted) × HasNoKnownRoots bytes
IsTypesRefusal unused bytes (refusal.Other e) = HasTypesError bytes e
