-- Why no module with its types in canonical form is made, before the place of a fault in it is
-- looked for.
use Rattle.std.specs.Prelude.{ℕ, List}
use Rattle.wasm_normalise.specs.declared.options.NormaliseOptions.{NormaliseOptions}
use Rattle.wasm_normalise.specs.declared.refusal.Refusal.{Refusal}
use Rattle.wasm_normalise.specs.declared.refusal.Refusal.TheVariants as refusal
use Rattle.wasm_normalise.specs.CanonicalModules.{IsRefusedBy, IsStoppedByFault}

-- what a refusal says of the module
abbrev pub IsRefusal : NormaliseOptions → List ℕ → Refusal → Type 0
IsRefusal options bytes refusal.Fault = IsStoppedByFault options bytes
IsRefusal options bytes (refusal.Other e) = IsRefusedBy options bytes e
