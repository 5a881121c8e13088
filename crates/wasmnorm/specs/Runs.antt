-- What a run does: `IsWritten` where its bytes are a module that is written again, `IsRefused` and
-- `IsRejected` where not. `IsWarned` says when there is a warning. `IsGiven` says
-- which options the arguments give, and `values_of` their values.
use Rattle.std.specs.Prelude.{◌≡◌, ℕ, ◌⊎◌, true, List, [], ◌∷◌, ◌++◌, Option, if◌then◌else◌, bytes_eq, codes}
use Rattle.std.specs.Borrow.{Bor}
use Rattle.std.specs.List.{flat_map, list_any}
use Rattle.std.specs.Io.KnownBytes.{Appends, Keeps}
use Rattle.std.specs.String.{string_bytes}
use Rattle.std.specs.declared.alloc.Global.{Global}
use Rattle.std.specs.declared.string.String.{String}
use Rattle.command_line.specs.declared.arguments.OptionValue.{OptionValue}
use Rattle.wasm_normalise.specs.declared.options.Descriptions.TheVariants.{Kept}
use Rattle.wasm_normalise.specs.declared.options.NormaliseOptions.{NormaliseOptions}
use Rattle.wasm_normalise.specs.CanonicalModules.{IsCanonicalModule, DescriptionsFit}
use Rattle.wasm_normalise.specs.Hazards.{HasNoHazard, IsHazard}
use Rattle.wasm_normalise.specs.Meanings.{NameEqualTypes}
use Rattle.wasm_normalise.specs.declared.error.NormaliseModuleError.{NormaliseModuleError}
use Rattle.wasm_normalise.specs.declared.error.NormaliseModuleError.TheVariants as error
use Rattle.wasm_normalise.specs.declared.hazards.Hazard.{Hazard}
use Rattle.wasmnorm.specs.Judged.{ExplainsError}
use Rattle.wasmnorm.specs.declared.options.RunOptions.{RunOptions}
use Rattle.wasmnorm.specs.declared.options.Strictness.TheVariants.{Strict}

-- The bytes are a module, and a writer gained the same module with its type section in canonical
-- form. The types that it names are equal to those that the bytes name. Where sections that describe
-- other bytes are kept, they still fit.
pub record IsWritten (options : NormaliseOptions) (bytes : List ℕ) (old new : Option (List ℕ)) :
    Type 0 where
  pub made : List ℕ
  pub is_canonical : IsCanonicalModule options bytes made
  pub same_types : NameEqualTypes bytes made
  pub fit : options.descriptions ≡ Kept → DescriptionsFit bytes made
  pub written : Appends old new made

-- ---- warnings

-- a warning with this text, and a line feed behind it
abbrev pub warning_line : List ℕ → List ℕ
warning_line text = codes "warning: " ++ (text ++ 10 ∷ [])

-- a writer gained a warning
abbrev pub Warns : Option (List ℕ) → Option (List ℕ) → Type 0
Warns old new = (text : List ℕ) × Appends old new (warning_line text)

-- a writer gained nothing but a warning
abbrev pub WarnsAtMost : Option (List ℕ) → Option (List ℕ) → Type 0
WarnsAtMost old new = Keeps old new ⊎ Warns old new

-- A writer gained nothing, where each custom section of the bytes is of a known kind, and their names
-- can be read. Otherwise it gained a warning.
pub data IsWarned (allowed : List (Bor (List ℕ))) (bytes : List ℕ) (old new : Option (List ℕ)) :
    Type 0 where
  not_warned : HasNoHazard allowed bytes → Keeps old new → IsWarned allowed bytes old new
  of_hazard :
      (h : Hazard) → IsHazard allowed bytes h → Warns old new → IsWarned allowed bytes old new

-- ---- where no module is written

-- the exit status of a module that is refused with this error
abbrev pub refused_status : NormaliseModuleError → ℕ
refused_status (error.Types e) = 1
refused_status (error.BadIndex entry index end) = 2
refused_status error.TooMany = 2
refused_status (error.Malformed place) = 1
refused_status (error.UnknownType index count place) = 2
refused_status error.TooLong = 1
refused_status (error.Outdated offset) = 1
refused_status error.Memory = 3

-- an error with this exit status explains why the bytes are refused
pub record IsRefused (options : NormaliseOptions) (status : ℕ) (bytes : List ℕ) : Type 0 where
  pub error : NormaliseModuleError
  pub has_status : refused_status error ≡ status
  pub explains : ExplainsError options bytes error

-- the bytes are a module that `Strict` rejects, since a custom section of it is of an unknown kind, or
-- names in it can't be read
pub record IsRejected (options : RunOptions) (bytes : List ℕ) : Type 0 where
  pub is_strict : options.strictness ≡ Strict
  pub hazard : Hazard
  pub has : IsHazard options.allowed.now bytes hazard

-- ---- the arguments

-- the option is among these
abbrev pub IsGiven : List ℕ → List (String Global) → Type 0
IsGiven option options = list_any (λ given. bytes_eq (string_bytes given) option) options ≡ true

-- the values that an option has among these, in their order
abbrev pub values_of : List ℕ → List OptionValue → List (List ℕ)
values_of option values =
    flat_map (λ given. if bytes_eq (string_bytes given.option) option
    then string_bytes given.value ∷ [] else []) values
