-- What an error says of the bytes of a run, `ExplainsError`. All of them are judged, or where the
-- framing breaks, the sections before that.
-- WebAssembly core specification, "Binary Format", modules and sections.
use Rattle.std.specs.Prelude.{◌≡◌, ℕ, ◌<◌, Bool, true, false, List, ◌∷◌, ◌++◌, length, take}
use Rattle.wasm_binary.specs.Modules.{Section, IsModule, IsNoModule}
use Rattle.wasm_module.specs.RenamedModules.{CanNotBeRenamed}
use Rattle.wasm_normalise.specs.CanonicalModules.{IsRefusedBy}
use Rattle.wasm_normalise.specs.declared.error.NormaliseModuleError.{NormaliseModuleError}
use Rattle.wasm_normalise.specs.declared.error.NormaliseModuleError.TheVariants as error
use Rattle.wasm_normalise.specs.declared.options.NormaliseOptions.{NormaliseOptions}

-- The bytes are no module, since the section of this id behind `prefix` breaks the framing. `prefix`
-- is the longest module with which the bytes begin.
pub record BreaksBehind (prefix bytes : List ℕ) : Type 0 where
  pub sections : List Section
  pub is_module : IsModule prefix sections
  pub id : ℕ
  pub rest : List ℕ
  pub parts : bytes ≡ prefix ++ id ∷ rest
  pub longest : (end : ℕ) → length prefix < end → IsNoModule (take end bytes)

-- a module, behind which a type section begins
pub record IsBeforeTypes (before bytes : List ℕ) : Type 0 where
  pub sections : List Section
  pub is_module : IsModule before sections
  pub rest : List ℕ
  pub parts : bytes ≡ before ++ 1 ∷ rest

-- no module comes of what is before the type section, since a section there is malformed
pub record HasMalformedBeforeTypes (bytes : List ℕ) : Type 0 where
  pub before : List ℕ
  pub is_before : IsBeforeTypes before bytes
  pub malformed : CanNotBeRenamed before

-- ---- errors

-- it is an error of the type section, or the bytes are no module
abbrev pub is_of_types : NormaliseModuleError → Bool
is_of_types (error.Types e) = true
is_of_types (error.BadIndex entry index end) = true
is_of_types error.TooMany = true
is_of_types (error.Malformed place) = false
is_of_types (error.UnknownType index count place) = false
is_of_types error.TooLong = false
is_of_types (error.Outdated offset) = false
is_of_types error.Memory = false

-- it says that a section is wrong
abbrev pub is_of_sections : NormaliseModuleError → Bool
is_of_sections (error.Types e) = true
is_of_sections (error.BadIndex entry index end) = true
is_of_sections error.TooMany = true
is_of_sections (error.Malformed place) = true
is_of_sections (error.UnknownType index count place) = true
is_of_sections error.TooLong = false
is_of_sections (error.Outdated offset) = false
is_of_sections error.Memory = false

-- What an error says of bytes that are judged. Where the types are wrong, a section before them can
-- be malformed.
pub data ExplainsModule (options : NormaliseOptions) (bytes : List ℕ) :
    NormaliseModuleError → Type 0 where
  refused : (e : NormaliseModuleError) → IsRefusedBy options bytes e → ExplainsModule options bytes e
  before_types :
      (e : NormaliseModuleError) (place : ℕ) → is_of_types e ≡ true → IsRefusedBy options bytes e
      → HasMalformedBeforeTypes bytes → ExplainsModule options bytes (error.Malformed place)

-- it says so of the bytes, or else of the sections before the one that breaks the framing
pub data ExplainsError (options : NormaliseOptions) (bytes : List ℕ) (e : NormaliseModuleError) :
    Type 0 where
  whole : ExplainsModule options bytes e → ExplainsError options bytes e
  before_break :
      (prefix : List ℕ) → BreaksBehind prefix bytes → is_of_sections e ≡ true
      → ExplainsModule options prefix e → ExplainsError options bytes e
