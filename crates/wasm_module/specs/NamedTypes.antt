-- The types that a section's content names, and those that a module names outside its type section.
-- WebAssembly core specification, "Binary Format", code section and modules.
use Rattle.std.specs.Prelude.{◌≡◌, ℕ, List, [], ◌∷◌, ◌++◌, length, Some, None}
use Rattle.std.specs.List.{concat}
use Rattle.wasm_binary.specs.Leb128.{IsU32}
use Rattle.wasm_binary.specs.Grammar.{IsVec}
use Rattle.wasm_binary.specs.Modules.{Section, IsModule}
use Rattle.wasm_module.specs.declared.kind.Kind.{Kind}
use Rattle.wasm_module.specs.declared.scan.ScanError.{ScanError}
use Rattle.wasm_module.specs.declared.scan.ScanError.TheVariants as scan
use Rattle.wasm_module.specs.Bodies.{Names, IsBody}
use Rattle.wasm_module.specs.Contents.{section_kinds}

-- ---- the code section

-- a function body with its size, and the types that it names
pub data IsSizedBody : List ℕ → List ℕ → Type 0 where
  sized :
      (size body names : List ℕ) → IsU32 size (length body) → IsBody body names
      → IsSizedBody (size ++ body) names

-- the content of a code section, and the types that its bodies name from left to right
pub record IsCode (content names : List ℕ) : Type 0 where
  pub bodies : List (List ℕ)
  pub are : IsVec IsSizedBody content bodies
  pub named : names ≡ concat bodies

-- ---- sections

abbrev pub code_id : ℕ
code_id = 10

-- A section of this id may have this content, which names these types. Where no type is named from
-- outside the type section, any content will do.
pub data IsContent : ℕ → List ℕ → List ℕ → Type 0 where
  texts :
      (id : ℕ) (kinds : List Kind) (content names : List ℕ)
      → section_kinds id ≡ Some kinds → Names kinds content names → IsContent id content names
  code : (content names : List ℕ) → IsCode content names → IsContent code_id content names
  nameless :
      (id : ℕ) (content : List ℕ)
      → section_kinds id ≡ None → (id ≡ code_id → ⊥) → IsContent id content []

-- no section of this id has this content, unless memory was refused
abbrev pub IsNoContent : ℕ → List ℕ → ScanError → Type 0
IsNoContent id content (scan.Malformed place) = (names : List ℕ) → IsContent id content names → ⊥
IsNoContent id content scan.Memory = Unit {0}

-- ---- modules

-- sections that may have their contents, and the types that these name from left to right
pub data AreContents : List Section → List ℕ → Type 0 where
  none : AreContents [] []
  next :
      (s : Section) (sections : List Section) (names others : List ℕ)
      → IsContent s.id s.content names → AreContents sections others
      → AreContents (s ∷ sections) (names ++ others)

-- The bytes are a module, and these are the types that it names outside its type section, from left
-- to right.
pub record NamesOutside (bytes names : List ℕ) : Type 0 where
  pub sections : List Section
  pub is_module : IsModule bytes sections
  pub are : AreContents sections names

-- the bytes are no such module, unless memory was refused
abbrev pub NamesNone : List ℕ → ScanError → Type 0
NamesNone bytes (scan.Malformed place) = (names : List ℕ) → NamesOutside bytes names → ⊥
NamesNone bytes scan.Memory = Unit {0}
