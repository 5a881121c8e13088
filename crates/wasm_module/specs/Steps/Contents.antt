-- Reading the contents of sections part by part.
use Rattle.std.specs.Prelude.{◌≡◌, ℕ, List, ◌++◌, length}
use Rattle.std.specs.List.{concat}
use Rattle.wasm_binary.specs.Grammar.{AreItems}
use Rattle.wasm_module.specs.declared.kind.Kind.{Kind}
use Rattle.wasm_module.specs.declared.scan.ScanError.{ScanError}
use Rattle.wasm_module.specs.declared.scan.ScanError.TheVariants as scan
use Rattle.wasm_module.specs.Bodies.{Names}
use Rattle.wasm_module.specs.NamedTypes.{IsSizedBody, IsCode}

-- the bytes are no texts of these kinds, unless memory was refused
abbrev pub NamesNo : List Kind → List ℕ → ScanError → Type 0
NamesNo kinds bytes (scan.Malformed place) = (names : List ℕ) → Names kinds bytes names → ⊥
NamesNo kinds bytes scan.Memory = Unit {0}

-- a function body and its size were taken from the front of bytes
pub record BeginsWithBody (bytes rest names : List ℕ) : Type 0 where
  pub text : List ℕ
  pub parts : bytes ≡ text ++ rest
  pub is_body : IsSizedBody text names

-- no function body and its size begin the bytes, unless memory was refused
abbrev pub BeginsWithNoBody : List ℕ → ScanError → Type 0
BeginsWithNoBody bytes (scan.Malformed place) = (rest names : List ℕ) → BeginsWithBody bytes rest names → ⊥
BeginsWithNoBody bytes scan.Memory = Unit {0}

-- this many bodies were taken from the front of bytes
pub record BeginsWithBodies (count : ℕ) (bytes rest names : List ℕ) : Type 0 where
  pub text : List ℕ
  pub bodies : List (List ℕ)
  pub parts : bytes ≡ text ++ rest
  pub are : AreItems IsSizedBody text bodies
  pub many : length bodies ≡ count
  pub named : names ≡ concat bodies

-- this many bodies do not begin the bytes, unless memory was refused
abbrev pub BeginsWithNoBodies : ℕ → List ℕ → ScanError → Type 0
BeginsWithNoBodies count bytes (scan.Malformed place) =
    (rest names : List ℕ) → BeginsWithBodies count bytes rest names → ⊥
BeginsWithNoBodies count bytes scan.Memory = Unit {0}

-- the bytes are no content of a code section, unless memory was refused
abbrev pub IsNoCode : List ℕ → ScanError → Type 0
IsNoCode bytes (scan.Malformed place) = (names : List ℕ) → IsCode bytes names → ⊥
IsNoCode bytes scan.Memory = Unit {0}
