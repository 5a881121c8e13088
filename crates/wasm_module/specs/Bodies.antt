-- Expressions and function bodies, and the types that they name.
-- WebAssembly core specification, "Binary Format", expressions and code section.
use Rattle.std.specs.Prelude.{◌≡◌, ℕ, List, [], ◌∷◌, ◌++◌}
use Rattle.wasm_module.specs.declared.kind.Kind.{Kind}
use Rattle.wasm_module.specs.declared.kind.Kind.TheVariants as kind
use Rattle.wasm_module.specs.declared.scan.ScanError.{ScanError}
use Rattle.wasm_module.specs.declared.scan.ScanError.TheVariants as scan
use Rattle.wasm_module.specs.Immediates.{Token, AreTexts, type_names}

-- the bytes are texts of these kinds, and these are the types that they name from left to right
pub record Names (kinds : List Kind) (bytes names : List ℕ) : Type 0 where
  pub tokens : List Token
  pub are : AreTexts kinds bytes tokens
  pub named : names ≡ type_names tokens

-- instructions, with the `end` that no block has
abbrev pub expression : List Kind
expression = kind.Expression ∷ []

abbrev pub IsExpression : List ℕ → List ℕ → Type 0
IsExpression = Names expression

-- what a function body has after its size: the types of its locals, and an expression
abbrev pub body : List Kind
body = kind.Locals ∷ kind.Expression ∷ []

abbrev pub IsBody : List ℕ → List ℕ → Type 0
IsBody = Names body

-- an expression was taken from the front of bytes
pub record BeginsWithExpression (bytes rest names : List ℕ) : Type 0 where
  pub text : List ℕ
  pub parts : bytes ≡ text ++ rest
  pub is_expression : IsExpression text names

-- no expression begins the bytes, unless memory was refused
abbrev pub BeginsWithNone : List ℕ → ScanError → Type 0
BeginsWithNone bytes (scan.Malformed place) = (rest names : List ℕ) → BeginsWithExpression bytes rest names → ⊥
BeginsWithNone bytes scan.Memory = Unit {0}

-- the bytes are no function body, unless memory was refused
abbrev pub IsNoBody : List ℕ → ScanError → Type 0
IsNoBody bytes (scan.Malformed place) = (names : List ℕ) → IsBody bytes names → ⊥
IsNoBody bytes scan.Memory = Unit {0}
