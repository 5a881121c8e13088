-- What a scan of a text says.
use Rattle.std.specs.Prelude.{◌≡◌, ℕ, ◌+◌, ◌<◌, ◌≤◌, List, [], ◌∷◌, ◌++◌, length, Option, Some, None, cond}
use Rattle.wasm_module.specs.declared.kind.Kind.{Kind}
use Rattle.wasm_module.specs.declared.scan.ScanError.{ScanError}
use Rattle.wasm_module.specs.declared.scan.ScanError.TheVariants as scan
use Rattle.wasm_module.specs.declared.kind.Space.TheVariants as space
use Rattle.wasm_module.specs.declared.scan.TypeIndex.{TypeIndex}
use Rattle.wasm_module.specs.Opcodes.{kinds_in, opcodes}
use Rattle.wasm_module.specs.Immediates.{Token, unsigned, signed, behind_byte, Runs, AreTexts, type_names}

-- the bytes begin with a text of these kinds, and these are the types that it names
pub record IsScanned (kinds : List Kind) (bytes rest names : List ℕ) : Type 0 where
  pub text : List ℕ
  pub tokens : List Token
  pub parts : bytes ≡ text ++ rest
  pub are : AreTexts kinds text tokens
  pub named : names ≡ type_names tokens

-- no text of these kinds begins the bytes, unless memory was refused
abbrev pub IsRefused : List Kind → List ℕ → ScanError → Type 0
IsRefused kinds bytes (scan.Malformed place) =
    (text rest : List ℕ) (tokens : List Token) → bytes ≡ text ++ rest →
    AreTexts kinds text tokens → ⊥
IsRefused kinds bytes scan.Memory = Unit {0}

-- the bytes begin with these tokens, and the kinds that are left are still to come behind them
pub record Reads (kinds left : List Kind) (tokens : List Token) (bytes rest : List ℕ) : Type 0 where
  pub text : List ℕ
  pub parts : bytes ≡ text ++ rest
  pub runs : Runs kinds text tokens left

-- tokens that name no type were passed over, and these kinds are left
pub record PassesTokens (kinds left : List Kind) (bytes rest : List ℕ) : Type 0 where
  pub passed : List Token
  pub reads : Reads kinds left passed bytes rest
  pub none : type_names passed ≡ []

-- a text of this kind can begin with any instruction, and goes on with its own kind
abbrev pub HasInstructions : Kind → Type 0
HasInstructions here =
    (opcode : ℕ) (kinds : List Kind) → kinds_in opcodes opcode ≡ Some kinds →
    behind_byte here opcode ≡ Some (kinds ++ here ∷ [])

-- whole instructions were passed over, which name no type and open no block
abbrev pub PassesInstructions : List ℕ → List ℕ → Type 0
PassesInstructions bytes rest =
    (here : Kind) → HasInstructions here → PassesTokens (here ∷ []) (here ∷ []) bytes rest

-- the token that an index of a type is
abbrev pub token_of : TypeIndex → List ℕ → Token
token_of t text = cond t.is_signed (signed space.Type text t.index)
    (unsigned space.Type text t.index)

-- tokens that name no type were passed over, and then this index of a type
pub record PassesType (t : TypeIndex) (kinds left : List Kind) (bytes rest : List ℕ) : Type 0 where
  pub passed : List Token
  pub text : List ℕ
  pub reads : Reads kinds left (passed ++ token_of t text ∷ []) bytes rest
  pub none : type_names passed ≡ []
  pub long : length text ≡ t.length
  pub short : t.length ≤ 5
  pub some : 0 < t.length
  pub fits : length rest + t.length ≤ length bytes

-- a text was passed over that names no type
pub record PassesNone (kinds left : List Kind) (bytes rest : List ℕ) : Type 0 where
  pub passed : List Token
  pub reads : Reads kinds [] passed bytes rest
  pub none : type_names passed ≡ []
  pub fits : length rest ≤ length bytes

abbrev pub Passes : Option TypeIndex → List Kind → List Kind → List ℕ → List ℕ → Type 0
Passes (Some t) = PassesType t
Passes None = PassesNone
