-- What bytes look like that are no module in the binary format.
-- WebAssembly core specification, "Binary Format" and "Text Format", modules. The layer in the
-- version field is of the component model's binary format.
use Rattle.std.specs.Prelude.{◌≡◌, ℕ, List, [], ◌∷◌, ◌++◌, drop, codes}
use Rattle.std.specs.Str.{IsTrimAsciiStart}
use Rattle.wasm_binary.specs.Modules.{magic}
use Rattle.error_context.specs.declared.lookalike.Lookalike.{Lookalike}
use Rattle.error_context.specs.declared.lookalike.Lookalike.TheVariants as lookalike

abbrev pub BeginsWith : List ℕ → List ℕ → Type 0
BeginsWith front bytes = (rest : List ℕ) × (bytes ≡ front ++ rest)

-- the magic number, and in the upper half of the version field the layer of components, 1
abbrev pub IsComponent : List ℕ → Type 0
IsComponent bytes = BeginsWith magic bytes × BeginsWith (1 ∷ 0 ∷ []) (drop 6 bytes)

-- after white space there is the beginning of a module in the text format
abbrev pub IsText : List ℕ → Type 0
IsText bytes = (rest : List ℕ) × IsTrimAsciiStart bytes rest × BeginsWith (codes "(module") rest

abbrev pub LooksLike : Lookalike → List ℕ → Type 0
LooksLike lookalike.Component bytes = IsComponent bytes
LooksLike lookalike.Gzip bytes = BeginsWith (0x1F ∷ 0x8B ∷ []) bytes
LooksLike lookalike.Bitcode bytes = BeginsWith (0x42 ∷ 0x43 ∷ 0xC0 ∷ 0xDE ∷ []) bytes
LooksLike lookalike.Text bytes = IsText bytes
