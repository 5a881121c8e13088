-- How many bytes the indices of types and the sizes in a module have, up to the end of its code
-- section. Where a module is written again, no other length changes.
-- WebAssembly core specification, "Binary Format", code section and modules.
use Rattle.std.specs.Prelude.{◌≡◌, ℕ, ◌-◌, List, [], ◌∷◌, ◌++◌, length, Option, Some, None}
use Rattle.std.specs.List.{All, concat, flat_map}
use Rattle.wasm_binary.specs.Leb128.{IsU32}
use Rattle.wasm_binary.specs.Grammar.{AreItems}
use Rattle.wasm_module.specs.declared.kind.Kind.{Kind}
use Rattle.wasm_module.specs.Bodies.{body}
use Rattle.wasm_module.specs.Contents.{section_kinds}
use Rattle.wasm_module.specs.Customs.{HasSections}
use Rattle.wasm_module.specs.Immediates.{Token, AreTexts, type_name}
use Rattle.wasm_module.specs.NamedTypes.{code_id}
use Rattle.wasm_module.specs.Renaming.{text_of}
use Rattle.wasm_module.specs.Sections.{PlacedSection}

-- ---- texts

-- how many bytes a token has, if it is the index of a type
abbrev pub length_of : Token → Option ℕ → List ℕ
length_of token (Some k) = length (text_of token) ∷ []
length_of token None = []

-- how many bytes the indices of types have, from left to right
abbrev pub type_lengths : List Token → List ℕ
type_lengths tokens = flat_map (λ p. length_of p (type_name p)) tokens

-- the bytes are texts of these kinds, and their indices of types are this long
pub record HasTypeLengths (kinds : List Kind) (text lengths : List ℕ) : Type 0 where
  pub tokens : List Token
  pub are : AreTexts kinds text tokens
  pub long : lengths ≡ type_lengths tokens

-- ---- contents of sections

-- a function body with its size: how long the size is, and the indices in the body
pub data HasBodyLengths : List ℕ → List ℕ → Type 0 where
  sized :
      (size content lengths : List ℕ) → IsU32 size (length content)
      → HasTypeLengths body content lengths
      → HasBodyLengths (size ++ content) (length size ∷ lengths)

-- the content of a code section, and the lengths in its bodies from left to right
pub data HasCodeLengths : List ℕ → List ℕ → Type 0 where
  counted :
      (count texts : List ℕ) (bodies : List (List ℕ)) → IsU32 count (length bodies)
      → AreItems HasBodyLengths texts bodies → HasCodeLengths (count ++ texts) (concat bodies)

-- the content of a section of this id, and the lengths in it
pub data HasContentLengths (id : ℕ) : List ℕ → List ℕ → Type 0 where
  texts :
      (kinds : List Kind) (content lengths : List ℕ) → section_kinds id ≡ Some kinds
      → HasTypeLengths kinds content lengths → HasContentLengths id content lengths
  code :
      (content lengths : List ℕ) → id ≡ code_id → HasCodeLengths content lengths
      → HasContentLengths id content lengths
  nameless :
      (content : List ℕ) → section_kinds id ≡ None → (id ≡ code_id → ⊥)
      → HasContentLengths id content []

-- ---- modules

-- For each section: how many bytes its id and its size have, how many its content has, and the
-- lengths in the content.
pub data HaveLengths : List PlacedSection → List ℕ → Type 0 where
  none : HaveLengths [] []
  next :
      (s : PlacedSection) (sections : List PlacedSection) (lengths others : List ℕ)
      → HasContentLengths s.framed.id s.framed.content lengths → HaveLengths sections others
      → HaveLengths (s ∷ sections)
      ((s.content_offset - s.offset) ∷ length s.framed.content ∷ (lengths ++ others))

-- it is no section of this id
abbrev pub IsNot : ℕ → PlacedSection → Type 0
IsNot id s = s.framed.id ≡ id → ⊥

-- the content of the module's first section of this id, if there is one
pub data HasContent (id : ℕ) (bytes : List ℕ) : Option (List ℕ) → Type 0 where
  present :
      (before behind : List PlacedSection) (s : PlacedSection)
      → HasSections bytes (before ++ s ∷ behind) → All (IsNot id) before → s.framed.id ≡ id
      → HasContent id bytes (Some s.framed.content)
  absent :
      (sections : List PlacedSection) → HasSections bytes sections → All (IsNot id) sections
      → HasContent id bytes None

-- the lengths in the content of the module's code section; none where it has no code
pub data HasLengthsInCode (bytes : List ℕ) : List ℕ → Type 0 where
  in_code :
      (content lengths : List ℕ) → HasContent code_id bytes (Some content)
      → HasContentLengths code_id content lengths → HasLengthsInCode bytes lengths
  no_code : HasContent code_id bytes None → HasLengthsInCode bytes []

-- the lengths of all sections up to the end of the code section; none where there is no code
pub data HasLengthsToCodeEnd (bytes : List ℕ) : List ℕ → Type 0 where
  to_code_end :
      (before behind : List PlacedSection) (s : PlacedSection) (lengths : List ℕ)
      → HasSections bytes (before ++ s ∷ behind) → All (IsNot code_id) before
      → s.framed.id ≡ code_id → HaveLengths (before ++ s ∷ []) lengths
      → HasLengthsToCodeEnd bytes lengths
  no_code :
      (sections : List PlacedSection) → HasSections bytes sections
      → All (IsNot code_id) sections → HasLengthsToCodeEnd bytes []
