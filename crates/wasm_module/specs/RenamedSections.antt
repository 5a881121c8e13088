-- Contents of sections with other indices of types.
-- WebAssembly core specification, "Binary Format", modules and sections.
use Rattle.std.specs.Prelude.{◌≡◌, ℕ, List, [], ◌++◌, Some, None}
use Rattle.wasm_binary.specs.Leb128.{IsU32}
use Rattle.wasm_module.specs.declared.kind.Kind.{Kind}
use Rattle.wasm_module.specs.declared.renaming.Widths.{Widths}
use Rattle.wasm_module.specs.Bodies.{Names, body}
use Rattle.wasm_module.specs.Changes.{Change, ChangesSized, ChangeAll, BecomesTooLong, InSized, FirstIn}
use Rattle.wasm_module.specs.Contents.{section_kinds}
use Rattle.wasm_module.specs.NamedTypes.{code_id}
use Rattle.wasm_module.specs.Renaming.{NewIndices, type_maps, least_width, Renames, NamesUnknown}

-- texts of these kinds
pub record RenamesTexts (new_indices : NewIndices) (widths : Widths) (kinds : List Kind)
    (text new names : List ℕ) : Type 0 where
  pub naming : Names kinds text names
  pub renames : Renames (type_maps new_indices) (least_width widths) kinds text new

-- a function body with its size
abbrev pub RenamesBody : NewIndices → Widths → Change
RenamesBody new_indices widths = ChangesSized widths (RenamesTexts new_indices widths body)

-- the content of a code section: a count, which stays, and as many bodies
pub data RenamesCode (new_indices : NewIndices) (widths : Widths) :
    List ℕ → List ℕ → List ℕ → Type 0 where
  counted :
      (bodies : ℕ) (count texts new names : List ℕ) → IsU32 count bodies
      → ChangeAll (RenamesBody new_indices widths) bodies texts new names
      → RenamesCode new_indices widths (count ++ texts) (count ++ new) names

-- The content of a section of this id. Where no type is named from outside the type section, any
-- content will do, and it stays.
pub data RenamesContent (id : ℕ) (new_indices : NewIndices) (widths : Widths) :
    List ℕ → List ℕ → List ℕ → Type 0 where
  texts :
      (kinds : List Kind) (content new names : List ℕ) → section_kinds id ≡ Some kinds
      → RenamesTexts new_indices widths kinds content new names
      → RenamesContent id new_indices widths content new names
  code :
      (content new names : List ℕ) → id ≡ code_id
      → RenamesCode new_indices widths content new names
      → RenamesContent id new_indices widths content new names
  nameless :
      (content : List ℕ) → section_kinds id ≡ None → (id ≡ code_id → ⊥)
      → RenamesContent id new_indices widths content content []

-- ---- what is refused

-- as many bodies begin the bytes, up to one that `F` is so of
pub data FirstBodyIn (new_indices : NewIndices) (widths : Widths) (F : List ℕ → Type 0) :
    List ℕ → Type 0 where
  counted :
      (bodies : ℕ) (count rest : List ℕ) → IsU32 count bodies
      → FirstIn (RenamesBody new_indices widths) (InSized F) bodies rest
      → FirstBodyIn new_indices widths F (count ++ rest)

-- the content names type k, which has no new index, behind types that have one
pub data NamesUnknownIn (id : ℕ) (new_indices : NewIndices) (widths : Widths) (k : ℕ) :
    List ℕ → Type 0 where
  in_texts :
      (kinds : List Kind) (content : List ℕ) → section_kinds id ≡ Some kinds
      → NamesUnknown new_indices kinds content k
      → NamesUnknownIn id new_indices widths k content
  in_code :
      (content : List ℕ) → id ≡ code_id
      → FirstBodyIn new_indices widths (λ b. NamesUnknown new_indices body b k) content
      → NamesUnknownIn id new_indices widths k content

-- the new text of a function body is so long that no size counts its bytes
pub data BodyBecomesTooLong (id : ℕ) (new_indices : NewIndices) (widths : Widths) :
    List ℕ → Type 0 where
  in_code :
      (content : List ℕ) → id ≡ code_id
      → FirstBodyIn new_indices widths
      (BecomesTooLong (RenamesTexts new_indices widths body)) content
      → BodyBecomesTooLong id new_indices widths content
