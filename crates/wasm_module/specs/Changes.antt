-- Texts that become others where indices of types are written again: with their sizes, one after
-- another, and what stops that. In this file `R text new names` says that the text becomes `new`,
-- and that it names these types.
use Rattle.std.specs.Prelude.{◌≡◌, ℕ, zero, suc, ◌^◌, ◌≤◌, List, [], ◌++◌, length}
use Rattle.wasm_binary.specs.Leb128.{IsU32}
use Rattle.wasm_module.specs.declared.renaming.Widths.{Widths}
use Rattle.wasm_module.specs.Renaming.{NewIndices, least_width, IsTextOf}

-- how texts become others
abbrev pub Change : Type 1
Change = List ℕ → List ℕ → List ℕ → Type 0

-- the text becomes `new`
pub record TurnsInto (R : Change) (text new : List ℕ) : Type 0 where
  pub names : List ℕ
  pub becomes : R text new names

-- the text becomes `new`, and names types
pub record Changes (R : Change) (text new : List ℕ) : Type 0 where
  pub names : List ℕ
  pub becomes : R text new names
  pub is_naming : names ≡ [] → ⊥

-- A content with its size. The size stays byte for byte where the content names no type, padded or
-- not. Otherwise it is written again.
pub data ChangesSized (widths : Widths) (R : Change) : List ℕ → List ℕ → List ℕ → Type 0 where
  stays :
      (size content : List ℕ) → IsU32 size (length content) → R content content []
      → ChangesSized widths R (size ++ content) (size ++ content) []
  resized :
      (size content new_size new names : List ℕ) → IsU32 size (length content)
      → R content new names → (names ≡ [] → ⊥)
      → IsTextOf 0x80 (least_width widths (length size)) new_size (length new)
      → ChangesSized widths R (size ++ content) (new_size ++ new) names

-- as many texts one after another, each of which becomes another
pub data ChangeAll (R : Change) : ℕ → List ℕ → List ℕ → List ℕ → Type 0 where
  none : ChangeAll R zero [] [] []
  next :
      (count : ℕ) (text others new new_others names more : List ℕ)
      → R text new names → ChangeAll R count others new_others more
      → ChangeAll R (suc count) (text ++ others) (new ++ new_others) (names ++ more)

-- ---- what stops a change

-- The bytes are such a text for no new indices: `R new_indices widths` is the change by these.
abbrev pub IsMalformed : (NewIndices → Widths → Change) → List ℕ → Type 0
IsMalformed R bytes =
    (new_indices : NewIndices) (widths : Widths) (new names : List ℕ)
    → R new_indices widths bytes new names → ⊥

-- the new text is so long that no size counts its bytes
pub record BecomesTooLong (R : Change) (text : List ℕ) : Type 0 where
  pub new : List ℕ
  pub names : List ℕ
  pub becomes : R text new names
  pub long : 2 ^ 32 ≤ length new

-- a size begins the bytes, and `F` is so of as many bytes behind it
pub data InSized (F : List ℕ → Type 0) : List ℕ → Type 0 where
  in_content :
      (size content rest : List ℕ) → IsU32 size (length content) → F content
      → InSized F (size ++ (content ++ rest))

-- One of as many texts begins as `F` says, and those before it become others. What is behind it
-- plays no role.
pub data FirstIn (R : Change) (F : List ℕ → Type 0) : ℕ → List ℕ → Type 0 where
  here : (count : ℕ) (bytes : List ℕ) → F bytes → FirstIn R F (suc count) bytes
  behind :
      (count : ℕ) (text others new names : List ℕ) → R text new names → FirstIn R F count others
      → FirstIn R F (suc count) (text ++ others)
