-- What is written of new indices.
use Rattle.std.specs.Prelude.{◌≡◌, ℕ, ◌+◌, ◌-◌, ◌/◌, ◌%◌, ◌<◌, ◌≤◌, Bool, List, [], ◌∷◌, ◌++◌, Some, None, cond}
use Rattle.wasm_module.specs.declared.scan.ScanError.{ScanError}
use Rattle.wasm_module.specs.declared.scan.ScanError.TheVariants as scan
use Rattle.wasm_module.specs.declared.scan.TypeIndex.{TypeIndex}
use Rattle.wasm_module.specs.declared.renaming.RenameError.{RenameError}
use Rattle.wasm_module.specs.declared.renaming.RenameError.TheVariants as rename
use Rattle.wasm_module.specs.Renaming.{NewIndices, new_index, IsTextOf}

-- such a text was put at the end
pub record Appends (IsText : List ℕ → Type 0) (old new : List ℕ) : Type 0 where
  pub text : List ℕ
  pub is_text : IsText text
  pub parts : new ≡ old ++ text

-- an integer of this many bytes at least, whose last byte is below `end`
pub data IsWide (end : ℕ) : ℕ → List ℕ → ℕ → Type 0 where
  last : (least n : ℕ) → n < end → least ≤ 1 → IsWide end least (n ∷ []) n
  more :
      (least n : ℕ) (text : List ℕ) → (n < end → 1 < least)
      → IsWide end (least - 1) text (n / 0x80) → IsWide end least ((n % 0x80 + 0x80) ∷ text) n

-- the last byte of an index is below this
abbrev pub index_end : Bool → ℕ
index_end is_signed = cond is_signed 0x40 0x80

-- the text of the new index of a type
pub record IsNewIndex (new_indices : NewIndices) (least : ℕ → ℕ) (t : TypeIndex)
    (text : List ℕ) : Type 0 where
  pub n : ℕ
  pub mapped : new_index new_indices t.index ≡ Some n
  pub is_text : IsTextOf (index_end t.is_signed) (least t.length) text n

-- the type has no new index
abbrev pub IsUnknown : NewIndices → TypeIndex → ℕ → Type 0
IsUnknown new_indices t k = (k ≡ t.index) × (new_index new_indices k ≡ None)

abbrev pub same_error : ScanError → RenameError
same_error (scan.Malformed place) = rename.Malformed place
same_error scan.Memory = rename.Memory
