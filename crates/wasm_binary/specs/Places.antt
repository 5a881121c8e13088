-- Where the parts of a type section begin: the bytes before them.
-- WebAssembly core specification, "Binary Format", types and type section.
use Rattle.std.specs.Prelude.{ℕ, ◌<◌, Bool, List, [], ◌∷◌, ◌++◌, length, Option}
use Rattle.walrus_ty.specs.Definition.{supertype_names}
use Rattle.walrus_ty.specs.declared.ty.value.Val.{Val}
use Rattle.wasm_binary.specs.Leb128.{IsU32}
use Rattle.wasm_binary.specs.Grammar.{AreItems, IsVec, null_code, IsValType, IsFieldType, sub_code, IsSubType, IsRecType}

-- A count, and texts of fewer items than it counts: behind them the next item begins.
pub data IsBeforeItem {A : Type 0} (IsText : List ℕ → A → Type 0) : List ℕ → Type 0 where
  counted :
      (count texts : List ℕ) (n : ℕ) (items : List A)
      → IsU32 count n → AreItems IsText texts items → length items < n
      → IsBeforeItem IsText (count ++ texts)

-- a definition begins behind the bytes
pub data IsBeforeSubType : List ℕ → Type 0 where
  alone : (prefix : List ℕ) → IsBeforeItem IsRecType prefix → IsBeforeSubType prefix
  in_group :
      (prefix inner : List ℕ)
      → IsBeforeItem IsRecType prefix → IsBeforeItem IsSubType inner
      → IsBeforeSubType (prefix ++ 0x4E ∷ inner)

-- a composite type begins behind the bytes
pub data IsBeforeCompType : List ℕ → Type 0 where
  plain : (prefix : List ℕ) → IsBeforeSubType prefix → IsBeforeCompType prefix
  declared :
      (prefix supers : List ℕ) (is_final : Bool) (supertype : Option ℕ)
      → IsBeforeSubType prefix → IsVec IsU32 supers (supertype_names supertype)
      → IsBeforeCompType (prefix ++ sub_code is_final ∷ supers)

-- a value type begins behind the bytes
pub data IsBeforeValType : List ℕ → Type 0 where
  param :
      (prefix inner : List ℕ)
      → IsBeforeCompType prefix → IsBeforeItem IsValType inner
      → IsBeforeValType (prefix ++ 0x60 ∷ inner)
  result :
      (prefix first inner : List ℕ) (params : List (Val ℕ))
      → IsBeforeCompType prefix → IsVec IsValType first params → IsBeforeItem IsValType inner
      → IsBeforeValType (prefix ++ 0x60 ∷ (first ++ inner))
  field :
      (prefix inner : List ℕ)
      → IsBeforeCompType prefix → IsBeforeItem IsFieldType inner
      → IsBeforeValType (prefix ++ 0x5F ∷ inner)
  element : (prefix : List ℕ) → IsBeforeCompType prefix → IsBeforeValType (prefix ++ 0x5E ∷ [])

-- a heap type begins behind the bytes
pub data IsBeforeHeapType : List ℕ → Type 0 where
  referred :
      (prefix : List ℕ) (nullable : Bool)
      → IsBeforeValType prefix → IsBeforeHeapType (prefix ++ null_code nullable ∷ [])
