-- The texts of instructions, of what they have after their opcodes, and of contents of sections, by
-- the tables of specs/Opcodes and specs/Contents. One relation says which bytes are such a text and
-- where each index is in it.
-- WebAssembly core specification, "Binary Format", instructions, expressions, types and modules.
use Rattle.std.specs.Prelude.{◌≡◌, ℕ, zero, suc, ◌+◌, ◌/◌, ◌^◌, ◌<◌, ◌≤◌, Bool, true, false, List, [], ◌∷◌, ◌++◌, length, Option, Some, None, nat_eq, nat_le, ◌&&◌, ◌||◌, cond}
use Rattle.std.specs.List.{flat_map}
use Rattle.wasm_binary.specs.Leb128.{IsInteger, IsU32, IsS33}
use Rattle.wasm_module.specs.declared.kind.Space.{Space}
use Rattle.wasm_module.specs.declared.kind.Space.TheVariants as space
use Rattle.wasm_module.specs.declared.kind.Kind.{Kind}
use Rattle.wasm_module.specs.declared.kind.Kind.TheVariants as kind
use Rattle.wasm_module.specs.Opcodes.{kinds_in, opcodes, aggregate_opcodes, bulk_opcodes, vector_opcodes, atomic_opcodes, type_index, function_index, tag_index, memory_index, label_index}
use Rattle.wasm_module.specs.Contents.{extern_types, table_limits, memory_limits, element_forms, data_forms}

-- ---- integers whose value plays no role

abbrev pub IsU64 : List ℕ → ℕ → Type 0
IsU64 = IsInteger 0x80 (2 ^ 64)

-- A text of a signed integer from minus `limit` on and below `limit`. The bit 0x40 of the last byte
-- is its sign.
pub data IsSigned : ℕ → List ℕ → Type 0 where
  positive : (limit byte : ℕ) → byte < 0x40 → byte < limit → IsSigned limit (byte ∷ [])
  negative :
      (limit byte : ℕ) → 0x40 ≤ byte → byte < 0x80 → 0x80 ≤ byte + limit
      → IsSigned limit (byte ∷ [])
  longer :
      (limit byte : ℕ) (bytes : List ℕ) → 0x80 ≤ byte → byte < 0x100 → 0x40 < limit
      → IsSigned (limit / 0x80) bytes → IsSigned limit (byte ∷ bytes)

-- ---- tokens

-- A token of a text: an index, as a `u32` or as an `s33`, or bytes that name nothing.
pub data Token : Type 0 where
  unsigned : Space → List ℕ → ℕ → Token
  signed : Space → List ℕ → ℕ → Token
  plain : List ℕ → Token

abbrev pub type_name : Token → Option ℕ
type_name (unsigned space.Type text k) = Some k
type_name (unsigned _ text k) = None
type_name (signed space.Type text k) = Some k
type_name (signed _ text k) = None
type_name (plain text) = None

-- ---- choices by a byte

abbrev pub is_abstract : ℕ → Bool
is_abstract byte = nat_le 0x69 byte && nat_le byte 0x74

abbrev pub ref_kinds : ℕ → Option (List Kind)
ref_kinds byte =
    cond (is_abstract byte) (Some [])
    (cond (nat_le 0x63 byte && nat_le byte 0x64) (Some (kind.HeapType ∷ [])) None)

abbrev pub value_kinds : ℕ → Option (List Kind)
value_kinds byte =
    cond (nat_le 0x7B byte && nat_le byte 0x7F || is_abstract byte) (Some [])
    (cond (nat_le 0x63 byte && nat_le byte 0x64) (Some (kind.HeapType ∷ [])) None)

abbrev pub and_then : Option (List Kind) → List Kind → Option (List Kind)
and_then (Some kinds) others = Some (kinds ++ others)
and_then None others = None

-- What is behind a first byte that is no part of an integer. `None` says that the byte can't be
-- there.
abbrev pub behind_byte : Kind → ℕ → Option (List Kind)
behind_byte kind.Zero byte = cond (nat_eq byte 0) (Some []) None
behind_byte kind.CastFlags byte = cond (nat_le byte 3) (Some []) None
behind_byte kind.CatchClause byte =
    cond (nat_le byte 1) (Some (tag_index ∷ label_index ∷ []))
    (cond (nat_le byte 3) (Some (label_index ∷ [])) None)
behind_byte kind.HeapType byte =
    cond (is_abstract byte) (Some [])
    (cond (nat_eq byte 0x62) (Some (kind.Index space.Type ∷ [])) None)
behind_byte kind.ValType byte = value_kinds byte
behind_byte kind.BlockType byte = cond (nat_eq byte 0x40) (Some []) (value_kinds byte)
behind_byte kind.Block byte =
    cond (nat_eq byte 0x0B) (Some [])
    (cond (nat_eq byte 0x18) (Some (label_index ∷ [])) (and_then (kinds_in opcodes byte) (kind.Block ∷ [])))
behind_byte kind.Expression byte =
    cond (nat_eq byte 0x0B) (Some []) (and_then (kinds_in opcodes byte) (kind.Expression ∷ []))
behind_byte kind.RefType byte = ref_kinds byte
behind_byte kind.Mutability byte = cond (nat_le byte 1) (Some []) None
behind_byte kind.TagType byte = cond (nat_eq byte 0) (Some (type_index ∷ [])) None
behind_byte kind.TableLimits byte = kinds_in table_limits byte
behind_byte kind.MemoryLimits byte = kinds_in memory_limits byte
behind_byte kind.ExternType byte = kinds_in extern_types byte
behind_byte kind.Table byte =
    cond (nat_eq byte 0x40) (Some (kind.Zero ∷ kind.RefType ∷ kind.TableLimits ∷ kind.Expression ∷ []))
    (and_then (ref_kinds byte) (kind.TableLimits ∷ []))
behind_byte kind.Global byte = and_then (value_kinds byte) (kind.Mutability ∷ kind.Expression ∷ [])
behind_byte _ byte = None

-- a heap type and a block type can be a type's index, in the form of an `s33`
abbrev pub may_be_index : Kind → Bool
may_be_index kind.HeapType = true
may_be_index kind.BlockType = true
may_be_index _ = false

-- ---- choices by a number

abbrev pub times : ℕ → Kind → List Kind
times zero k = []
times (suc n) k = k ∷ times n k

-- What is behind a `u32` that is no index. `None` says that the number can't be there. An alignment
-- is at most the natural one of the access. With 64 more, an index of a memory follows its exponent.
abbrev pub behind_number : Kind → ℕ → Option (List Kind)
behind_number kind.U32 n = Some []
behind_number (kind.MemArg most) n =
    cond (nat_le n most) (Some (kind.U64 ∷ []))
    (cond (nat_le 64 n && nat_le n (64 + most)) (Some (memory_index ∷ kind.U64 ∷ [])) None)
behind_number kind.Labels n = Some (times n label_index)
behind_number kind.ValTypes n = Some (times n kind.ValType)
behind_number kind.CatchClauses n = Some (times n kind.CatchClause)
behind_number kind.Local n = Some (kind.ValType ∷ [])
behind_number kind.Locals n = Some (times n kind.Local)
behind_number kind.Aggregate n = kinds_in aggregate_opcodes n
behind_number kind.Bulk n = kinds_in bulk_opcodes n
behind_number kind.Vector n = kinds_in vector_opcodes n
behind_number kind.Atomic n = kinds_in atomic_opcodes n
behind_number kind.Expressions n = Some (times n kind.Expression)
behind_number kind.Imports n = Some (times n kind.Import)
behind_number kind.TypeIndices n = Some (times n type_index)
behind_number kind.FunctionIndices n = Some (times n function_index)
behind_number kind.Tables n = Some (times n kind.Table)
behind_number kind.Globals n = Some (times n kind.Global)
behind_number kind.ElementSegment n = kinds_in element_forms n
behind_number kind.ElementSegments n = Some (times n kind.ElementSegment)
behind_number kind.DataSegment n = kinds_in data_forms n
behind_number kind.DataSegments n = Some (times n kind.DataSegment)
behind_number kind.Tags n = Some (times n kind.TagType)
behind_number _ n = None

-- ---- texts

-- The bytes with which a text of this kind begins, the token that they are, and the kinds of what
-- the text still has behind them.
pub data Begins : Kind → List ℕ → Token → List Kind → Type 0 where
  index :
      (s : Space) (text : List ℕ) (k : ℕ) → IsU32 text k
      → Begins (kind.Index s) text (unsigned s text k) []
  signed_index :
      (k : Kind) (text : List ℕ) (n : ℕ) → may_be_index k ≡ true → IsS33 text n
      → Begins k text (signed space.Type text n) []
  number :
      (k : Kind) (text : List ℕ) (n : ℕ) (kinds : List Kind)
      → IsU32 text n → behind_number k n ≡ Some kinds → Begins k text (plain text) kinds
  byte :
      (k : Kind) (first : ℕ) (kinds : List Kind)
      → behind_byte k first ≡ Some kinds → Begins k (first ∷ []) (plain (first ∷ [])) kinds
  offset : (text : List ℕ) (n : ℕ) → IsU64 text n → Begins kind.U64 text (plain text) []
  i32 : (text : List ℕ) → IsSigned (2 ^ 31) text → Begins kind.S32 text (plain text) []
  i64 : (text : List ℕ) → IsSigned (2 ^ 63) text → Begins kind.S64 text (plain text) []
  raw : (text : List ℕ) (n : ℕ) → 0 < n → length text ≡ n → Begins (kind.Bytes n) text (plain text) []
  byte_vec :
      (count bytes : List ℕ) → IsU32 count (length bytes)
      → Begins kind.ByteVec (count ++ bytes) (plain (count ++ bytes)) []
  import :
      (count name : List ℕ) → IsU32 count (length name)
      → Begins kind.Import (count ++ name) (plain (count ++ name)) (kind.ByteVec ∷ kind.ExternType ∷ [])

-- Bytes from the first of these kinds on, their tokens, and the kinds that are still to come behind
-- them. With `[]` to come, they are a whole text.
pub data Runs : List Kind → List ℕ → List Token → List Kind → Type 0 where
  stop : (kinds : List Kind) → Runs kinds [] [] kinds
  step :
      (k : Kind) (more kinds left : List Kind) (text others : List ℕ) (token : Token)
      (tokens : List Token)
      → Begins k text token more → Runs (more ++ kinds) others tokens left
      → Runs (k ∷ kinds) (text ++ others) (token ∷ tokens) left

-- texts of these kinds one after another, by their tokens
abbrev pub AreTexts : List Kind → List ℕ → List Token → Type 0
AreTexts kinds text tokens = Runs kinds text tokens []

-- the types that the tokens name, from left to right
abbrev pub names_of : Option ℕ → List ℕ
names_of (Some k) = k ∷ []
names_of None = []

abbrev pub type_names : List Token → List ℕ
type_names tokens = flat_map (λ p. names_of (type_name p)) tokens
