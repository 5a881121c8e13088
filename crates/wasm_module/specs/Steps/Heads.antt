-- Reading the beginning of a text of a kind: the type's index that it names, if it does, and the
-- kinds of what the text still has behind it. Only the place of a fault counts here.
use Rattle.std.specs.Prelude.{◌≡◌, ℕ, ◌+◌, ◌/◌, ◌^◌, List, [], ◌∷◌, ◌++◌, length, drop, Option, Some, None, Result, Ok, nat_lt, nat_le, ◌&&◌, ◌||◌, cond}
use Rattle.wasm_binary.specs.declared.error.Expected.TheVariants as expected
use Rattle.wasm_binary.specs.declared.error.Fault.{Fault}
use Rattle.wasm_binary.specs.Steps.Reading.{◌>>=◌, expected_error, u32_at, s33_at}
use Rattle.wasm_module.specs.declared.kind.Space.{Space}
use Rattle.wasm_module.specs.declared.kind.Space.TheVariants as space
use Rattle.wasm_module.specs.declared.kind.Kind.{Kind}
use Rattle.wasm_module.specs.declared.kind.Kind.TheVariants as kind
use Rattle.wasm_module.specs.declared.head.Head.{Head as HeadRead}
use Rattle.wasm_module.specs.declared.head.Head.TheVariants as head_read
use Rattle.wasm_module.specs.Immediates.{behind_byte, behind_number, times}
use Rattle.wasm_module.specs.Steps.Tables.{row_kinds}

pub record Beginning : Type 0 where
  pub named : Option ℕ
  pub more : List Kind

abbrev pub beginning : Option ℕ → List Kind → Beginning
beginning named more = record { named = named; more = more }

abbrev pub fault : {A : Type 0} → List ℕ → Result A Fault
fault bytes = expected_error bytes expected.Integer

-- what a function returned, seen by view, and what it left of the input are what reading gives
abbrev pub Finds : {X Y : Type 0} → (X → Y) → Option X → List ℕ → Result (Y × List ℕ) Fault → Type 0
Finds view (Some x) left read = read ≡ Ok (view x, left)
Finds view None left read = read ≡ fault left

-- ---- integers whose value plays no role

unfoldable pub skip_at : ℕ → List ℕ → Result (Unit {0} × List ℕ) Fault
skip_at limit [] = fault []
skip_at limit (b ∷ bytes) =
    cond (nat_lt b 0x80) (cond (nat_lt b limit) (Ok (tt, bytes)) (fault (b ∷ bytes)))
    (cond (nat_lt b 0x100 && nat_lt 0x80 limit) (skip_at (limit / 0x80) bytes) (fault (b ∷ bytes)))

unfoldable pub signed_at : ℕ → List ℕ → Result (Unit {0} × List ℕ) Fault
signed_at limit [] = fault []
signed_at limit (b ∷ bytes) =
    cond (nat_lt b 0x40) (cond (nat_lt b limit) (Ok (tt, bytes)) (fault (b ∷ bytes)))
    (cond (nat_lt b 0x80) (cond (nat_le 0x80 (b + limit)) (Ok (tt, bytes)) (fault (b ∷ bytes)))
    (cond (nat_lt b 0x100 && nat_lt 0x40 limit) (signed_at (limit / 0x80) bytes) (fault (b ∷ bytes))))

unfoldable pub raw_at : ℕ → List ℕ → Result (Unit {0} × List ℕ) Fault
raw_at n bytes = cond (nat_lt 0 n && nat_le n (length bytes)) (Ok (tt, drop n bytes)) (fault [])

unfoldable pub byte_vec_at : List ℕ → Result (Unit {0} × List ℕ) Fault
byte_vec_at bytes =
    u32_at bytes >>= (λ n. cond (nat_le n.0 (length n.1)) (Ok (tt, drop n.0 n.1)) (fault []))

-- ---- by kinds

abbrev pub plain : Result (Unit {0} × List ℕ) Fault → Result (Beginning × List ℕ) Fault
plain read = read >>= (λ u. Ok (beginning None [], u.1))

-- the kinds that are behind, or the fault at these bytes
abbrev pub behind : List ℕ → List ℕ → Option (List Kind) → Result (Beginning × List ℕ) Fault
behind bytes rest (Some kinds) = Ok (beginning None kinds, rest)
behind bytes rest None = fault bytes

unfoldable pub byte_at : Kind → List ℕ → Result (Beginning × List ℕ) Fault
byte_at k [] = fault []
byte_at k (b ∷ bytes) = behind (b ∷ bytes) bytes (behind_byte k b)

unfoldable pub number_at : Kind → List ℕ → Result (Beginning × List ℕ) Fault
number_at k bytes = u32_at bytes >>= (λ n. behind bytes n.1 (behind_number k n.0))

abbrev pub name_in : Space → ℕ → Option ℕ
name_in space.Type k = Some k
name_in _ k = None

unfoldable pub index_at : Space → List ℕ → Result (Beginning × List ℕ) Fault
index_at s bytes = u32_at bytes >>= (λ k. Ok (beginning (name_in s k.0) [], k.1))

abbrev pub signed_index_at : List ℕ → Result (Beginning × List ℕ) Fault
signed_index_at bytes = s33_at bytes >>= (λ k. Ok (beginning (Some k.0) [], k.1))

unfoldable pub index_or_byte_at : Kind → List ℕ → Result (Beginning × List ℕ) Fault
index_or_byte_at k [] = fault []
index_or_byte_at k (b ∷ bytes) =
    cond (nat_lt b 0x40 || nat_le 0x80 b) (signed_index_at (b ∷ bytes)) (byte_at k (b ∷ bytes))

unfoldable pub begin_at : Kind → List ℕ → Result (Beginning × List ℕ) Fault
begin_at (kind.Index s) bytes = index_at s bytes
begin_at kind.U32 bytes = number_at kind.U32 bytes
begin_at kind.U64 bytes = plain (skip_at (2 ^ 64) bytes)
begin_at kind.S32 bytes = plain (signed_at (2 ^ 31) bytes)
begin_at kind.S64 bytes = plain (signed_at (2 ^ 63) bytes)
begin_at (kind.Bytes n) bytes = plain (raw_at n bytes)
begin_at kind.Zero bytes = byte_at kind.Zero bytes
begin_at kind.CastFlags bytes = byte_at kind.CastFlags bytes
begin_at (kind.MemArg most) bytes = number_at (kind.MemArg most) bytes
begin_at kind.BlockType bytes = index_or_byte_at kind.BlockType bytes
begin_at kind.ValType bytes = byte_at kind.ValType bytes
begin_at kind.HeapType bytes = index_or_byte_at kind.HeapType bytes
begin_at kind.CatchClause bytes = byte_at kind.CatchClause bytes
begin_at kind.Labels bytes = number_at kind.Labels bytes
begin_at kind.ValTypes bytes = number_at kind.ValTypes bytes
begin_at kind.CatchClauses bytes = number_at kind.CatchClauses bytes
begin_at kind.Local bytes = number_at kind.Local bytes
begin_at kind.Locals bytes = number_at kind.Locals bytes
begin_at kind.Aggregate bytes = number_at kind.Aggregate bytes
begin_at kind.Bulk bytes = number_at kind.Bulk bytes
begin_at kind.Vector bytes = number_at kind.Vector bytes
begin_at kind.Atomic bytes = number_at kind.Atomic bytes
begin_at kind.Block bytes = byte_at kind.Block bytes
begin_at kind.Expression bytes = byte_at kind.Expression bytes
begin_at kind.Expressions bytes = number_at kind.Expressions bytes
begin_at kind.ByteVec bytes = plain (byte_vec_at bytes)
begin_at kind.RefType bytes = byte_at kind.RefType bytes
begin_at kind.Mutability bytes = byte_at kind.Mutability bytes
begin_at kind.TagType bytes = byte_at kind.TagType bytes
begin_at kind.TableLimits bytes = byte_at kind.TableLimits bytes
begin_at kind.MemoryLimits bytes = byte_at kind.MemoryLimits bytes
begin_at kind.ExternType bytes = byte_at kind.ExternType bytes
begin_at kind.Import bytes =
    byte_vec_at bytes >>= (λ u. Ok (beginning None (kind.ByteVec ∷ kind.ExternType ∷ []), u.1))
begin_at kind.Imports bytes = number_at kind.Imports bytes
begin_at kind.TypeIndices bytes = number_at kind.TypeIndices bytes
begin_at kind.FunctionIndices bytes = number_at kind.FunctionIndices bytes
begin_at kind.Table bytes = byte_at kind.Table bytes
begin_at kind.Tables bytes = number_at kind.Tables bytes
begin_at kind.Global bytes = byte_at kind.Global bytes
begin_at kind.Globals bytes = number_at kind.Globals bytes
begin_at kind.ElementSegment bytes = number_at kind.ElementSegment bytes
begin_at kind.ElementSegments bytes = number_at kind.ElementSegments bytes
begin_at kind.DataSegment bytes = number_at kind.DataSegment bytes
begin_at kind.DataSegments bytes = number_at kind.DataSegments bytes
begin_at kind.Tags bytes = number_at kind.Tags bytes

-- ---- what the code returns

abbrev pub kinds_or_none : Option (List Kind) → List Kind
kinds_or_none (Some kinds) = kinds
kinds_or_none None = []

abbrev pub seen : HeadRead → Beginning
seen (head_read.Named k) = beginning (Some k) []
seen (head_read.Row row) = beginning None (kinds_or_none (row_kinds row))
seen (head_read.Instruction row here) = beginning None (kinds_or_none (row_kinds row) ++ here ∷ [])
seen (head_read.Times n k) = beginning None (times n k)

-- of a choice by a byte or a number, of which nothing is read here
abbrev pub Chooses : Option HeadRead → Option (List Kind) → Type 0
Chooses (Some h) kinds = kinds ≡ Some ((seen h).more) × ((seen h).named ≡ None)
Chooses None kinds = kinds ≡ None
