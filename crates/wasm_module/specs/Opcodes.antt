-- What each instruction has after its opcode. The number in `MemArg` is the exponent of the natural
-- alignment: 2 to this power is how many bytes the access reads or writes.
-- WebAssembly core specification, "Binary Format", instructions, and "Index of Instructions". Rows of
-- proposals beyond it say so.
use Rattle.std.specs.Prelude.{ℕ, ◌+◌, List, [], ◌∷◌, Option, Some, None, nat_le, ◌&&◌, cond}
use Rattle.wasm_module.specs.declared.kind.Space.TheVariants as space
use Rattle.wasm_module.specs.declared.kind.Kind.{Kind}
use Rattle.wasm_module.specs.declared.kind.Kind.TheVariants as kind

-- the opcodes from `first` to `last` have immediates of these kinds
pub record Row : Type 0 where
  pub first : ℕ
  pub last : ℕ
  pub kinds : List Kind

abbrev pub row : ℕ → ℕ → List Kind → Row
row first last kinds = record { first = first; last = last; kinds = kinds }

-- the kinds of the row that has this opcode
abbrev pub kinds_in : List Row → ℕ → Option (List Kind)
kinds_in [] opcode = None
kinds_in (r ∷ rows) opcode =
    cond (nat_le r.first opcode && nat_le opcode r.last) (Some r.kinds) (kinds_in rows opcode)

abbrev pub type_index : Kind
type_index = kind.Index space.Type

abbrev pub function_index : Kind
function_index = kind.Index space.Function

abbrev pub table_index : Kind
table_index = kind.Index space.Table

abbrev pub memory_index : Kind
memory_index = kind.Index space.Memory

abbrev pub tag_index : Kind
tag_index = kind.Index space.Tag

abbrev pub global_index : Kind
global_index = kind.Index space.Global

abbrev pub element_index : Kind
element_index = kind.Index space.Element

abbrev pub data_index : Kind
data_index = kind.Index space.Data

abbrev pub local_index : Kind
local_index = kind.Index space.Local

abbrev pub label_index : Kind
label_index = kind.Index space.Label

abbrev pub field_index : Kind
field_index = kind.Index space.Field

abbrev pub lane : Kind
lane = kind.Bytes 1

-- ---- one byte

-- `end` (0x0B) and `delegate` (0x18) are in no row: they end a block.
abbrev pub opcodes : List Row
opcodes =
    row 0x00 0x01 []  -- unreachable, nop
    ∷ row 0x02 0x04 (kind.BlockType ∷ kind.Block ∷ [])  -- block, loop, if
    ∷ row 0x05 0x05 []  -- else
    ∷ row 0x06 0x06 (kind.BlockType ∷ kind.Block ∷ [])  -- try (older exceptions)
    ∷ row 0x07 0x08 (tag_index ∷ [])  -- catch (older exceptions), throw
    ∷ row 0x09 0x09 (label_index ∷ [])  -- rethrow (older exceptions)
    ∷ row 0x0A 0x0A []  -- throw_ref
    ∷ row 0x0C 0x0D (label_index ∷ [])  -- br, br_if
    ∷ row 0x0E 0x0E (kind.Labels ∷ label_index ∷ [])  -- br_table
    ∷ row 0x0F 0x0F []  -- return
    ∷ row 0x10 0x10 (function_index ∷ [])  -- call
    ∷ row 0x11 0x11 (type_index ∷ table_index ∷ [])  -- call_indirect
    ∷ row 0x12 0x12 (function_index ∷ [])  -- return_call
    ∷ row 0x13 0x13 (type_index ∷ table_index ∷ [])  -- return_call_indirect
    ∷ row 0x14 0x15 (type_index ∷ [])  -- call_ref, return_call_ref
    ∷ row 0x19 0x19 []  -- catch_all (older exceptions)
    ∷ row 0x1A 0x1B []  -- drop, select
    ∷ row 0x1C 0x1C (kind.ValTypes ∷ [])  -- select
    ∷ row 0x1F 0x1F (kind.BlockType ∷ kind.CatchClauses ∷ kind.Block ∷ [])  -- try_table
    ∷ row 0x20 0x22 (local_index ∷ [])  -- local.get, local.set, local.tee
    ∷ row 0x23 0x24 (global_index ∷ [])  -- global.get, global.set
    ∷ row 0x25 0x26 (table_index ∷ [])  -- table.get, table.set
    ∷ row 0x28 0x28 (kind.MemArg 2 ∷ [])  -- i32.load
    ∷ row 0x29 0x29 (kind.MemArg 3 ∷ [])  -- i64.load
    ∷ row 0x2A 0x2A (kind.MemArg 2 ∷ [])  -- f32.load
    ∷ row 0x2B 0x2B (kind.MemArg 3 ∷ [])  -- f64.load
    ∷ row 0x2C 0x2D (kind.MemArg 0 ∷ [])  -- i32.load8_s, i32.load8_u
    ∷ row 0x2E 0x2F (kind.MemArg 1 ∷ [])  -- i32.load16_s, i32.load16_u
    ∷ row 0x30 0x31 (kind.MemArg 0 ∷ [])  -- i64.load8_s, i64.load8_u
    ∷ row 0x32 0x33 (kind.MemArg 1 ∷ [])  -- i64.load16_s, i64.load16_u
    ∷ row 0x34 0x35 (kind.MemArg 2 ∷ [])  -- i64.load32_s, i64.load32_u
    ∷ row 0x36 0x36 (kind.MemArg 2 ∷ [])  -- i32.store
    ∷ row 0x37 0x37 (kind.MemArg 3 ∷ [])  -- i64.store
    ∷ row 0x38 0x38 (kind.MemArg 2 ∷ [])  -- f32.store
    ∷ row 0x39 0x39 (kind.MemArg 3 ∷ [])  -- f64.store
    ∷ row 0x3A 0x3A (kind.MemArg 0 ∷ [])  -- i32.store8
    ∷ row 0x3B 0x3B (kind.MemArg 1 ∷ [])  -- i32.store16
    ∷ row 0x3C 0x3C (kind.MemArg 0 ∷ [])  -- i64.store8
    ∷ row 0x3D 0x3D (kind.MemArg 1 ∷ [])  -- i64.store16
    ∷ row 0x3E 0x3E (kind.MemArg 2 ∷ [])  -- i64.store32
    ∷ row 0x3F 0x40 (memory_index ∷ [])  -- memory.size, memory.grow
    ∷ row 0x41 0x41 (kind.S32 ∷ [])  -- i32.const
    ∷ row 0x42 0x42 (kind.S64 ∷ [])  -- i64.const
    ∷ row 0x43 0x43 (kind.Bytes 4 ∷ [])  -- f32.const
    ∷ row 0x44 0x44 (kind.Bytes 8 ∷ [])  -- f64.const
    ∷ row 0x45 0xC4 []  -- numeric
    ∷ row 0xD0 0xD0 (kind.HeapType ∷ [])  -- ref.null
    ∷ row 0xD1 0xD1 []  -- ref.is_null
    ∷ row 0xD2 0xD2 (function_index ∷ [])  -- ref.func
    ∷ row 0xD3 0xD4 []  -- ref.eq, ref.as_non_null
    ∷ row 0xD5 0xD6 (label_index ∷ [])  -- br_on_null, br_on_non_null
    ∷ row 0xFB 0xFB (kind.Aggregate ∷ [])
    ∷ row 0xFC 0xFC (kind.Bulk ∷ [])
    ∷ row 0xFD 0xFD (kind.Vector ∷ [])
    ∷ row 0xFE 0xFE (kind.Atomic ∷ [])
    ∷ []

-- ---- 0xFB: aggregates and references

abbrev pub aggregate_opcodes : List Row
aggregate_opcodes =
    row 0 1 (type_index ∷ [])  -- struct.new, struct.new_default
    ∷ row 2 5 (type_index ∷ field_index ∷ [])  -- struct.get to struct.set
    ∷ row 6 7 (type_index ∷ [])  -- array.new, array.new_default
    ∷ row 8 8 (type_index ∷ kind.U32 ∷ [])  -- array.new_fixed
    ∷ row 9 9 (type_index ∷ data_index ∷ [])  -- array.new_data
    ∷ row 10 10 (type_index ∷ element_index ∷ [])  -- array.new_elem
    ∷ row 11 14 (type_index ∷ [])  -- array.get to array.set
    ∷ row 15 15 []  -- array.len
    ∷ row 16 16 (type_index ∷ [])  -- array.fill
    ∷ row 17 17 (type_index ∷ type_index ∷ [])  -- array.copy
    ∷ row 18 18 (type_index ∷ data_index ∷ [])  -- array.init_data
    ∷ row 19 19 (type_index ∷ element_index ∷ [])  -- array.init_elem
    ∷ row 20 23 (kind.HeapType ∷ [])  -- ref.test, ref.cast
    -- br_on_cast, br_on_cast_fail
    ∷ row 24 25 (kind.CastFlags ∷ label_index ∷ kind.HeapType ∷ kind.HeapType ∷ [])
    ∷ row 26 30 []  -- conversions, i31
    ∷ []

-- ---- 0xFC: saturating conversions, memories and tables

abbrev pub bulk_opcodes : List Row
bulk_opcodes =
    row 0 7 []  -- saturating truncations
    ∷ row 8 8 (data_index ∷ memory_index ∷ [])  -- memory.init
    ∷ row 9 9 (data_index ∷ [])  -- data.drop
    ∷ row 10 10 (memory_index ∷ memory_index ∷ [])  -- memory.copy
    ∷ row 11 11 (memory_index ∷ [])  -- memory.fill
    ∷ row 12 12 (element_index ∷ table_index ∷ [])  -- table.init
    ∷ row 13 13 (element_index ∷ [])  -- elem.drop
    ∷ row 14 14 (table_index ∷ table_index ∷ [])  -- table.copy
    ∷ row 15 17 (table_index ∷ [])  -- table.grow, table.size, table.fill
    ∷ row 19 22 []  -- wide arithmetic (proposal)
    ∷ []

-- ---- 0xFD: vectors

-- The numbers between the rows are no instructions.
abbrev pub vector_opcodes : List Row
vector_opcodes =
    row 0 0 (kind.MemArg 4 ∷ [])  -- v128.load
    ∷ row 1 6 (kind.MemArg 3 ∷ [])  -- v128.load8x8_s to v128.load32x2_u
    ∷ row 7 7 (kind.MemArg 0 ∷ [])  -- v128.load8_splat
    ∷ row 8 8 (kind.MemArg 1 ∷ [])  -- v128.load16_splat
    ∷ row 9 9 (kind.MemArg 2 ∷ [])  -- v128.load32_splat
    ∷ row 10 10 (kind.MemArg 3 ∷ [])  -- v128.load64_splat
    ∷ row 11 11 (kind.MemArg 4 ∷ [])  -- v128.store
    ∷ row 12 12 (kind.Bytes 16 ∷ [])  -- v128.const
    ∷ row 13 13 (kind.Bytes 16 ∷ [])  -- i8x16.shuffle: sixteen lanes
    ∷ row 14 20 []
    ∷ row 21 34 (lane ∷ [])  -- lanes
    ∷ row 35 83 []
    ∷ row 84 84 (kind.MemArg 0 ∷ lane ∷ [])  -- v128.load8_lane
    ∷ row 85 85 (kind.MemArg 1 ∷ lane ∷ [])  -- v128.load16_lane
    ∷ row 86 86 (kind.MemArg 2 ∷ lane ∷ [])  -- v128.load32_lane
    ∷ row 87 87 (kind.MemArg 3 ∷ lane ∷ [])  -- v128.load64_lane
    ∷ row 88 88 (kind.MemArg 0 ∷ lane ∷ [])  -- v128.store8_lane
    ∷ row 89 89 (kind.MemArg 1 ∷ lane ∷ [])  -- v128.store16_lane
    ∷ row 90 90 (kind.MemArg 2 ∷ lane ∷ [])  -- v128.store32_lane
    ∷ row 91 91 (kind.MemArg 3 ∷ lane ∷ [])  -- v128.store64_lane
    ∷ row 92 92 (kind.MemArg 2 ∷ [])  -- v128.load32_zero
    ∷ row 93 93 (kind.MemArg 3 ∷ [])  -- v128.load64_zero
    ∷ row 94 153 []
    ∷ row 155 161 []
    ∷ row 163 164 []
    ∷ row 167 174 []
    ∷ row 177 177 []
    ∷ row 181 186 []
    ∷ row 188 193 []
    ∷ row 195 196 []
    ∷ row 199 206 []
    ∷ row 209 209 []
    ∷ row 213 225 []
    ∷ row 227 237 []
    ∷ row 239 255 []
    ∷ row 256 275 []  -- relaxed
    ∷ []

-- ---- 0xFE: atomics (threads, proposal)

-- The seven accesses of one operation, from this opcode on: of i32, of i64, of 8 and 16 bits as i32,
-- and of 8, 16 and 32 bits as i64.
abbrev pub seven_accesses : ℕ → List Row → List Row
seven_accesses first rows =
    row first first (kind.MemArg 2 ∷ [])
    ∷ row (first + 1) (first + 1) (kind.MemArg 3 ∷ [])
    ∷ row (first + 2) (first + 2) (kind.MemArg 0 ∷ [])
    ∷ row (first + 3) (first + 3) (kind.MemArg 1 ∷ [])
    ∷ row (first + 4) (first + 4) (kind.MemArg 0 ∷ [])
    ∷ row (first + 5) (first + 5) (kind.MemArg 1 ∷ [])
    ∷ row (first + 6) (first + 6) (kind.MemArg 2 ∷ [])
    ∷ rows

-- from `add` on, these change the memory and return what was there
abbrev pub changing_accesses : List Row
changing_accesses =
    seven_accesses 30  -- add
    (seven_accesses 37  -- sub
    (seven_accesses 44  -- and
    (seven_accesses 51  -- or
    (seven_accesses 58  -- xor
    (seven_accesses 65  -- xchg
    (seven_accesses 72 []))))))  -- cmpxchg

abbrev pub atomic_opcodes : List Row
atomic_opcodes =
    row 0 1 (kind.MemArg 2 ∷ [])  -- memory.atomic.notify, memory.atomic.wait32
    ∷ row 2 2 (kind.MemArg 3 ∷ [])  -- memory.atomic.wait64
    ∷ row 3 3 (kind.Zero ∷ [])  -- atomic.fence
    ∷ seven_accesses 16 (seven_accesses 23 changing_accesses)  -- loads, stores and others
