-- What the sections of a module have for their content, where that names types.
-- WebAssembly core specification, "Binary Format", modules and types. Rows of proposals beyond it say
-- so. `behind_byte` and `behind_number` of specs/Immediates look up these rows.
use Rattle.std.specs.Prelude.{ℕ, List, [], ◌∷◌, Option}
use Rattle.wasm_module.specs.declared.kind.Kind.{Kind}
use Rattle.wasm_module.specs.declared.kind.Kind.TheVariants as kind
use Rattle.wasm_module.specs.Opcodes.{Row, row, kinds_in, type_index, table_index, memory_index}

-- ---- sections

-- The sections of these ids are texts of these kinds. The code section (10) is in no row, since each
-- of its bodies has a size. Nor are those that name no type from outside the type section: custom
-- sections (0), the type section (1), memories (5), exports (7), start (8) and data count (12).
abbrev pub section_rows : List Row
section_rows =
    row 2 2 (kind.Imports ∷ [])  -- import section
    ∷ row 3 3 (kind.TypeIndices ∷ [])  -- function section
    ∷ row 4 4 (kind.Tables ∷ [])  -- table section
    ∷ row 6 6 (kind.Globals ∷ [])  -- global section
    ∷ row 9 9 (kind.ElementSegments ∷ [])  -- element section
    ∷ row 11 11 (kind.DataSegments ∷ [])  -- data section
    ∷ row 13 13 (kind.Tags ∷ [])  -- tag section
    ∷ []

abbrev pub section_kinds : ℕ → Option (List Kind)
section_kinds id = kinds_in section_rows id

-- ---- imports

-- what is imported, by its first byte
abbrev pub extern_types : List Row
extern_types =
    row 0 0 (type_index ∷ [])  -- function
    ∷ row 1 1 (kind.RefType ∷ kind.TableLimits ∷ [])  -- table
    ∷ row 2 2 (kind.MemoryLimits ∷ [])  -- memory
    ∷ row 3 3 (kind.ValType ∷ kind.Mutability ∷ [])  -- global
    ∷ row 4 4 (kind.TagType ∷ [])  -- tag
    ∷ []

-- ---- limits, by their flags

-- 1: there is a maximum. 4: addresses have 64 bits.
abbrev pub table_limits : List Row
table_limits =
    row 0 0 (kind.U64 ∷ [])
    ∷ row 1 1 (kind.U64 ∷ kind.U64 ∷ [])
    ∷ row 4 4 (kind.U64 ∷ [])
    ∷ row 5 5 (kind.U64 ∷ kind.U64 ∷ [])
    ∷ []

-- 1 and 4 as above. 2: the memory is shared (threads, proposal). 8: the size of a page follows (custom
-- page sizes, proposal).
abbrev pub memory_limits : List Row
memory_limits =
    row 0 0 (kind.U64 ∷ [])
    ∷ row 1 1 (kind.U64 ∷ kind.U64 ∷ [])
    ∷ row 2 2 (kind.U64 ∷ [])
    ∷ row 3 3 (kind.U64 ∷ kind.U64 ∷ [])
    ∷ row 4 4 (kind.U64 ∷ [])
    ∷ row 5 5 (kind.U64 ∷ kind.U64 ∷ [])
    ∷ row 6 6 (kind.U64 ∷ [])
    ∷ row 7 7 (kind.U64 ∷ kind.U64 ∷ [])
    ∷ row 8 8 (kind.U64 ∷ kind.U64 ∷ [])
    ∷ row 9 9 (kind.U64 ∷ kind.U64 ∷ kind.U64 ∷ [])
    ∷ row 10 10 (kind.U64 ∷ kind.U64 ∷ [])
    ∷ row 11 11 (kind.U64 ∷ kind.U64 ∷ kind.U64 ∷ [])
    ∷ row 12 12 (kind.U64 ∷ kind.U64 ∷ [])
    ∷ row 13 13 (kind.U64 ∷ kind.U64 ∷ kind.U64 ∷ [])
    ∷ row 14 14 (kind.U64 ∷ kind.U64 ∷ [])
    ∷ row 15 15 (kind.U64 ∷ kind.U64 ∷ kind.U64 ∷ [])
    ∷ []

-- ---- segments, by the number that they begin with

-- `Zero` is the kind of element `funcref`.
abbrev pub element_forms : List Row
element_forms =
    row 0 0 (kind.Expression ∷ kind.FunctionIndices ∷ [])  -- active
    ∷ row 1 1 (kind.Zero ∷ kind.FunctionIndices ∷ [])  -- passive
    ∷ row 2 2 (table_index ∷ kind.Expression ∷ kind.Zero ∷ kind.FunctionIndices ∷ [])  -- active
    ∷ row 3 3 (kind.Zero ∷ kind.FunctionIndices ∷ [])  -- declarative
    ∷ row 4 4 (kind.Expression ∷ kind.Expressions ∷ [])  -- active
    ∷ row 5 5 (kind.RefType ∷ kind.Expressions ∷ [])  -- passive
    ∷ row 6 6 (table_index ∷ kind.Expression ∷ kind.RefType ∷ kind.Expressions ∷ [])  -- active
    ∷ row 7 7 (kind.RefType ∷ kind.Expressions ∷ [])  -- declarative
    ∷ []

abbrev pub data_forms : List Row
data_forms =
    row 0 0 (kind.Expression ∷ kind.ByteVec ∷ [])  -- active
    ∷ row 1 1 (kind.ByteVec ∷ [])  -- passive
    ∷ row 2 2 (memory_index ∷ kind.Expression ∷ kind.ByteVec ∷ [])  -- active
    ∷ []
