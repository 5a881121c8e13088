-- What a visitor that renames types leaves at each hook, and of instructions and sequences.
use Rattle.std.specs.Prelude.{ℕ, List, slice_index_or}
use Rattle.walrus_ty.specs.Value.{rename_heap}
use Rattle.walrus_ir.specs.Hooks.{Hook, Given, visit_heap_type, visit_type_id}
use Rattle.ir_instr.specs.Sequence.{Sequence}
use Rattle.walrus_traversals_mut.specs.FieldMaps.{mapped_sequence}

-- the new id of a type: what stands at its place in the list, and past the end the id itself
abbrev pub new_type_id : List ℕ → ℕ → ℕ
new_type_id names id = slice_index_or names id id

-- the ids of types are renamed, and so are those in heap types; nothing else changes
abbrev pub rename_at : List ℕ → (hook : Hook) → Given hook → Given hook
rename_at names visit_type_id id = new_type_id names id
rename_at names visit_heap_type ty = rename_heap (new_type_id names) ty
rename_at names _ x = x

-- a sequence with its type and the fields of its instructions renamed. Its id, the locations and
-- its end stay
abbrev pub rename_sequence : List ℕ → Sequence → Sequence
rename_sequence names s = mapped_sequence (rename_at names) s
