-- The types of instruction sequences. WebAssembly core specification, "Instructions": block types.
use Rattle.std.specs.Prelude.{ℕ, List, [], ◌∷◌, Option, Some, None}
use Rattle.walrus_ty.specs.declared.ty.value.Val.{Val}
use Rattle.walrus_ty.specs.Value.{val_name}
use Rattle.ir_instr.specs.declared.instr_seq_type.InstrSeqType.{InstrSeqType}
use Rattle.ir_instr.specs.declared.instr_seq_type.InstrSeqType.TheVariants.{Simple, MultiValue}

-- what a sequence leaves that takes nothing and leaves one value or nothing; none for all other
-- sequences
abbrev pub simple_result : List (Val ℕ) → List (Val ℕ) → Option (Option (Val ℕ))
simple_result [] [] = Some None
simple_result [] (of ∷ []) = Some (Some of)
simple_result [] (first ∷ second ∷ rest) = None
simple_result (first ∷ rest) results = None

-- it has a function type, of whose id P holds
abbrev pub IsMultiValue : InstrSeqType → (ℕ → Type 0) → Type 0
IsMultiValue (MultiValue id) P = P id
IsMultiValue (Simple of) P = ⊥

-- the type that it names: its function type, or the one that the value names which is left
abbrev pub block_type_name : InstrSeqType → Option ℕ
block_type_name (MultiValue id) = Some id
block_type_name (Simple (Some of)) = val_name of
block_type_name (Simple None) = None
