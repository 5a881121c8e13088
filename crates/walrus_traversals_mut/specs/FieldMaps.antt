-- Instructions, sequences and bodies in which each field that a changing walk visits is replaced by
-- its image under a map.
use Rattle.std.specs.Prelude.{◌≡◌, ℕ, List, map, length, count_by, nat_eq}
use Rattle.std.specs.Fn.{iterate}
use Rattle.ir_instr.specs.Sequence.{Sequence}
use Rattle.ir_instr.specs.declared.instr_seq_type.InstrSeqType.{InstrSeqType}
use Rattle.ir_instr.specs.declared.instr.Instr.{Instr}
use Rattle.walrus_functions.specs.Body.{Body, sequence}
use Rattle.walrus_ir.specs.Calls.{Calls, leaves, call, StepRelation}
use Rattle.walrus_ir.specs.Fields.{fields, type_fields}
use Rattle.walrus_ir.specs.Hooks.{Hook, Given, start_instr_seq, end_instr_seq, visit_instr, visit_instr_seq_id}

-- for each hook, the image of what it is given
abbrev pub FieldMap : Type 0
FieldMap = (hook : Hook) → Given hook → Given hook

-- what stands after calls at which each hook maps what it is given
abbrev pub mapped : {A : Type 0} → FieldMap → Calls A → A
mapped f (leaves x) = x
mapped f (call hook given rest) = mapped f (rest (f hook given))

abbrev pub mapped_instr : FieldMap → Instr → Instr
mapped_instr f i = mapped f (fields i)

-- the type of a sequence, with what it names mapped
abbrev pub mapped_type : FieldMap → InstrSeqType → InstrSeqType
mapped_type f ty = mapped f (type_fields ty)

-- a sequence with its type and the fields of its instructions mapped. Its id, the locations and its
-- end stay
abbrev pub mapped_sequence : FieldMap → Sequence → Sequence
mapped_sequence f seq = record seq {
  ty = mapped_type f seq.ty;
  instrs = map (λ item. (mapped_instr f item.0, item.1)) seq.instrs;
}

-- each sequence is mapped as often as it stands among the visits, and all else is the same
pub record IsMapped (f : FieldMap) (visits : List ℕ) (old new : Body) : Type 0 where
  pub sequences : (id : ℕ) →
      sequence new id ≡ iterate (mapped_sequence f) (count_by (nat_eq id) visits) (sequence old id)
  pub count : length new.seqs ≡ length old.seqs
  pub entry : new.entry ≡ old.entry
  pub ty : new.ty ≡ old.ty
  pub name : new.name ≡ old.name

-- a visitor v that stays as it is, maps fields, and changes nothing else
pub record MapsFields {V : Type 0} (step : StepRelation V) (v : V) (f : FieldMap) : Type 0 where
  pub maps : (hook : Hook) (x : Given hook) (w : V) (y : Given hook) → step hook v x w y →
      (w ≡ v) × (y ≡ f hook x)
  pub starts : (seq : Sequence) → f start_instr_seq seq ≡ seq
  pub ends : (seq : Sequence) → f end_instr_seq seq ≡ seq
  pub instrs : (item : Instr × ℕ) → f visit_instr item ≡ item
  pub seq_ids : (id : ℕ) → f visit_instr_seq_id id ≡ id
