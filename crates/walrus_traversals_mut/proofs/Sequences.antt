-- A sequence that is visited, hook by hook.
use Rattle.std.proofs.Common.{◌≡◌, ℕ, List, inl, inr, refl, sym, ◌∙◌, subst}
use Rattle.ir_instr.specs.declared.instr.Instr.{Instr}
use Rattle.walrus_ir.specs.Calls.{Calls, leaves, call, and_then, each, Full, Partial, StepRelation, Visits}
use Rattle.walrus_ir.specs.Fields.{type_fields, instr_calls, sequence_calls}
use Rattle.walrus_ir.specs.Hooks.{start_instr_seq, end_instr_seq}
use Rattle.ir_instr.specs.Sequence.{Sequence}
use Rattle.ir_instr.specs.declared.instr_seq_type.InstrSeqType.{InstrSeqType}
use Rattle.walrus_ir.proofs.Calls.{visits_then, visits_cut, instrs_whole, sequence_whole}

-- all calls are some of them
pub full_partial : {V A : Type 0} (step : StepRelation V) (t : Calls A) (v w : V) (y : A) →
    Visits step v t Full w y → Visits step v t Partial w y
full_partial step (leaves x) v w y h = h
full_partial step (call hook given rest) v w y h =
    inr (h.0, h.1, h.2, full_partial step (rest h.1) h.0 w y h.3)

-- the hook at the start refuses
pub refused_sequence : {V : Type 0} (step : StepRelation V) (v w : V) (s t : Sequence) →
    w ≡ v → t ≡ s → Visits step v (sequence_calls s) Partial w t
refused_sequence step v w s t h k = inl (h, k ∙ sym (sequence_whole s))

module _ {V : Type 0} (step : StepRelation V) (v u : V) (s0 s : Sequence) where
  -- what comes after the type, and what after the instructions
  abbrev last : InstrSeqType → List (Instr × ℕ) → Calls Sequence
  last ty is = call end_instr_seq (record s { ty = ty; instrs = is }) (λ new. leaves new)

  abbrev rest : InstrSeqType → Calls Sequence
  rest ty = and_then (each instr_calls s.instrs) (last ty)

  pub begun_in_type :
      (w : V) (ty : InstrSeqType) → step start_instr_seq v s0 u s →
      Visits step u (type_fields s.ty) Partial w ty →
      Visits step v (sequence_calls s0) Partial w (record s { ty = ty })
  begun_in_type w ty h k =
      let F : Sequence → Type 0 = λ t. Visits step u (and_then (type_fields s.ty) rest) Partial w t in
      inr (u, s, h, subst F (instrs_whole s ty) (visits_cut step (type_fields s.ty) rest u w ty k))

  pub begun_in_instrs :
      (w x : V) (ty : InstrSeqType) (is : List (Instr × ℕ)) → step start_instr_seq v s0 u s →
      Visits step u (type_fields s.ty) Full w ty →
      Visits step w (each instr_calls s.instrs) Partial x is →
      Visits step v (sequence_calls s0) Partial x (record s { ty = ty; instrs = is })
  begun_in_instrs w x ty is h k m = inr (
    u,
    s,
    h,
    visits_then step (type_fields s.ty) rest u w x ty Partial (record s { ty = ty; instrs = is }) k
        (visits_cut step (each instr_calls s.instrs) (last ty) w x is m),
  )

  pub begun_before_end : (w x y : V) (ty : InstrSeqType) (is : List (Instr × ℕ)) (t : Sequence) →
      step start_instr_seq v s0 u s →
      Visits step u (type_fields s.ty) Full w ty → Visits step w (each instr_calls s.instrs) Full x is →
      (y ≡ x) × (t ≡ record s { ty = ty; instrs = is }) → Visits step v (sequence_calls s0) Partial y t
  begun_before_end w x y ty is t h k m e = inr (
    u,
    s,
    h,
    visits_then step (type_fields s.ty) rest u w y ty Partial t k
        (visits_then step (each instr_calls s.instrs) (last ty) w x y is Partial t m (inl e)),
  )

  pub whole_sequence :
      (w x y : V) (ty : InstrSeqType) (is : List (Instr × ℕ)) (t : Sequence) →
      step start_instr_seq v s0 u s → Visits step u (type_fields s.ty) Full w ty →
      Visits step w (each instr_calls s.instrs) Full x is →
      step end_instr_seq x (record s { ty = ty; instrs = is }) y t →
      Visits step v (sequence_calls s0) Full y t
  whole_sequence w x y ty is t h k m e = (
    u,
    s,
    h,
    visits_then step (type_fields s.ty) rest u w y ty Full t k
        (visits_then step (each instr_calls s.instrs) (last ty) w x y is Full t m (y, t, e, (refl, refl))),
  )
