-- What hooks keep of the nesting, their calls in turn keep.
use Rattle.std.proofs.Common.{◌≡◌, ℕ, inl, inr, List, [], ◌∷◌, map, refl, sym, ap, ◌∙◌, subst, flat_map}
use Rattle.std.specs.Bool.{⊤}
use Rattle.ir_instr.specs.declared.exceptions.LegacyCatch.{LegacyCatch}
use Rattle.ir_instr.specs.declared.exceptions.LegacyCatch.TheVariants as legacy
use Rattle.ir_instr.specs.declared.instr.Instr.{Instr}
use Rattle.ir_instr.specs.declared.instr.Instr.TheVariants as instr
use Rattle.walrus_ir.specs.Calls.{Calls, leaves, call, and_then, each, unchanged, Extent, Full, Partial, StepRelation, Visits}
use Rattle.walrus_ir.specs.Fields.{fields, type_fields, clause_fields, legacy_fields, instr_calls, sequence_calls}
use Rattle.walrus_ir.specs.Hooks.{Hook, Given, start_instr_seq, end_instr_seq, visit_instr, visit_instr_seq_id}
use Rattle.ir_instr.specs.Sequence.{Sequence}
use Rattle.ir_instr.specs.declared.instr_seq_type.InstrSeqType.{InstrSeqType}
use Rattle.walrus_functions.specs.Body.{Body, sequence}
use Rattle.walrus_functions.specs.Nesting.{children, handlers}
use Rattle.walrus_traversals_mut.specs.Premises.{nonempty, KeepsChildren, Keeps}
use Rattle.walrus_traversals_mut.specs.Steps.{SameNesting, keeping}
use Rattle.walrus_traversals_mut.specs.Walks.{VisitsBlock}
use Rattle.walrus_traversals_mut.proofs.Keeping.{flat_map_kept, keeps_children_same, nesting_kept}

-- what hooks may leave at calls in turn
abbrev pub Answers : {A : Type 0} → Calls A → Type 0
Answers (leaves x) = ⊤
Answers (call hook x rest) = (new : Given hook) × Keeps hook x new × Answers (rest new)

-- what then stands
abbrev pub left : {A : Type 0} → (t : Calls A) → Answers t → A
left (leaves x) k = x
left (call hook x rest) k = left (rest k.0) k.2

left_then : {A B : Type 0} (t : Calls A) (f : A → Calls B) (k : Answers (and_then t f)) →
    (a : Answers t) × (b : Answers (f (left t a))) × (left (and_then t f) k ≡ left (f (left t a)) b)
left_then (leaves x) f k = (tt, k, refl)
left_then (call hook x rest) f k = let r = left_then (rest k.0) f k.2 in ((k.0, k.1, r.0), r.1, r.2)

each_keeps :
    {A K : Type 0} (f : A → Calls A) (key : A → K) →
    ((x : A) (k : Answers (f x)) → key (left (f x) k) ≡ key x) →
    (xs : List A) (k : Answers (each f xs)) → map key (left (each f xs) k) ≡ map key xs
each_keeps f key e [] k = refl
each_keeps f key e (x ∷ xs) k =
    let a = left_then (f x) (λ y. and_then (each f xs) (λ ys. leaves (y ∷ ys))) k in
    let b = left_then (each f xs) (λ ys. leaves (left (f x) a.0 ∷ ys)) a.1 in
    ap (map key) (a.2 ∙ b.2) ∙ ap (λ z. z ∷ map key (left (each f xs) b.0)) (e x a.0)
    ∙ ap (λ l. key x ∷ l) (each_keeps f key e xs b.0)

legacy_keeps : (c : LegacyCatch) (k : Answers (legacy_fields c)) →
    handlers (left (legacy_fields c) k) ≡ handlers c
legacy_keeps (legacy.Catch tag handler) k = refl
legacy_keeps (legacy.CatchAll handler) k = refl
legacy_keeps (legacy.Delegate depth) k = refl

pub fields_keep : (i : Instr) (k : Answers (fields i)) → children (left (fields i) k) ≡ children i
fields_keep (instr.Block x) = λ k. ap (λ q. q ∷ []) k.1
fields_keep (instr.Loop x) = λ k. ap (λ q. q ∷ []) k.1
fields_keep (instr.IfElse x) = λ k. ap (λ q. q ∷ k.2.0 ∷ []) k.1 ∙ ap (λ q. x.consequent ∷ q ∷ []) k.2.1
fields_keep (instr.TryTable x) =
    λ k. ap children (left_then (each clause_fields x.catches) (λ b. leaves (instr.TryTable
    (record x { seq = k.0; catches = b }))) k.2).2 ∙ ap (λ q. q ∷ []) k.1
fields_keep (instr.Try x) = λ k.
    let a = left_then (each legacy_fields x.catches) (λ b. leaves (instr.Try
    (record x { seq = k.0; catches = b }))) k.2 in
    ap children a.2 ∙ ap (λ q. q ∷ flat_map handlers (left (each legacy_fields x.catches) a.0)) k.1
    ∙ ap (λ l. x.seq ∷ l) (flat_map_kept handlers (left (each legacy_fields x.catches) a.0) x.catches
    (each_keeps legacy_fields handlers legacy_keeps x.catches a.0))
fields_keep no_other = λ k. refl

instr_keeps : (x : Instr × ℕ) (k : Answers (instr_calls x)) →
    children (left (instr_calls x) k).0 ≡ children x.0
instr_keeps x k =
    let a = left_then (fields k.0.0) (λ i. leaves (i, k.0.1)) k.2 in
    ap (λ p. children p.0) a.2 ∙ fields_keep k.0.0 a.0 ∙ k.1

sequence_keeps : (s : Sequence) (k : Answers (sequence_calls s)) → KeepsChildren s (left (sequence_calls s) k)
sequence_keeps s k =
    let t = k.0 in
    let last : InstrSeqType → List (Instr × ℕ) → Calls Sequence = λ ty is. call end_instr_seq
    (record t { ty = ty; instrs = is }) (λ new. leaves new) in
    let a = left_then (type_fields t.ty) (λ ty. and_then (each instr_calls t.instrs) (last ty)) k.2 in
    let b = left_then (each instr_calls t.instrs) (last (left (type_fields t.ty) a.0)) a.1 in
    subst (KeepsChildren s) (sym (a.2 ∙ b.2)) (
      b.1.1.0 ∙ k.1.0,
      b.1.1.1 ∙ ap nonempty (each_keeps instr_calls (λ x. children x.0) instr_keeps t.instrs b.0) ∙ k.1.1,
    )

-- what is left as it was is kept
keeps_same : (hook : Hook) → (x : Given hook) → Keeps hook x x
keeps_same start_instr_seq = λ x. keeps_children_same x x refl
keeps_same end_instr_seq = λ x. keeps_children_same x x refl
keeps_same visit_instr = λ x. refl
keeps_same visit_instr_seq_id = λ x. refl
keeps_same no_other = λ x. tt

all_same : {A : Type 0} (t : Calls A) → (k : Answers t) × (left t k ≡ unchanged t)
all_same (leaves x) = (tt, refl)
all_same (call hook x rest) = let a = all_same (rest x) in ((x, keeps_same hook x, a.0), a.1)

module _ {V : Type 0} (step : StepRelation V) where
  answered : {A : Type 0} (t : Calls A) (v : V) (e : Extent) (w : V) (y : A) →
      Visits (keeping step) v t e w y → (k : Answers t) × (y ≡ left t k)
  answered (leaves x) v e w y h = (tt, h.1)
  answered (call hook x rest) v Full w y h =
      let a = answered (rest h.1) h.0 Full w y h.3 in ((h.1, h.2.1, a.0), a.1)
  answered (call hook x rest) v Partial w y h = elim h [
    | inl k ↦ (let a = all_same (rest x) in ((x, keeps_same hook x, a.0), k.1 ∙ sym a.1))
    | inr k ↦ (let a = answered (rest k.1) k.0 Partial w y k.3 in ((k.1, k.2.1, a.0), a.1))
  ]

  visited : {A : Type 0} (t : Calls A) (v : V) (e : Extent) (w : V) (y : A) →
      Visits (keeping step) v t e w y → Visits step v t e w y
  visited (leaves x) v e w y h = h
  visited (call hook x rest) v Full w y h = (h.0, h.1, h.2.0, visited (rest h.1) h.0 Full w y h.3)
  visited (call hook x rest) v Partial w y h =
      elim h [ inl k ↦ inl k | inr k ↦ inr (k.0, k.1, k.2.0, visited (rest k.1) k.0 Partial w y k.3) ]

  module _ (s t : V × Body) (q : ℕ) (e : Extent) (h : VisitsBlock (keeping step) s q e t) where
    -- a visit whose steps keep the nesting is one of the visitor
    pub block_visited : VisitsBlock step s q e t
    block_visited = (h.0, visited (sequence_calls (sequence s.1 q)) s.0 e t.0 h.0 h.1, h.2)

    -- and keeps the nesting, whole or cut
    pub block_keeps : SameNesting s.1 t.1
    block_keeps =
        let old = sequence s.1 q in
        let a = answered (sequence_calls old) s.0 e t.0 h.0 h.1 in
        let kept : KeepsChildren old h.0 = subst (KeepsChildren old) (sym a.1) (sequence_keeps old a.0) in
        subst (SameNesting s.1) (sym h.2) (nesting_kept s.1 q old h.0 refl kept)
