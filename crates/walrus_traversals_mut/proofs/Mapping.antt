-- What a visitor that maps fields leaves at a sequence.
use Rattle.std.proofs.Common.{◌≡◌, ℕ, List, [], ◌∷◌, map, refl, sym, ap, ◌∙◌, subst}
use Rattle.ir_instr.specs.declared.instr.Instr.{Instr}
use Rattle.walrus_ir.specs.Calls.{Calls, leaves, call, and_then, each, Full, StepRelation, Visits}
use Rattle.walrus_ir.specs.Fields.{fields, type_fields, instr_calls, sequence_calls}
use Rattle.walrus_ir.specs.Hooks.{Hook, Given, start_instr_seq, end_instr_seq, visit_instr, visit_instr_seq_id}
use Rattle.ir_instr.specs.Sequence.{Sequence}
use Rattle.ir_instr.specs.declared.instr_seq_type.InstrSeqType.{InstrSeqType}
use Rattle.walrus_functions.specs.Body.{Body, sequence, with_sequence}
use Rattle.walrus_functions.specs.Nesting.{children}
use Rattle.walrus_traversals_mut.specs.FieldMaps.{FieldMap, MapsFields, mapped, mapped_instr, mapped_type, mapped_sequence}
use Rattle.walrus_traversals_mut.specs.Premises.{KeepsChildren, Keeps, nonempty}
use Rattle.walrus_traversals_mut.specs.Walks.{VisitsBlock}
use Rattle.walrus_traversals_mut.proofs.Determined.{moved}
use Rattle.walrus_traversals_mut.proofs.Keeping.{keeps_children_same}
use Rattle.walrus_traversals_mut.proofs.Kept.{Answers, left, fields_keep}

mapped_then : {A B : Type 0} (f : FieldMap) (t : Calls A) (k : A → Calls B) →
    mapped f (and_then t k) ≡ mapped f (k (mapped f t))
mapped_then f (leaves x) k = refl
mapped_then f (call hook x rest) k = mapped_then f (rest (f hook x)) k

mapped_each : {A : Type 0} (f : FieldMap) (c : A → Calls A) (g : A → A) →
    ((x : A) → mapped f (c x) ≡ g x) → (xs : List A) → mapped f (each c xs) ≡ map g xs
mapped_each f c g e [] = refl
mapped_each f c g e (x ∷ xs) =
    mapped_then f (c x) (λ y. and_then (each c xs) (λ ys. leaves (y ∷ ys)))
    ∙ mapped_then f (each c xs) (λ ys. leaves (mapped f (c x) ∷ ys))
    ∙ ap (λ y. y ∷ mapped f (each c xs)) (e x) ∙ ap (λ ys. g x ∷ ys) (mapped_each f c g e xs)

module _ {V : Type 0} (step : StepRelation V) (v : V) (f : FieldMap) (m : MapsFields step v f) where
  visits_map : {A : Type 0} (t : Calls A) (w : V) (y : A) →
      Visits step v t Full w y → (w ≡ v) × (y ≡ mapped f t)
  visits_map (leaves x) w y h = h
  visits_map (call hook x rest) w y h =
      let e = m.maps hook x h.0 h.1 h.2 in
      let F : V → Given hook → Type 0 = λ a b. Visits step a (rest b) Full w y in
      visits_map (rest (f hook x)) w y (moved F v h.0 (f hook x) h.1 (sym e.0) (sym e.1) h.3)

  abbrev with_location : Instr × ℕ → Instr × ℕ
  with_location x = (mapped_instr f x.0, x.1)

  instr_mapped : (x : Instr × ℕ) → mapped f (instr_calls x) ≡ with_location x
  instr_mapped x =
      mapped_then f (fields (f visit_instr x).0) (λ i. leaves (i, (f visit_instr x).1))
      ∙ ap with_location (m.instrs x)

  sequence_mapped : (s : Sequence) → mapped f (sequence_calls s) ≡ mapped_sequence f s
  sequence_mapped s =
      let t = f start_instr_seq s in
      let last : InstrSeqType → List (Instr × ℕ) → Calls Sequence = λ ty is. call end_instr_seq
      (record t { ty = ty; instrs = is }) (λ new. leaves new) in
      mapped_then f (type_fields t.ty) (λ ty. and_then (each instr_calls t.instrs) (last ty))
      ∙ mapped_then f (each instr_calls t.instrs) (last (mapped_type f t.ty))
      ∙ m.ends (record t { ty = mapped_type f t.ty; instrs = mapped f (each instr_calls t.instrs) })
      ∙ ap (λ (is : List (Instr × ℕ)). record t { ty = mapped_type f t.ty; instrs = is })
      (mapped_each f instr_calls with_location instr_mapped t.instrs) ∙ ap (mapped_sequence f) (m.starts s)

  -- the visit of a sequence writes it, mapped, over what stood there
  pub block_maps : (s t : V × Body) (id : ℕ) → s.0 ≡ v → VisitsBlock step s id Full t → (t.0 ≡ v)
      × (t.1 ≡ with_sequence s.1 id (mapped_sequence f (sequence s.1 id)))
  block_maps s t id e h =
      let q = sequence s.1 id in
      let F : V → Type 0 = λ u. Visits step u (sequence_calls q) Full t.0 h.0 in
      let d = visits_map (sequence_calls q) t.0 h.0 (subst F e h.1) in
      (d.0, h.2 ∙ ap (with_sequence s.1 id) (d.1 ∙ sequence_mapped q))

  pub maps_keep : (hook : Hook) → (x : Given hook) → Keeps hook x (f hook x)
  maps_keep start_instr_seq = λ x. keeps_children_same x (f start_instr_seq x) (m.starts x)
  maps_keep end_instr_seq = λ x. keeps_children_same x (f end_instr_seq x) (m.ends x)
  maps_keep visit_instr = λ x. ap (λ y. children y.0) (m.instrs x)
  maps_keep visit_instr_seq_id = m.seq_ids
  maps_keep no_other = λ x. tt

  answers : {A : Type 0} (t : Calls A) → (k : Answers t) × (left t k ≡ mapped f t)
  answers (leaves x) = (tt, refl)
  answers (call hook x rest) =
      let a = answers (rest (f hook x)) in ((f hook x, maps_keep hook x, a.0), a.1)

  same_children : (i : Instr) → children (mapped_instr f i) ≡ children i
  same_children i =
      let a = answers (fields i) in ap children (sym a.1) ∙ fields_keep i a.0

  same_child_lists : (is : List (Instr × ℕ)) →
      map (λ x. children x.0) (map with_location is) ≡ map (λ x. children x.0) is
  same_child_lists [] = refl
  same_child_lists (x ∷ is) =
      ap (λ l. l ∷ map (λ y. children y.0) (map with_location is)) (same_children x.0)
      ∙ ap (λ l. children x.0 ∷ l) (same_child_lists is)

  pub mapped_keeps_children : (s : Sequence) → KeepsChildren s (mapped_sequence f s)
  mapped_keeps_children s = (refl, ap nonempty (same_child_lists s.instrs))
