-- What is listed is what a function uses.
use Rattle.std.proofs.Common.{◌≡◌, ℕ, ◌+◌, ◌<◌, inl, inr, List, [], ◌∷◌, ◌++◌, length, take, get_or, sym, ap, subst, ◌∙◌, append_assoc, append-nil, Option, Some, None, Contains, ◌↔◌}
use Rattle.std.specs.List.{flat_map, slice_get, FoldsTo}
use Rattle.std.proofs.lemmas.List.{take_more, flat_map_more}
use Rattle.std.proofs.lemmas.Option.{get_or_from_slice_get}
use Rattle.std.proofs.lemmas.List.Elements.{Contains-append_left, Contains-append_right, Contains-append_cases}
use Rattle.walrus_ty.specs.Definition.{supertype_names}
use Rattle.walrus_ty.specs.declared.ty.value.Heap.TheVariants.{Abstract, Concrete, Exact}
use Rattle.ir_instr.specs.BlockTypes.{block_type_name}
use Rattle.ir_instr.specs.Locals.{LocalVariable}
use Rattle.ir_instr.specs.Sequence.{Sequence, empty_sequence}
use Rattle.ir_instr.specs.declared.instr_seq_type.InstrSeqType.TheVariants.{Simple}
use Rattle.ir_instr.specs.declared.instr.Instr.{Instr}
use Rattle.walrus_functions.specs.Body.{Body, sequence}
use Rattle.walrus_functions.specs.FunctionWithArgs.{FunctionWithArgs}
use Rattle.walrus_ir.specs.Calls.{Event, at, reported}
use Rattle.walrus_ir.specs.Fields.{fields}
use Rattle.walrus_ir.specs.Hooks.{start_instr_seq, end_instr_seq, visit_instr, visit_instr_seq_id, visit_local_id, visit_memory_id, visit_table_id, visit_global_id, visit_function_id, visit_data_id, visit_element_id, visit_tag_id, visit_type_id, visit_value, visit_heap_type}
use Rattle.walrus_traversals.specs.AnyIds.{id_in}
use Rattle.walrus_traversals.specs.OneHook.{step_at}
use Rattle.walrus_traversals.specs.declared.id_visitor.AnyId.{AnyId}
use Rattle.walrus_traversals.specs.declared.id_visitor.OnlyIds.{OnlyIds}
use Rattle.walrus_passes.specs.UsedTypes.{IsInBody, UsesType, own, parameter, block, instruction, local_types, field_types, unvisited_types, instr_types}
use Rattle.walrus_passes.specs.Steps.UsedTypes.{Lists, id_types, seq_types, function_types}
use Rattle.walrus_passes.specs.declared.roots.Roots.{Roots}
use Rattle.walrus_unused.proofs.UnusedTypes.Elements.{contains_none, contains_first, contains_rest, contains_cases}

-- both one behind the other
more : (old now new : Roots) (xs ys : List ℕ) → Lists old xs now → Lists now ys new → Lists old (xs ++ ys) new
more old now new xs ys first next = record {
  locals = next.locals ∙ first.locals;
  used = next.used ∙ ap (λ (ns : List ℕ). ns ++ ys) first.used ∙ append_assoc old.used xs ys;
}

nothing : (old new : Roots) → new ≡ old → Lists old [] new
nothing old new same = record {
  locals = ap (λ (r : Roots). r.locals.now) same;
  used = ap (λ (r : Roots). r.used) same ∙ sym (append-nil old.used);
}

-- the types of one sequence more are listed
pub seqs_more :
    (f : Body) (ids : List ℕ) (k id : ℕ) (s : Sequence) (old now new : Roots) → k < length ids →
    id ≡ get_or ids k id → slice_get f.seqs id ≡ Some s →
    Lists old (flat_map (λ q. seq_types old.locals.now (sequence f q)) (take k ids)) now →
    Lists now (seq_types now.locals.now s) new →
    Lists old (flat_map (λ q. seq_types old.locals.now (sequence f q)) (take (k + 1) ids)) new
seqs_more f ids k id s old now new below is there before after =
    let g : ℕ → List ℕ = λ q. seq_types old.locals.now (sequence f q) in
    let here : sequence f id ≡ s = get_or_from_slice_get f.seqs id s (empty_sequence id (Simple None)) there
    in
    let types : seq_types now.locals.now s ≡ g id =
    ap (λ (ls : List LocalVariable). seq_types ls s) before.locals
    ∙ ap (λ (q : Sequence). seq_types old.locals.now q) (sym here) in
    let items : take (k + 1) ids ≡ take k ids ++ id ∷ [] = take_more ids k id below
    ∙ ap (λ (n : ℕ). take k ids ++ n ∷ []) (sym is) in
    subst (λ (ns : List ℕ). Lists old ns new)
    (flat_map_more g [] (take k ids) id ∙ ap (flat_map g) (sym items))
    (more old now new (flat_map g (take k ids)) (g id) before
    (subst (λ (ns : List ℕ). Lists now ns new) types after))

-- the types of one instruction more are listed
pub instrs_more : (b : Option ℕ) (items : List (Instr × ℕ)) (k : ℕ) (x : Instr × ℕ) (old now new : Roots) →
    k < length items → x ≡ get_or items k x →
    Lists old (supertype_names b ++ flat_map (λ y. instr_types old.locals.now y.0) (take k items)) now →
    Lists now (instr_types now.locals.now x.0) new →
    Lists old (supertype_names b ++ flat_map (λ y. instr_types old.locals.now y.0) (take (k + 1) items)) new
instrs_more b items k x old now new below is before after =
    let f : Instr × ℕ → List ℕ = λ y. instr_types old.locals.now y.0 in
    let names = supertype_names b in
    let types : instr_types now.locals.now x.0 ≡ f x =
    ap (λ (ls : List LocalVariable). instr_types ls x.0) before.locals in
    let next : take (k + 1) items ≡ take k items ++ x ∷ [] = take_more items k x below
    ∙ ap (λ (y : Instr × ℕ). take k items ++ y ∷ []) (sym is) in
    subst (λ (ns : List ℕ). Lists old ns new)
    (append_assoc names (flat_map f (take k items)) (f x)
    ∙ ap (λ (ns : List ℕ). names ++ ns) (flat_map_more f [] (take k items) x ∙ ap (flat_map f) (sym next)))
    (more old now new (names ++ flat_map f (take k items)) (f x) before
    (subst (λ (ns : List ℕ). Lists now ns new) types after))

-- what a walk reports is listed

abbrev Step : Roots → AnyId → Roots → Type 0
Step old id new = Lists old (id_types old.locals.now id) new

one_listed : (e : Event) (old new : Roots) → step_at id_in Step old e new →
    Lists old (field_types old.locals.now e) new
one_listed (at start_instr_seq x) old new h = nothing old new h
one_listed (at end_instr_seq x) old new h = nothing old new h
one_listed (at visit_instr x) old new h = nothing old new h
one_listed (at visit_instr_seq_id id) old new h = h
one_listed (at visit_local_id id) old new h = h
one_listed (at visit_memory_id id) old new h = h
one_listed (at visit_table_id id) old new h = h
one_listed (at visit_global_id id) old new h = h
one_listed (at visit_function_id id) old new h = h
one_listed (at visit_data_id id) old new h = h
one_listed (at visit_element_id id) old new h = h
one_listed (at visit_tag_id id) old new h = h
one_listed (at visit_type_id id) old new h = h
one_listed (at visit_value x) old new h = nothing old new h
one_listed (at visit_heap_type (Abstract x)) old new h = nothing old new h
one_listed (at visit_heap_type (Concrete id)) old new h = h
one_listed (at visit_heap_type (Exact id)) old new h = h

all_listed : (es : List Event) (old new : OnlyIds Roots) →
    FoldsTo (λ (v : OnlyIds Roots) (e : Event) (w : OnlyIds Roots). step_at id_in Step v.visitor e w.visitor)
    old es new → Lists old.visitor (flat_map (field_types old.visitor.locals.now) es) new.visitor
all_listed [] old new h = nothing old.visitor new.visitor (ap (λ (v : OnlyIds Roots). v.visitor) (sym h))
all_listed (e ∷ es) old new h =
    let now : Roots = h.0.visitor in
    let first = one_listed e old.visitor now h.1 in
    more old.visitor now new.visitor (field_types old.visitor.locals.now e)
    (flat_map (field_types old.visitor.locals.now) es) first
    (subst (λ (ls : List LocalVariable). Lists now (flat_map (field_types ls) es) new.visitor) first.locals
    (all_listed es h.0 new h.2))

-- and then what it does not report
pub instr_listed :
    (i : Instr) (old now : OnlyIds Roots) (new : Roots) →
    FoldsTo (λ (v : OnlyIds Roots) (e : Event) (w : OnlyIds Roots). step_at id_in Step v.visitor e w.visitor)
    old (reported (fields i)) now → Lists now.visitor (unvisited_types i) new →
    Lists old.visitor (instr_types old.visitor.locals.now i) new
instr_listed i old now new h rest =
    more old.visitor now.visitor new
    (flat_map (field_types old.visitor.locals.now) (reported (fields i))) (unvisited_types i)
    (all_listed (reported (fields i)) old now h) rest

-- what is in the lists of some elements

module _ {A B : Type 0} (f : A → List B) where
  in_flat : (xs : List A) (y : B) → Contains (flat_map f xs) y → (x : A) × Contains xs x × Contains (f x) y
  in_flat [] y c = absurd (contains_none y c)
  in_flat (x ∷ xs) y c = elim (Contains-append_cases (f x) (flat_map f xs) y c) [
    | inl k ↦ (x, contains_first x xs, k)
    | inr k ↦ (let r = in_flat xs y k in (r.0, contains_rest x xs r.0 r.1, r.2))
  ]

  flat_in : (xs : List A) (x : A) (y : B) → Contains xs x → Contains (f x) y → Contains (flat_map f xs) y
  flat_in [] x y c k = absurd (contains_none x c)
  flat_in (z ∷ xs) x y c k = elim (contains_cases z xs x c) [
    | inl e ↦ Contains-append_left (f z) (flat_map f xs) y (subst (λ (a : A). Contains (f a) y) e k)
    | inr r ↦ Contains-append_right (f z) (flat_map f xs) y (flat_in xs x y r k)
  ]

-- the name that is listed is the one that there is
name_from : (o : Option ℕ) (id : ℕ) → Contains (supertype_names o) id → o ≡ Some id
name_from None id c = absurd (contains_none id c)
name_from (Some k) id c = elim (contains_cases k [] id c) [
  | inl e ↦ ap (λ (n : ℕ). Some n) (sym e)
  | inr none ↦ absurd (contains_none id none)
]

name_in : (o : Option ℕ) (id : ℕ) → o ≡ Some id → Contains (supertype_names o) id
name_in o id e = subst (λ (p : Option ℕ). Contains (supertype_names p) id) (sym e) (contains_first id [])

module _ (locals : List LocalVariable) (f : FunctionWithArgs) where
  abbrev types_in : Instr × ℕ → List ℕ
  types_in i = instr_types locals i.0

  abbrev types_at : ℕ → List ℕ
  types_at seq = seq_types locals (sequence f.body seq)

  seq_uses : (seq id : ℕ) → IsInBody f.body seq → Contains (types_at seq) id → UsesType locals f id
  seq_uses seq id there c =
      let s = sequence f.body seq in
      elim
      (Contains-append_cases (supertype_names (block_type_name s.ty)) (flat_map types_in s.instrs)
      id c) [
        | inl k ↦ block seq there (name_from (block_type_name s.ty) id k)
        | inr k ↦ (let r = in_flat types_in s.instrs id k in instruction seq r.0 there r.1 r.2)
      ]

  module _ (seqs : List ℕ) (all : (seq : ℕ) → Contains seqs seq ↔ IsInBody f.body seq) where
    listed_used : (id : ℕ) → Contains (function_types locals f seqs) id → UsesType locals f id
    listed_used id c = elim (Contains-append_cases (f.body.ty ∷ flat_map (local_types locals) f.args)
        (flat_map types_at seqs) id c) [
          | inl k ↦ elim (contains_cases f.body.ty (flat_map (local_types locals) f.args) id k) [
            | inl e ↦ own (sym e)
            | inr arg ↦ (let r = in_flat (local_types locals) f.args id arg in parameter r.0 r.1 r.2)
          ]
          | inr k ↦ (let r = in_flat types_at seqs id k in seq_uses r.0 id ((all r.0).0 r.1) r.2)
        ]

    in_seqs : (seq id : ℕ) → IsInBody f.body seq → Contains (types_at seq) id →
        Contains (function_types locals f seqs) id
    in_seqs seq id there c =
        Contains-append_right (f.body.ty ∷ flat_map (local_types locals) f.args) (flat_map types_at seqs) id
        (flat_in types_at seqs seq id ((all seq).1 there) c)

    in_head : (id : ℕ) → Contains (f.body.ty ∷ flat_map (local_types locals) f.args) id →
        Contains (function_types locals f seqs) id
    in_head id c = Contains-append_left (f.body.ty ∷ flat_map (local_types locals) f.args)
        (flat_map types_at seqs) id c

    used_listed : (id : ℕ) → UsesType locals f id → Contains (function_types locals f seqs) id
    used_listed id (own e) = in_head id (subst (Contains (f.body.ty ∷ flat_map (local_types locals) f.args)) e
        (contains_first f.body.ty (flat_map (local_types locals) f.args)))
    used_listed id (parameter local c k) = in_head id
        (contains_rest f.body.ty (flat_map (local_types locals) f.args) id (flat_in
        (local_types locals) f.args local id c k))
    used_listed id (block seq there e) =
        let s = sequence f.body seq in
        in_seqs seq id there (Contains-append_left (supertype_names (block_type_name s.ty)) (flat_map types_in
        s.instrs) id (name_in (block_type_name s.ty) id e))
    used_listed id (instruction seq i there c k) =
        let s = sequence f.body seq in
        in_seqs seq id there (Contains-append_right (supertype_names (block_type_name s.ty))
        (flat_map types_in s.instrs) id (flat_in types_in s.instrs i id c k))

-- what is listed is used, and what is used is listed
pub uses_listed :
    (locals : List LocalVariable) (f : FunctionWithArgs) (seqs ids : List ℕ) →
    ((seq : ℕ) → Contains seqs seq ↔ IsInBody f.body seq) →
    ids ≡ function_types locals f seqs → (id : ℕ) → Contains ids id ↔ UsesType locals f id
uses_listed locals f seqs ids all is id = (
  λ c. listed_used locals f seqs all id (subst (λ (xs : List ℕ). Contains xs id) is c),
  λ u. subst (λ (xs : List ℕ). Contains xs id) (sym is) (used_listed locals f seqs all id u),
)
