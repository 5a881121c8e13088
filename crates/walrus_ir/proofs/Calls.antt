-- Calls of hooks in turn: none, some, or all of them are made, and what is then in the place of
-- what was visited.
use Rattle.std.proofs.lemmas.List.{drop-set-lt}
use Rattle.std.proofs.Math.ListN.{set, length-set}
use Rattle.std.proofs.Common.{Some, None, zero, suc, ◌+◌, ◌<◌, inl, inr, length, take, drop, get_or, map, add-one, arith, ◌∙◌, ◌≡◌, ℕ, List, [], ◌∷◌, ◌++◌, refl, sym, ap, subst}
use Rattle.ir_instr.specs.declared.exceptions.LegacyCatch.TheVariants as legacy
use Rattle.ir_instr.specs.declared.exceptions.TryTableCatch.TheVariants as clause
use Rattle.ir_instr.specs.declared.instr.Instr.{Instr}
use Rattle.ir_instr.specs.declared.instr.Instr.TheVariants as instr
use Rattle.walrus_ty.specs.declared.ty.value.Val.TheVariants as val
use Rattle.ir_instr.specs.Sequence.{Sequence}
use Rattle.ir_instr.specs.declared.instr_seq_type.InstrSeqType.{InstrSeqType}
use Rattle.ir_instr.specs.declared.instr_seq_type.InstrSeqType.TheVariants.{Simple, MultiValue}
use Rattle.walrus_ir.specs.Hooks.{Hook, Given, end_instr_seq, visit_instr}
use Rattle.walrus_ir.specs.Fields.{fields, type_fields, clause_fields, legacy_fields, instr_calls, sequence_calls}
use Rattle.walrus_ir.specs.Calls.{Calls, leaves, call, and_then, each, unchanged, Extent, Full, Partial, StepRelation, Visits}

-- what stands unchanged, of calls in turn
pub unchanged_then : {A B : Type 0} (t : Calls A) (k : A → Calls B) →
    unchanged (and_then t k) ≡ unchanged (k (unchanged t))
unchanged_then (leaves x) k = refl
unchanged_then (call hook given rest) k = unchanged_then (rest given) k

abbrev pub IsWhole : {A : Type 0} → (A → Calls A) → Type 0
IsWhole {A} f = (x : A) → unchanged (f x) ≡ x

pub each_whole : {A : Type 0} (f : A → Calls A) → IsWhole f → IsWhole (each f)
each_whole f h [] = refl
each_whole f h (x ∷ xs) =
    unchanged_then (f x) (λ y. and_then (each f xs) (λ ys. leaves (y ∷ ys)))
    ∙ unchanged_then (each f xs) (λ ys. leaves (unchanged (f x) ∷ ys))
    ∙ ap (λ y. y ∷ unchanged (each f xs)) (h x) ∙ ap (λ ys. x ∷ ys) (each_whole f h xs)

module _ {V : Type 0} (step : StepRelation V) where
  -- no call is made
  pub not_begun : {A : Type 0} (v : V) (t : Calls A) → Visits step v t Partial v (unchanged t)
  not_begun v (leaves x) = (refl, refl)
  not_begun v (call hook given rest) = inl (refl, refl)

  -- all calls of the one, then some of what comes after it
  pub visits_then : {A B : Type 0} (t : Calls A) (k : A → Calls B) (v u w : V) (y : A) (e : Extent) (z : B) →
      Visits step v t Full u y → Visits step u (k y) e w z → Visits step v (and_then t k) e w z
  visits_then {A} (leaves x) k v u w y e z h i =
      subst (λ (b : V). Visits step b (k x) e w z) h.0 (subst (λ (a : A). Visits step u (k a) e w z) h.1 i)
  visits_then (call hook given rest) k v u w y Full z h i =
      (h.0, h.1, h.2, visits_then (rest h.1) k h.0 u w y Full z h.3 i)
  visits_then (call hook given rest) k v u w y Partial z h i =
      inr (h.0, h.1, h.2, visits_then (rest h.1) k h.0 u w y Partial z h.3 i)

  -- some calls of the one, none of what comes after it
  pub visits_cut : {A B : Type 0} (t : Calls A) (k : A → Calls B) (v w : V) (y : A) →
      Visits step v t Partial w y → Visits step v (and_then t k) Partial w (unchanged (k y))
  visits_cut {A} {B} (leaves x) k v w y h =
      let G : V → Type 0 = λ b. Visits step b (k x) Partial w (unchanged (k y)) in
      subst G h.0 (subst (λ (a : A). Visits step w (k a) Partial w (unchanged (k y))) h.1 (not_begun w (k y)))
  visits_cut (call hook given rest) k v w y h = elim h [
    | inl n ↦ inl (n.0, ap (λ a. unchanged (k a)) n.1 ∙ sym (unchanged_then (rest given) k))
    | inr n ↦ inr (n.0, n.1, n.2, visits_cut (rest n.1) k n.0 w y n.3)
  ]

  -- what stands at last is put into a whole
  pub visits_put : {A B : Type 0} (t : Calls A) (put : A → B) (v w : V) (e : Extent) (y : A) →
      Visits step v t e w y → Visits step v (and_then t (λ a. leaves (put a))) e w (put y)
  visits_put (leaves x) put v w e y h = (h.0, ap put h.1)
  visits_put (call hook given rest) put v w Full y h =
      (h.0, h.1, h.2, visits_put (rest h.1) put h.0 w Full y h.3)
  visits_put (call hook given rest) put v w Partial y h =
      visits_cut (call hook given rest) (λ a. leaves (put a)) v w y h

  -- one call over a list's holder, then those over its items
  pub then_list : {A B : Type 0} (hook : Hook) (f : A → Calls A) (put : Given hook → List A → B)
      (x : Given hook) (xs : List A) (v u w : V) (y : Given hook) (e : Extent) (ys : List A) →
      step hook v x u y → Visits step u (each f xs) e w ys →
      Visits step v (call hook x (λ a. and_then (each f xs) (λ b. leaves (put a b)))) e w (put y ys)
  then_list hook f put x xs v u w y Full ys h k = (u, y, h, visits_put (each f xs) (put y) u w Full ys k)
  then_list hook f put x xs v u w y Partial ys h k =
      inr (u, y, h, visits_put (each f xs) (put y) u w Partial ys k)

  -- none of them
  pub before_list : {A B : Type 0} (hook : Hook) (f : A → Calls A) (put : Given hook → List A → B)
      (x : Given hook) (xs : List A) (v w : V) (y : Given hook) → IsWhole f → w ≡ v → y ≡ x →
      Visits step v (call hook x (λ a. and_then (each f xs) (λ b. leaves (put a b)))) Partial w (put y xs)
  before_list hook f put x xs v w y whole h k = inl (
    h,
    ap (λ a. put a xs) k ∙ sym (unchanged_then (each f xs) (λ b. leaves (put x b))
        ∙ ap (put x) (each_whole f whole xs)),
  )

pub clauses_whole : IsWhole clause_fields
clauses_whole (clause.Catch tag label) = refl
clauses_whole (clause.CatchRef tag label) = refl
clauses_whole (clause.CatchAll label) = refl
clauses_whole (clause.CatchAllRef label) = refl

pub legacies_whole : IsWhole legacy_fields
legacies_whole (legacy.Catch tag handler) = refl
legacies_whole (legacy.CatchAll handler) = refl
legacies_whole (legacy.Delegate depth) = refl

-- what a loop over a list that it writes keeps: the calls that are left lead to the end of all
pub record Done {V A K : Type 0} (step : StepRelation V) (f : A → Calls A) (key : A → K) (v : V)
    (init : List A) (u : V) (now : List A) (i : ℕ) : Type 0 where
  pub goes_on : (e : Extent) (w : V) (ys : List A) → Visits step u (each f (drop i init)) e w ys
      → Visits step v (each f init) e w (take i now ++ ys)
  pub rest : drop i now ≡ drop i init
  pub size : length now ≡ length init
  pub same : map key now ≡ map key init

pub drop_at : {X : Type 0} (i : ℕ) (l : List X) (d : X) →
    i < length l → drop i l ≡ get_or l i d ∷ drop (suc i) l
drop_at zero (x ∷ l) d h = refl
drop_at (suc i) (x ∷ l) d h = drop_at i l d (omega arith)
drop_at i [] d h = absurd (omega arith)

pub same_from : {X : Type 0} (i : ℕ) (a b : List X) (d : X) → i < length a →
    i < length b → drop i a ≡ drop i b → (get_or a i d ≡ get_or b i d) × (drop (suc i) a ≡ drop (suc i) b)
same_from zero (x ∷ xs) (y ∷ ys) d h k e = (cc, cc)
same_from (suc i) (x ∷ xs) (y ∷ ys) d h k e = same_from i xs ys d (omega arith) (omega arith) e
same_from i [] b d h k e = absurd (omega arith)
same_from i a [] d h k e = absurd (omega arith)

-- an equal image at the place of a write
pub map-set : {X Y : Type 0} (f : X → Y) (l : List X) (i : ℕ) (y d : X) →
    f y ≡ f (get_or l i d) → map f (set l i y) ≡ map f l
map-set f [] i y d e = refl
map-set f (x ∷ l) zero y d e = ap (λ z. z ∷ map f l) e
map-set f (x ∷ l) (suc i) y d e = ap (λ z. f x ∷ z) (map-set f l i y d e)

pub split_set : {X : Type 0} (i : ℕ) (l : List X) (y : X) →
    i < length l → set l i y ≡ take i l ++ y ∷ drop (suc i) l
split_set zero (x ∷ l) y h = refl
split_set (suc i) (x ∷ l) y h = ap (λ z. x ∷ z) (split_set i l y (omega arith))
split_set i [] y h = absurd (omega arith)

pub take_put : {X : Type 0} (i : ℕ) (l : List X) (y : X) (ys : List X) →
    i < length l → take (suc i) (set l i y) ++ ys ≡ take i l ++ y ∷ ys
take_put zero (x ∷ l) y ys h = refl
take_put (suc i) (x ∷ l) y ys h = ap (λ z. x ∷ z) (take_put i l y ys (omega arith))
take_put i [] y ys h = absurd (omega arith)

pub take_all : {X : Type 0} (l : List X) (i : ℕ) → i ≡ length l → take i l ++ [] ≡ l
take_all [] i e = rw e refl
take_all (x ∷ l) i e = rw e (ap (λ z. x ∷ z) (take_all l (length l) refl))

pub drop_all : {X : Type 0} (l : List X) (i : ℕ) → i ≡ length l → drop i l ≡ []
drop_all [] i e = rw e refl
drop_all (x ∷ l) i e = rw e (drop_all l (length l) refl)

module _ {V A K : Type 0} (step : StepRelation V) (f : A → Calls A) (key : A → K) where
  pub done_more : (v : V) (init : List A) (u : V) (now : List A) (i : ℕ) (w : V) (x y : A) →
      Done step f key v init u now i → i < length now → x ≡ get_or now i x → Visits step u (f x) Full w y →
      key y ≡ key x → Done step f key v init w (set now i y) (i + 1)
  done_more v init u now i w x y h lt g k e =
      let size = h.size in
      let lt2 : i < length init = omega arith in
      let s = same_from i now init x lt lt2 h.rest in
      let n : i < i + 1 = omega arith in
      let at : drop i init ≡ x ∷ drop (i + 1) init = drop_at i init x lt2
      ∙ ap (λ z. z ∷ drop (suc i) init) (sym (g ∙ s.0)) ∙ rw add-one refl in
      record {
        goes_on = λ ext r ys left.
            let F : List A → Type 0 = λ l. Visits step u (each f l) ext r (y ∷ ys) in
            let G : List A → Type 0 = λ l. Visits step v (each f init) ext r l in
            subst G (sym (rw add-one (take_put i now y ys lt)))
            (h.goes_on ext r (y ∷ ys) (subst F (sym at)
            (visits_then step (f x) (λ z. and_then (each f (drop (i + 1) init)) (λ zs. leaves (z ∷ zs))) u w r
            y ext (y ∷ ys) k
            (visits_put step (each f (drop (i + 1) init)) (λ zs. y ∷ zs) w r ext ys left))));
        rest = rw (drop-set-lt (i + 1) now i y n, add-one) s.1;
        size = length-set now i y ∙ h.size;
        same = map-set key now i y x (e ∙ ap key g) ∙ h.same;
      }

  pub done_begun : (v : V) (init : List A) (u : V) (now : List A) (i : ℕ) (w : V) (x y : A) → IsWhole f →
      Done step f key v init u now i → i < length now → x ≡ get_or now i x → Visits step u (f x) Partial w y →
      Visits step v (each f init) Partial w (set now i y)
  done_begun v init u now i w x y whole h lt g k =
      let size = h.size in
      let lt2 : i < length init = omega arith in
      let s = same_from i now init x lt lt2 h.rest in
      let at : drop i init ≡ x ∷ drop (suc i) now = drop_at i init x lt2
      ∙ ap (λ z. z ∷ drop (suc i) init) (sym (g ∙ s.0)) ∙ ap (λ z. x ∷ z) (sym s.1) in
      let rest = drop (suc i) now in
      let F : List A → Type 0 = λ l. Visits step u (each f l) Partial w (y ∷ rest) in
      let G : List A → Type 0 = λ l. Visits step v (each f init) Partial w l in
      let H : List A → Type 0 = λ l. Visits step u (each f (x ∷ rest)) Partial w l in
      subst G (sym (split_set i now y lt))
      (h.goes_on Partial w (y ∷ rest) (subst F (sym at)
      (subst H (unchanged_then (each f rest) (λ zs. leaves (y ∷ zs))
      ∙ ap (λ l. y ∷ l) (each_whole f whole rest))
      (visits_cut step (f x) (λ z. and_then (each f rest) (λ zs. leaves (z ∷ zs))) u w y k))))

  pub done_all : (v : V) (init : List A) (u : V) (now : List A) (i : ℕ) → Done step f key v init u now i →
      i ≡ length now → Visits step v (each f init) Full u now
  done_all v init u now i h e =
      let F : List A → Type 0 = λ l. Visits step u (each f l) Full u [] in
      subst (λ (l : List A). Visits step v (each f init) Full u l) (take_all now i e) (h.goes_on Full u []
      (subst F (sym (drop_all init i (e ∙ h.size))) (refl, refl)))

pub fields_whole : IsWhole fields
fields_whole (instr.TryTable x) =
    unchanged_then (each clause_fields x.catches) (λ b. leaves (instr.TryTable (record x { catches = b })))
    ∙ ap (λ b. instr.TryTable (record x { catches = b })) (each_whole clause_fields clauses_whole x.catches)
fields_whole (instr.Try x) =
    unchanged_then (each legacy_fields x.catches) (λ b. leaves (instr.Try (record x { catches = b })))
    ∙ ap (λ b. instr.Try (record x { catches = b })) (each_whole legacy_fields legacies_whole x.catches)
fields_whole _ = refl

pub instr_whole : IsWhole instr_calls
instr_whole x = unchanged_then (fields x.0) (λ i. leaves (i, x.1)) ∙ ap (λ i. (i, x.1)) (fields_whole x.0)

type_whole : IsWhole type_fields
type_whole (MultiValue id) = refl
type_whole (Simple (Some (val.Ref r))) = refl
type_whole (Simple (Some val.I32)) = refl
type_whole (Simple (Some val.I64)) = refl
type_whole (Simple (Some val.F32)) = refl
type_whole (Simple (Some val.F64)) = refl
type_whole (Simple (Some val.V128)) = refl
type_whole (Simple None) = refl

pub instrs_whole : (s : Sequence) (ty : InstrSeqType) →
    unchanged (and_then (each instr_calls s.instrs) (λ is.
    call end_instr_seq (record s { ty = ty; instrs = is }) (λ new. leaves new))) ≡ record s { ty = ty }
instrs_whole s ty =
    unchanged_then (each instr_calls s.instrs) (λ is. call end_instr_seq (record s { ty = ty; instrs = is })
    (λ new. leaves new)) ∙ ap (λ (is : List (Instr × ℕ)). record s { ty = ty; instrs = is })
    (each_whole instr_calls instr_whole s.instrs)

pub sequence_whole : IsWhole sequence_calls
sequence_whole s =
    unchanged_then (type_fields s.ty) (λ ty. and_then (each instr_calls s.instrs)
    (λ is. call end_instr_seq (record s { ty = ty; instrs = is }) (λ new. leaves new))) ∙ instrs_whole s
    (unchanged (type_fields s.ty)) ∙ ap (λ (ty : InstrSeqType). record s { ty = ty }) (type_whole s.ty)

module _ {V : Type 0} (step : StepRelation V) where
  -- an instruction: its hook refuses, or its fields come then
  pub refused_instr : (v w : V) (x y : Instr × ℕ) → w ≡ v → y.0 ≡ x.0 → y.1 ≡ x.1 →
      Visits step v (instr_calls x) Partial w y
  refused_instr v w x y h i l =
      let pair : Instr → ℕ → Instr × ℕ = λ a b. (a, b) in
      inl (h, ap (λ a. pair a y.1) i ∙ ap (λ b. pair x.0 b) l ∙ sym (instr_whole x))

  pub visited_instr : (v u w : V) (x y : Instr × ℕ) (e : Extent) (i : Instr) → step visit_instr v x u y →
      Visits step u (fields y.0) e w i → Visits step v (instr_calls x) e w (i, y.1)
  visited_instr v u w x y Full i h k = (u, y, h, visits_put step (fields y.0) (λ a. (a, y.1)) u w Full i k)
  visited_instr v u w x y Partial i h k = inr (
    u,
    y,
    h,
    visits_put step (fields y.0) (λ a. (a, y.1)) u w Partial i k,
  )
