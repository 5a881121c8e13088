-- a nested body has no more levels than sequences
use Rattle.std.proofs.Common.{◌≡◌, ℕ, zero, suc, ◌<◌, List, [], ◌∷◌, ◌++◌, length, refl, sym, ap, ◌∙◌, arith}
use Rattle.std.specs.List.{flat_map, AllByRecursion, Contains}
use Rattle.ir_instr.specs.declared.instr.Instr.{Instr}
use Rattle.walrus_functions.specs.Body.{Body, sequence, Knows}
use Rattle.walrus_ir.specs.Calls.{Event, at, reported}
use Rattle.walrus_ir.specs.Fields.{type_fields}
use Rattle.walrus_ir.specs.Hooks.{start_instr_seq, end_instr_seq}
use Rattle.walrus_traversals.specs.Events.{own_events, events_of_instrs, events_of, events_to, events}
use Rattle.walrus_functions.specs.Nesting.{children, children_of, IsReachable, at_start, below, IsNested}
use Rattle.walrus_nesting.proofs.Ranks.{under, under_le, under_lt}

-- all that is reached from q is known, and no path from it has more than n sequences
unfoldable pub Within : Body → ℕ → ℕ → Type 0
Within f zero q = ⊥
Within f (suc n) q = Knows f q × AllByRecursion (Within f n) (children_of f q)

abbrev pub levels : Body → ℕ
levels f = suc (length f.seqs)

pub all_from_contains : {A : Type 0} (P : A → Type 0) (xs : List A) →
    ((x : A) → Contains xs x → P x) → AllByRecursion P xs
all_from_contains P [] h = tt
all_from_contains P (x ∷ xs) h = (
  h x (0, omega arith, refl),
  all_from_contains P xs (λ y m. h y (suc m.0, omega arith, m.2)),
)

pub within_at : (f : Body) (start : ℕ) (h : IsNested f start) (n q : ℕ) →
    IsReachable f start q → under h.0 (h.0 q) (length f.seqs) < n → Within f n q
unfolding Within
within_at f start h zero q r lt = absurd (omega arith)
within_at f start h (suc n) q r lt = (
  h.1.known q r,
  all_from_contains (Within f n) (children_of f q) (λ c child.
      let there = below q c r child in
      let known = h.1.known c there in
      let less = h.1.falls q c r child in
      within_at f start h n c there (let a = under_lt h.0 (h.0 q) c (length f.seqs) known less in
      omega arith)),
)

pub within_from_nested : (f : Body) (start : ℕ) → IsNested f start → Within f (levels f) start
within_from_nested f start h =
    within_at f start h (levels f) start at_start (let a = under_le h.0 (h.0 start) (length f.seqs) in
    omega arith)

pub All-append : {X : Type 0} (P : X → Type 0) (xs ys : List X) →
    AllByRecursion P xs → AllByRecursion P ys → AllByRecursion P (xs ++ ys)
All-append P [] ys h k = k
All-append P (x ∷ xs) ys h k = (h.0, All-append P xs ys h.1 k)

pub All-front : {X : Type 0} (P : X → Type 0) (xs ys : List X) →
    AllByRecursion P (xs ++ ys) → AllByRecursion P xs
All-front P [] ys h = tt
All-front P (x ∷ xs) ys h = (h.0, All-front P xs ys h.1)

pub All-back : {X : Type 0} (P : X → Type 0) (xs ys : List X) →
    AllByRecursion P (xs ++ ys) → AllByRecursion P ys
All-back P [] ys h = h
All-back P (x ∷ xs) ys h = All-back P xs ys h.1

pub All-weaker : {X : Type 0} (P Q : X → Type 0) (xs : List X) →
    ((x : X) → P x → Q x) → AllByRecursion P xs → AllByRecursion Q xs
All-weaker P Q [] f h = tt
All-weaker P Q (x ∷ xs) f h = (f x h.0, All-weaker P Q xs f h.1)

-- all of what a list is mapped to, item by item
pub All-items : {X Y : Type 0} (P : Y → Type 0) (g : X → List Y) (xs : List X) →
    AllByRecursion P (flat_map g xs) → AllByRecursion (λ x. AllByRecursion P (g x)) xs
All-items P g [] h = tt
All-items P g (x ∷ xs) h = (
  All-front P (g x) (flat_map g xs) h,
  All-items P g xs (All-back P (g x) (flat_map g xs) h),
)

pub flat_map-same : {X A : Type 0} (P : X → Type 0) (g h : X → List A) (xs : List X) →
    ((x : X) → P x → g x ≡ h x) → AllByRecursion P xs → flat_map g xs ≡ flat_map h xs
flat_map-same P g h [] e k = refl
flat_map-same P g h (x ∷ xs) e k = ap (λ l. l ++ flat_map g xs) (e x k.0)
    ∙ ap (λ l. h x ++ l) (flat_map-same P g h xs e k.1)

-- the events of instructions, where two ways to give those of sequences agree on the sequences
-- inside
pub same_inside : (P : ℕ → Type 0) (g h : ℕ → List Event) (xs : List (Instr × ℕ)) →
    ((q : ℕ) → P q → g q ≡ h q) →
    AllByRecursion (λ x. AllByRecursion P (children x.0)) xs → events_of_instrs g xs ≡ events_of_instrs h xs
same_inside P g h xs e k =
    flat_map-same (λ x. AllByRecursion P (children x.0)) (λ x. own_events x ++ flat_map g (children x.0))
    (λ x. own_events x ++ flat_map h (children x.0)) xs
    (λ x a. ap (λ l. own_events x ++ l) (flat_map-same P g h (children x.0) e a)) k

-- one level more than is needed gives the same events
pub same_deeper : (f : Body) (n q : ℕ) → Within f n q → events_to f (suc n) q ≡ events_to f n q
unfolding Within events_to
same_deeper f zero q h = absurd h
same_deeper f (suc n) q h =
    ap (λ l. at start_instr_seq (sequence f q) ∷ reported (type_fields (sequence f q).ty) ++ l ++ at
    end_instr_seq (sequence f q) ∷ [])
    (same_inside (Within f n) (events_to f (suc n)) (events_to f n) (sequence f q).instrs (same_deeper f n)
    (All-items (Within f n) (λ x. children x.0) (sequence f q).instrs h.1))

pub still_within : (f : Body) (n q : ℕ) → Within f n q → Within f (suc n) q
unfolding Within
still_within f zero q h = absurd h
still_within f (suc n) q h = (
  h.0,
  All-weaker (Within f n) (Within f (suc n)) (children_of f q) (still_within f n) h.1,
)

-- the events of a nested sequence, with those inside it given as events again
pub events_unfold : (f : Body) (q : ℕ) → IsNested f q → events f q ≡ events_of (events f) (sequence f q)
unfolding events_to
events_unfold f q h = sym (same_deeper f (levels f) q (within_from_nested f q h))
