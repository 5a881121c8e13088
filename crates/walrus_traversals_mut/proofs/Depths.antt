-- A nested body is no deeper than it has sequences, and a visit leaves less to visit.
use Rattle.std.proofs.Common.{◌≡◌, ℕ, zero, suc, ◌+◌, ◌<◌, List, [], ◌∷◌, ◌++◌, length, refl, sym, ap, ◌∙◌, subst, arith}
use Rattle.std.specs.List.{AllByRecursion}
use Rattle.walrus_functions.specs.Body.{Body, Knows}
use Rattle.walrus_functions.specs.Nesting.{IsReachable, at_start, below, IsNested}
use Rattle.walrus_nesting.proofs.Ranks.{under, under_le, under_lt}
use Rattle.walrus_traversals_mut.specs.Steps.{SameNesting, Within, visits, sum_of, depth}
use Rattle.walrus_traversals_mut.specs.Walks.{last_first_of}
use Rattle.walrus_traversals_mut.proofs.Members.{all_members, all_weaker, child_from_last_first}

pub within_at : (body : Body) (start : ℕ) (h : IsNested body start) (n : ℕ) (q : ℕ) →
    IsReachable body start q → under h.0 (h.0 q) (length body.seqs) < n → Within body n q
unfolding Within
within_at body start h zero q r lt = absurd (omega arith)
within_at body start h (suc n) q r lt = (
  h.1.known q r,
  all_members (Within body n) (last_first_of body q) (λ c m.
      let child = child_from_last_first body q c m in
      let there = below q c r child in
      let place = h.1.known c there in
      let less = h.1.falls q c r child in
      within_at body start h n c there (let a = under_lt h.0 (h.0 q) c (length body.seqs) place less in
      omega arith)),
)

pub within_from_nested : (body : Body) (start : ℕ) → IsNested body start → Within body (depth body) start
within_from_nested body start h =
    within_at body start h (depth body) start at_start (let a = under_le h.0 (h.0 start) (length body.seqs) in
    omega arith)

pub still_within : (body : Body) (n q : ℕ) → Within body n q → Within body (suc n) q
unfolding Within
still_within body zero q h = absurd h
still_within body (suc n) q h = (
  h.0,
  all_weaker (Within body n) (Within body (suc n)) (last_first_of body q) (still_within body n) h.1,
)

pub within_same : (f g : Body) → SameNesting f g → (n q : ℕ) → Within f n q → Within g n q
unfolding Within
within_same f g s zero q h = h
within_same f g s (suc n) q h =
    let F : List ℕ → Type 0 = λ l. AllByRecursion (Within g n) l in (
      subst (λ (n : ℕ). q < n) (sym s.count) h.0,
      subst F (sym (s.children q)) (all_weaker (Within f n) (Within g n) (last_first_of f q)
          (within_same f g s n) h.1),
    )

pub known_within : (body : Body) (n q : ℕ) → Within body n q → Knows body q
unfolding Within
known_within body zero q h = absurd h
known_within body (suc n) q h = h.0

pub below_within : (body : Body) (n q : ℕ) →
    Within body (suc n) q → AllByRecursion (Within body n) (last_first_of body q)
unfolding Within
below_within body n q h = h.1

-- how much is left
sum_same : (a b : ℕ → ℕ) (qs : List ℕ) → ((q : ℕ) → a q ≡ b q) → sum_of a qs ≡ sum_of b qs
sum_same a b [] h = refl
sum_same a b (q ∷ qs) h = let e = h q in let k = sum_same a b qs h in omega arith

sum_where : (P : ℕ → Type 0) (a b : ℕ → ℕ) (qs : List ℕ) →
    ((q : ℕ) → P q → a q ≡ b q) → AllByRecursion P qs → sum_of a qs ≡ sum_of b qs
sum_where P a b [] h k = refl
sum_where P a b (q ∷ qs) h k = let e = h q k.0 in let r = sum_where P a b qs h k.1 in omega arith

sum_append : (a : ℕ → ℕ) (xs ys : List ℕ) → sum_of a (xs ++ ys) ≡ sum_of a xs + sum_of a ys
sum_append a [] ys = omega arith
sum_append a (x ∷ xs) ys = let k = sum_append a xs ys in omega arith

pub visits_same : (f g : Body) → SameNesting f g → (n q : ℕ) → visits g n q ≡ visits f n q
unfolding visits
visits_same f g s zero q = refl
visits_same f g s (suc n) q =
    ap suc (ap (sum_of (visits g n)) (s.children q)
    ∙ sum_same (visits g n) (visits f n) (last_first_of f q) (visits_same f g s n))

pub visits_deeper : (f : Body) (n q : ℕ) → Within f n q → visits f (suc n) q ≡ visits f n q
unfolding visits Within
visits_deeper f zero q h = absurd h
visits_deeper f (suc n) q h =
    ap suc (sum_where (Within f n) (visits f (suc n)) (visits f n) (last_first_of f q) (visits_deeper f n)
    h.1)

visits_of : (f : Body) (n q : ℕ) → visits f (suc n) q ≡ suc (sum_of (visits f n) (last_first_of f q))
unfolding visits
visits_of f n q = refl

pub less_left : (f g : Body) (q : ℕ) (rest : List ℕ) → SameNesting f g → Within f (depth f) q →
    sum_of (visits g (depth g)) (last_first_of g q ++ rest) < sum_of (visits f (depth f)) (q ∷ rest)
less_left f g q rest s h =
    let n : ℕ = length f.seqs in
    let size : depth g ≡ depth f = ap suc s.count in
    let a : sum_of (visits g (depth g)) (last_first_of g q ++ rest) ≡ sum_of (visits f (suc n))
    (last_first_of f q ++ rest) =
    ap (λ m. sum_of (visits g m) (last_first_of g q ++ rest)) size
    ∙ ap (λ l. sum_of (visits g (suc n)) (l ++ rest)) (s.children q)
    ∙ sum_same (visits g (suc n)) (visits f (suc n)) (last_first_of f q ++ rest) (visits_same f g s (suc n))
    in
    let b = sum_append (visits f (suc n)) (last_first_of f q) rest in
    let d = sum_where (Within f n) (visits f (suc n)) (visits f n) (last_first_of f q) (visits_deeper f n)
    (below_within f n q h) in
    let e = visits_of f n q in
    omega arith

-- the stack has fewer visits left after a sequence than before
pub stack_falls : (f g : Body) (q : ℕ) (rest old new : List ℕ) →
    old ≡ q ∷ rest → new ≡ last_first_of g q ++ rest →
    SameNesting f g → Within f (depth f) q → sum_of (visits g (depth g)) new < sum_of (visits f (depth f)) old
stack_falls f g q rest old new a b s h =
    let F : List ℕ → List ℕ → Type 0 = λ x y. sum_of (visits g (depth g)) y < sum_of (visits f (depth f)) x in
    let k : F old (last_first_of g q ++ rest) =
    subst (λ (x : List ℕ). F x (last_first_of g q ++ rest)) (sym a) (less_left f g q rest s h) in
    subst (λ (y : List ℕ). F old y) (sym b) k
