-- Where runs begin.
use Rattle.std.proofs.Common.{◌≡◌, ℕ, zero, suc, ◌+◌, ◌<◌, ◌≤◌, refl, sym, ap, subst, ◌∙◌, arith, true, false, Bool, cond, ◌⊎◌, inl, inr}
use Rattle.std.proofs.lemmas.Bool.{cases_lt}
use Rattle.walrus_sections.specs.RunStarts.{AllFree, run_start, start_of}

run_le : (free : ℕ → Bool) (g : ℕ) → run_start free g ≤ g
run_le free zero = omega arith
run_le free (suc g) = by (free g) (run_le free g)
  where
    by : (b : Bool) → run_start free g ≤ g → cond b (run_start free g) (suc g) ≤ suc g
    by true le = omega (arith, le)
    by false le = omega arith

-- all in the run that ends before g are free
run_free :
    (free : ℕ → Bool) (g a : ℕ) → run_start free g ≤ a → a < g → free a ≡ true
run_free free zero a low high = absurd (omega (arith, high))
run_free free (suc g) a low high = by (free g) refl (run_free free g a) low
  where
    by : (b : Bool) → free g ≡ b → (run_start free g ≤ a → a < g → free a ≡ true) →
        cond b (run_start free g) (suc g) ≤ a → free a ≡ true
    by true e rest le = elim (cases_lt a g) [
      | inl w ↦ rest le w
      | inr w ↦
          (let same : g ≡ a = omega (arith, w, high) in subst (λ (n : ℕ). free n ≡ true) same e)
    ]
    by false e rest le = absurd (omega (arith, le, high))

-- a run begins where it began before
run_same :
    (free : ℕ → Bool) (g h : ℕ) → g ≤ h → ((a : ℕ) → g ≤ a → a < h → free a ≡ true) →
    run_start free h ≡ run_start free g
run_same free g zero le all = let same : g ≡ zero = omega (arith, le) in sym (ap (run_start free) same)
run_same free g (suc h) le all = elim (cases_lt h g) [
  | inl w ↦ (let same : g ≡ suc h = omega (arith, le, w) in sym (ap (run_start free) same))
  | inr w ↦ (let here : free h ≡ true = all h (omega (arith, w)) (omega arith) in
      ap (λ (b : Bool). cond b (run_start free h) (suc h)) here
      ∙ run_same free g h (omega (arith, w)) (λ a low high. all a low (omega (arith, high))))
]

start_free : (free : ℕ → Bool) (g : ℕ) → free g ≡ true → start_of free g ≡ run_start free g
start_free free g here = ap (λ (b : Bool). cond b (run_start free g) g) here

start_le : (free : ℕ → Bool) (g : ℕ) → start_of free g ≤ g
start_le free g = by (free g)
  where
    by : (b : Bool) → cond b (run_start free g) g ≤ g
    by true = run_le free g
    by false = omega arith

-- two with no anchor from the one to the other have the same start
pub together :
    (free : ℕ → Bool) (g h : ℕ) → g < h → AllFree free g h → start_of free g ≡ start_of free h
together free g h less all =
    let same : run_start free h ≡ run_start free g =
    run_same free g h (omega (arith, less)) (λ a low high. all a low (omega (arith, high))) in
    start_free free g (all g (omega arith) (omega (arith, less)))
    ∙ (sym same ∙ sym (start_free free h (all h (omega (arith, less)) (omega arith))))

-- and of others the later has the greater one
pub apart :
    (free : ℕ → Bool) (g h : ℕ) → g < h → AllFree free g h ⊎ (start_of free g < start_of free h)
apart free g h less = by (free h) refl
  where
    by : (b : Bool) → free h ≡ b → AllFree free g h ⊎ (start_of free g < cond b (run_start free h) h)
    by false e = inr (omega (arith, start_le free g, less))
    by true e = elim (cases_lt g (run_start free h)) [
      | inl w ↦ inr (omega (arith, w, start_le free g))
      | inr w ↦ inl (λ a low high. elim (cases_lt a h) [
        | inl u ↦ run_free free h a (omega (arith, w, low)) u
        | inr u ↦ (let same : h ≡ a = omega (arith, u, high) in subst (λ (n : ℕ). free n ≡ true) same e)
      ])
    ]

-- where the run begins that ends before the next place
pub run_more :
    (free : ℕ → Bool) (i : ℕ) (b : Bool) (run next : ℕ) → b ≡ free i → run ≡ run_start free i →
    next ≡ cond b run (i + 1) → next ≡ run_start free (i + 1)
run_more free i b run next is_free is_run is =
    let e : i + 1 ≡ suc i = omega arith in
    is ∙ (ap (λ (c : Bool). cond c run (i + 1)) is_free
    ∙ (ap (λ (n : ℕ). cond (free i) n (i + 1)) is_run
    ∙ (ap (λ (n : ℕ). cond (free i) (run_start free i) n) e ∙ ap (run_start free) (sym e))))
