-- Where the runs of free groups begin, and which group comes before another.
-- WebAssembly core specification, "Modules", types. The specification has no order in which groups
-- are written; this one is of this crate's own.
use Rattle.std.specs.Prelude.{◌≡◌, ℕ, zero, suc, ◌<◌, ◌≤◌, Bool, true, cond, ◌⊎◌}
use Rattle.std.specs.declared.cmp.Ordering.{Ordering}
use Rattle.std.specs.declared.cmp.Ordering.TheVariants.{Less}

-- where the run of free places begins that ends before this one
abbrev pub run_start : (ℕ → Bool) → ℕ → ℕ
run_start free zero = 0
run_start free (suc g) = cond (free g) (run_start free g) (suc g)

-- where the run begins that this place is in: at the place itself, if it is not free
abbrev pub start_of : (ℕ → Bool) → ℕ → ℕ
start_of free g = cond (free g) (run_start free g) g

-- no anchor from g to h, both included
abbrev pub AllFree : (ℕ → Bool) → ℕ → ℕ → Type 0
AllFree free g h = (a : ℕ) → g ≤ a → a ≤ h → free a ≡ true

-- the later h, with the head y, comes before the earlier g, with the head x
pub record IsTurnedRound {T : Type 0} (cmp : T → T → Ordering) (free : ℕ → Bool) (g : ℕ) (x : T)
    (h : ℕ) (y : T) : Type 0 where
  pub all_free : AllFree free g h
  pub less : cmp y x ≡ Less

-- g comes before h
abbrev pub StandsBefore : {T : Type 0} → (T → T → Ordering) → (ℕ → Bool) → ℕ → T → ℕ → T → Type 0
StandsBefore cmp free g x h y =
    ((g < h) × (¬ IsTurnedRound cmp free g x h y)) ⊎ ((h < g) × IsTurnedRound cmp free h y g x)
