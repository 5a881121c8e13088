-- The slots of one more class are written.
use Rattle.std.proofs.Common.{◌≡◌, ℕ, Bool, true, false, ◌+◌, ◌<◌, ◌≤◌, length, slice_get, Some, inl, inr, ◌∙◌, sym, ap, arith}
use Rattle.std.proofs.lemmas.Bool.{cases_lt, false_from_ne_true}
use Rattle.std.proofs.lemmas.Bool.Decides.{nat_tests}
use Rattle.walrus_canonical.specs.declared.classes.Class.{Class}
use Rattle.walrus_canonical.specs.Steps.Writing.{Task, with_slots}
use Rattle.walrus_canonical.proofs.Output.ReadyOrder.{filled}

module _ (done : ℕ → Bool) (first end : ℕ) where
  abbrev more : ℕ → Bool
  more = with_slots done first end

  pub now_written : (x : ℕ) → first ≤ x → x < end → more x ≡ true
  now_written x low high = grind (arith, nat_tests, low, high)

  pub same_below : (x : ℕ) → x < first → more x ≡ done x
  same_below x low = grind (arith, nat_tests, low)

  pub same_above : (x : ℕ) → end ≤ x → more x ≡ done x
  same_above x high = grind (arith, nat_tests, high)

  pub still_done : (x : ℕ) → done x ≡ true → more x ≡ true
  still_done x d = elim (cases_lt x first) [
    | inl low ↦ same_below x low ∙ d
    | inr over ↦ elim (cases_lt x end) [
      | inl less ↦ now_written x over less
      | inr high ↦ same_above x high ∙ d
    ]
  ]

  pub was_undone : (x : ℕ) → more x ≡ false → done x ≡ false
  was_undone x u = false_from_ne_true (done x) (λ d. (
      let z : true ≡ false = sym (still_done x d) ∙ u in cc))

module _ (task : Task) (done : ℕ → Bool) (c : ℕ) (class : Class) (at : slice_get task.classes c ≡ Some class)
  where
    abbrev now : ℕ → Bool
    now = with_slots done class.first (class.first + length class.entries)

    pub first_written : now class.first ≡ true
    first_written = let f = filled task c class at in
        now_written done class.first (class.first + length class.entries) class.first (omega arith)
        (omega (arith, f))

    -- another class is as it was
    pub other_class :
        (d : ℕ) (other : Class) → slice_get task.classes d ≡ Some other → ¬ (d ≡ c) → (p : ℕ) →
        p < length other.entries → now (other.first + p) ≡ done (other.first + p)
    other_class d other at_d apart p low = elim (cases_lt d c) [
      | inl less ↦ same_below done class.first (class.first + length class.entries) (other.first + p) (
          omega (arith, task.are.apart d c other class less at_d at, low))
      | inr over ↦ same_above done class.first (class.first + length class.entries) (other.first + p) (
          let z = task.are.apart c d class other (omega (arith, over, apart)) at at_d in omega (arith, z))
    ]

    pub other_first :
        (d : ℕ) (other : Class) → slice_get task.classes d ≡ Some other → ¬ (d ≡ c) →
        now other.first ≡ done other.first
    other_first d other at_d apart =
        let e : other.first + 0 ≡ other.first = omega arith in
        ap now (sym e) ∙ (other_class d other at_d apart 0 (filled task d other at_d) ∙ ap done e)
