-- Marks by one test are marks by another that says the same.
use Rattle.std.proofs.Common.{ℕ, Bool, List, inl, inr}
use Rattle.walrus_canonical.specs.Steps.Marks.{Marks}

pub marked_same :
    (a b : List Bool) (P R : ℕ → Type 0) → Marks a b P → ((i : ℕ) → P i → R i) →
    ((i : ℕ) → R i → P i) → Marks a b R
marked_same a b P R first p r = record {
  long = first.long;
  forth = λ i h. elim (first.forth i h) [
    | inl w ↦ inl w
    | inr w ↦ inr (p i w)
  ];
  kept = first.kept;
  marked = λ i within h. first.marked i within (r i h);
}
