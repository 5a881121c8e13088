-- Indices that are given one after the other.
use Rattle.std.proofs.Common.{◌≡◌, ◌+◌, ◌<◌, ◌≤◌, ◌⊎◌, ℕ, List, Some, slice_get}

pub record AreGivenTo (before after : List ℕ) (first next slot index : ℕ) : Type 0 where
  pub next_is : index + first ≡ next + slot
  pub given : (t : ℕ) → first + t < slot → slice_get after (first + t) ≡ Some (next + t)
  pub kept : (i : ℕ) → (i < first) ⊎ (slot ≤ i) → slice_get after i ≡ slice_get before i
