-- The moves by index.
use Rattle.std.specs.Prelude.{◌≡◌, ℕ, suc, ◌<◌, ◌≤◌, nat_lt, cond}
use Rattle.walrus_ty.specs.Definition.{Names, rename, definition_cmp}
use Rattle.walrus_sections.specs.{Section.IndexSpace, Section.IsSingle, Moves.exchange, Moves.skip}

-- r is s with the `Single`s i and i + 1, each of which names no index but its own, exchanged, and
-- all names with them
pub record IsSwapped (s r : IndexSpace) (i : ℕ) : Type 0 where
  pub count : r.count ≡ s.count
  pub inside : suc i < s.count
  pub first_single : IsSingle s i
  pub second_single : IsSingle s (suc i)
  pub first_own : (k : ℕ) → Names (s.definition i) k → k ≡ i
  pub second_own : (k : ℕ) → Names (s.definition (suc i)) k → k ≡ suc i
  pub order : definition_cmp (s.definition i) (s.definition (suc i)) ≡ definition_cmp
      (rename (exchange i) (s.definition i)) (rename (exchange i) (s.definition (suc i)))
  pub definition : (k : ℕ) → k < s.count → r.definition k ≡ rename (exchange i) (s.definition (exchange i k))
  pub rec_position : (k : ℕ) → k < s.count → r.rec_position k ≡ s.rec_position k
  pub end : (k : ℕ) → k < s.count → r.end k ≡ s.end k

-- the index that k had
abbrev pub unskip : ℕ → ℕ → ℕ
unskip i k = cond (nat_lt k i) k (suc k)

-- r is s without the `Single` i, which equals the earlier `Single` j
pub record IsWithout (s r : IndexSpace) (i j : ℕ) : Type 0 where
  pub count : s.count ≡ suc r.count
  pub inside : i < s.count
  pub earlier : j < i
  pub single : IsSingle s i
  pub earlier_single : IsSingle s j
  pub equal : s.definition i ≡ s.definition j
  pub definition : (k : ℕ) → k < r.count → r.definition k ≡ rename (skip i j) (s.definition (unskip i k))
  pub rec_position : (k : ℕ) → k < r.count → r.rec_position k ≡ s.rec_position (unskip i k)
  pub end_below : (k : ℕ) → k < i → r.end k ≡ s.end k
  pub end_above : (k : ℕ) → i ≤ k → k < r.count → suc (r.end k) ≡ s.end (suc k)
