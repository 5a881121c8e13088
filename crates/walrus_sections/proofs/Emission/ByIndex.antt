-- What emission of a read table gives, by index: m sends each live slot to its index in n.
use Rattle.std.specs.Prelude.{◌≡◌, ℕ, ◌<◌, ◌≤◌, ◌⊎◌, ◌↔◌}
use Rattle.std.specs.declared.cmp.Ordering.TheVariants.{Less}
use Rattle.walrus_ty.specs.Definition.{Names, rename, definition_cmp}
use Rattle.walrus_sections.specs.{Section.IndexSpace, Section.IsInRec, SlotMap.read_definition}

-- the group of slot i is no free one
abbrev pub IsFixed : IndexSpace → (ℕ → ℕ) → ℕ → Type 0
IsFixed s r i = IsInRec s i ⊎ ((k : ℕ) × Names (read_definition s r i) k × (¬ (k ≡ i)))

pub record IsEmitted (s n : IndexSpace) (r m : ℕ → ℕ) : Type 0 where
  pub below : (i : ℕ) → i < s.count → r i ≡ i → m i < n.count
  pub onto : (p : ℕ) → p < n.count → (i : ℕ) × (i < s.count) × (r i ≡ i) × (m i ≡ p)
  pub apart : (i j : ℕ) → i < s.count → j < s.count → r i ≡ i → r j ≡ j → m i ≡ m j → i ≡ j
  pub definition : (i : ℕ) → i < s.count → r i ≡ i → n.definition (m i) ≡ rename m (read_definition s r i)
  pub rec_position : (i : ℕ) → i < s.count → r i ≡ i → n.rec_position (m i) ≡ s.rec_position i
  pub fixed : (i j : ℕ) → i < j → j < s.count → r i ≡ i → r j ≡ j → IsFixed s r i ⊎ IsFixed s r j → m i < m j
  pub free : (i j : ℕ) → i < j → j < s.count → r i ≡ i → r j ≡ j →
      ((a : ℕ) → i ≤ a → a ≤ j → r a ≡ a → ¬ (IsFixed s r a)) →
      (m i < m j ↔ ¬ (definition_cmp (read_definition s r j) (read_definition s r i) ≡ Less))
