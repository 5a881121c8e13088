-- Marks at indices.
-- Of this crate's own.
use Rattle.std.specs.Prelude.{◌≡◌, ℕ, ◌<◌, ◌↔◌, ◌⊎◌, Bool, true, false, List, Some, length, Contains, slice_get, slice_index_or}
use Rattle.walrus_ty.specs.Groups.{Section}
use Rattle.walrus_sections.specs.Section.{index_space}
use Rattle.walrus_canonical.specs.Listing.{IsNeeded}

-- the index has a mark
abbrev pub IsMarked : List Bool → ℕ → Type 0
IsMarked marks i = slice_index_or marks i false ≡ true

-- the marks after are those before, and those that the test names, as far as the list goes
pub record Marks (before after : List Bool) (P : ℕ → Type 0) : Type 0 where
  pub long : length after ≡ length before
  pub forth : (i : ℕ) → IsMarked after i → IsMarked before i ⊎ P i
  pub kept : (i : ℕ) → IsMarked before i → IsMarked after i
  pub marked : (i : ℕ) → i < length before → P i → IsMarked after i

-- there is a mark or none for each index of the section, and exactly the roots have one
pub record MarkRoots (section : Section) (roots : List ℕ) (marks : List Bool) : Type 0 where
  pub one_each : length marks ≡ (index_space section).count
  pub at_roots : (i : ℕ) → IsMarked marks i ↔ Contains roots i

-- the same, and exactly what the roots need has one
pub record MarkNeeds (section : Section) (roots : List ℕ) (marks : List Bool) : Type 0 where
  pub one_each : length marks ≡ (index_space section).count
  pub needed : (i : ℕ) → IsMarked marks i ↔ IsNeeded (index_space section) roots i

-- the roots up to this place are indices, where there are so many
abbrev pub AreKnown : ℕ → List ℕ → ℕ → Type 0
AreKnown count roots place =
    (k root : ℕ) → k < place → slice_get roots k ≡ Some root → root < count
