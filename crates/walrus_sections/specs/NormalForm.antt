-- `IsNormalForm section normal numbers`: the section `normal`, with a map that sends each index of
-- `section` to an index of it, is a normal form of `section`. `IsNormal` has its laws by index.
-- There s and n are the two by index, and m is the map.
-- WebAssembly core specification, "Validation", defined types: two definitions are one type where
-- they stand at the same place of groups that are the same once all names are resolved. The
-- specification has no normal form of a section. This one merges `Single`s that the map makes the
-- same and orders them where nothing hinders it; it keeps each `Rec` whole and in its order, and
-- merges no member of one.
use Rattle.std.specs.Prelude.{◌≡◌, ℕ, ◌<◌, ◌≤◌, Some, ◌↔◌, ◌⊎◌, List, length, slice_index_or}
use Rattle.std.specs.List.{range_with_len}
use Rattle.std.specs.declared.cmp.Ordering.TheVariants.{Less}
use Rattle.walrus_ty.specs.Definition.{Names, rename, definition_cmp}
use Rattle.walrus_sections.specs.Section.{IndexSpace, index_space, IsSingle, IsInRec, IsFilled}
use Rattle.walrus_ty.specs.Groups.{Section}

-- i is the first index that m sends to where it sends i
abbrev pub IsKept : (ℕ → ℕ) → ℕ → Type 0
IsKept m i = (j : ℕ) → j < i → ¬ (m j ≡ m i)

abbrev pub NamesAnother : IndexSpace → ℕ → Type 0
NamesAnother s i = (k : ℕ) × Names (s.definition i) k × (¬ (k ≡ i))

-- i keeps its place: a member of a `Rec`, or a kept `Single` that names another index than its own
abbrev pub IsAnchor : IndexSpace → (ℕ → ℕ) → ℕ → Type 0
IsAnchor s m i = IsInRec s i ⊎ (IsKept m i × NamesAnother s i)

-- no anchor from i to j, both included
abbrev pub AreFree : IndexSpace → (ℕ → ℕ) → ℕ → ℕ → Type 0
AreFree s m i j = (a : ℕ) → i ≤ a → a ≤ j → ¬ IsAnchor s m a

-- the laws of the normal form, by index
pub record IsNormal (s n : IndexSpace) (m : ℕ → ℕ) : Type 0 where
  -- m sends the indices of s onto those of n
  pub below : (i : ℕ) → i < s.count → m i < n.count
  pub onto : (p : ℕ) → p < n.count → (i : ℕ) × (i < s.count) × (m i ≡ p)
  -- and each definition goes to itself, its names sent through m
  pub same : (i : ℕ) → i < s.count → n.definition (m i) ≡ rename m (s.definition i)
  -- the `Rec`s of n are those of s, in their order: place t of the k-th goes to place t of the
  -- k-th, and there is no further one
  pub rec_to_rec :
      (i : ℕ) (x : ℕ × ℕ) → i < s.count → s.rec_position i ≡ Some x → n.rec_position (m i) ≡ Some x
  pub rec_from_rec :
      (p : ℕ) (x : ℕ × ℕ) → p < n.count → n.rec_position p ≡ Some x →
      (i : ℕ) × (i < s.count) × (s.rec_position i ≡ Some x)
  -- a `Single` goes to a `Single`
  pub single_to_single : (i : ℕ) → i < s.count → IsSingle s i → IsSingle n (m i)
  -- no `Single` of n repeats an earlier one
  pub singles_differ :
      (p q : ℕ) → p < q → q < n.count → IsSingle n p → IsSingle n q →
      ¬ (n.definition p ≡ n.definition q)
  -- a `Single` that names itself is kept
  pub selfs_kept : (i : ℕ) → i < s.count → IsSingle s i → Names (s.definition i) i → IsKept m i
  -- of two kept indices, where one is an anchor, the earlier stays the earlier
  pub anchors :
      (i j : ℕ) → i < j → j < s.count → IsKept m i → IsKept m j → IsAnchor s m i ⊎ IsAnchor s m j →
      m i < m j
  -- and where they are free, with no anchor between, the lesser in the order of definitions comes
  -- first
  pub free :
      (i j : ℕ) → i < j → j < s.count → IsKept m i → IsKept m j → AreFree s m i j →
      (m i < m j ↔ definition_cmp (s.definition i) (s.definition j) ≡ Less)

-- the number that a list of numbers has for i
abbrev pub image : List ℕ → ℕ → ℕ
image numbers i = slice_index_or numbers i 0

-- `normal` with `numbers` is a normal form of the section; there is one number for each index of it
pub record IsNormalForm (section normal : Section) (numbers : List ℕ) : Type 0 where
  pub one_each : length numbers ≡ (index_space section).count
  pub filled : IsFilled normal
  pub laws : IsNormal (index_space section) (index_space normal) (image numbers)

-- sends each index of the section to itself
abbrev pub identity : Section → List ℕ
identity section = range_with_len 0 (index_space section).count

-- `normal` is the section of a normal form of `section`
abbrev pub IsOutput : Section → Section → Type 0
IsOutput section normal = (numbers : List ℕ) × IsNormalForm section normal numbers
