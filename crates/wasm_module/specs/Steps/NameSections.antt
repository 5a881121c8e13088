-- Names and maps of them, from the front of bytes.
use Rattle.std.specs.Prelude.{◌≡◌, ℕ, ◌+◌, ◌<◌, ◌≤◌, List, [], ◌∷◌, ◌++◌, length, Some}
use Rattle.wasm_binary.specs.Leb128.{IsU32}
use Rattle.wasm_binary.specs.Grammar.{AreItems}
use Rattle.wasm_module.specs.declared.renaming.Widths.{Widths}
use Rattle.wasm_module.specs.declared.name_maps.Follows.{Follows}
use Rattle.wasm_module.specs.declared.name_maps.Follows.TheVariants as follows
use Rattle.wasm_module.specs.Changes.{InSized}
use Rattle.wasm_module.specs.Renaming.{NewIndices, new_index, IsTextOf}
use Rattle.wasm_module.specs.NameSections.{IsName, IsNameMap, TypeEntry, IsKnownEntry, AreKept, IsNewEntry}

-- such a text was taken from the front of bytes
pub record Takes (IsText : List ℕ → Type 0) (bytes rest : List ℕ) : Type 0 where
  pub text : List ℕ
  pub is_text : IsText text
  pub parts : bytes ≡ text ++ rest

-- no such text begins the bytes
abbrev pub BeginsNone : (List ℕ → Type 0) → List ℕ → Type 0
BeginsNone IsText bytes = (rest : List ℕ) → Takes IsText bytes rest → ⊥

-- a content was taken from the front of bytes, behind its size
pub record TakesSized (content bytes rest : List ℕ) : Type 0 where
  pub size : List ℕ
  pub is_size : IsU32 size (length content)
  pub parts : bytes ≡ size ++ (content ++ rest)

-- no content behind its size begins the bytes
abbrev pub BeginsUnsized : List ℕ → Type 0
BeginsUnsized bytes = (content rest : List ℕ) → TakesSized content bytes rest → ⊥

-- a text of some item
pub record IsAny {A : Type 0} (IsText : List ℕ → A → Type 0) (text : List ℕ) : Type 0 where
  pub item : A
  pub is_text : IsText text item

-- texts of these items were taken from the front of bytes
pub record TakesItems {A : Type 0} (IsText : List ℕ → A → Type 0) (items : List A)
    (bytes rest : List ℕ) : Type 0 where
  pub text : List ℕ
  pub are : AreItems IsText text items
  pub parts : bytes ≡ text ++ rest

-- what follows the index of a type in a map
abbrev pub IsFollowing : Follows → List ℕ → Type 0
IsFollowing follows.Name = IsName
IsFollowing follows.NameMap = IsNameMap

-- an entry of a type below this count was taken from the front of bytes
pub record TakesEntry (Follows : List ℕ → Type 0) (count : ℕ) (e : TypeEntry) (bytes rest : List ℕ) :
    Type 0 where
  pub text : List ℕ
  pub is_entry : IsKnownEntry Follows count text e
  pub parts : bytes ≡ text ++ rest

-- no entry of a type below this count begins the bytes
abbrev pub BeginsNoEntry : (List ℕ → Type 0) → ℕ → List ℕ → Type 0
BeginsNoEntry Follows count = BeginsNone (IsAny (IsKnownEntry Follows count))

-- of as many entries that were taken from the front of bytes these are kept
pub record TakesEntries (Follows : List ℕ → Type 0) (new_indices : NewIndices) (many : ℕ)
    (kept : List (ℕ × TypeEntry)) (bytes rest : List ℕ) : Type 0 where
  pub entries : List TypeEntry
  pub taken : TakesItems (IsKnownEntry Follows (length new_indices)) entries bytes rest
  pub as_many : length entries ≡ many
  pub are_kept : AreKept new_indices entries kept
  pub few : length kept ≤ many

-- as many entries of types below this count do not begin the bytes
abbrev pub BeginsNotEntries : (List ℕ → Type 0) → ℕ → ℕ → List ℕ → Type 0
BeginsNotEntries Follows count many bytes =
    (entries : List TypeEntry) (rest : List ℕ) → length entries ≡ many
    → TakesItems (IsKnownEntry Follows count) entries bytes rest → ⊥

-- an entry with this new index was kept, or another one that was there stays in its place
pub record Keeps (n : ℕ) (e : TypeEntry) (old new : List (ℕ × TypeEntry)) : Type 0 where
  pub keeps :
      (new_indices : NewIndices) (entries : List TypeEntry) → AreKept new_indices entries old
      → e.index < length new_indices → new_index new_indices e.index ≡ Some n
      → AreKept new_indices (entries ++ e ∷ []) new
  pub few : length new ≤ length old + 1

-- the bytes are the count of these entries, and the entries with their new indices
pub record IsNewMap (widths : Widths) (least : ℕ) (kept : List (ℕ × TypeEntry)) (bytes : List ℕ) :
    Type 0 where
  pub count : List ℕ
  pub texts : List ℕ
  pub parts : bytes ≡ count ++ texts
  pub is_count : IsTextOf 0x80 least count (length kept)
  pub are : AreItems (IsNewEntry widths) texts kept

-- ---- subsections

-- a subsection begins the bytes, and `F` is so of its content, by its id
pub data BeginsSubsectionIn (F : ℕ → List ℕ → Type 0) : List ℕ → Type 0 where
  begins : (id : ℕ) (rest : List ℕ) → InSized (F id) rest → BeginsSubsectionIn F (id ∷ rest)
