-- Custom sections with other indices of types: the names of types and of their fields follow them.
-- WebAssembly core specification, "Custom Sections" and "Name Section".
use Rattle.std.specs.Prelude.{◌≡◌, ℕ, ◌<◌, ◌≤◌, List, [], ◌∷◌, ◌++◌, length, map, Some}
use Rattle.std.specs.List.{All, Contains}
use Rattle.std.specs.List.Sorted.{IsStrictlyIncreasing}
use Rattle.wasm_binary.specs.Leb128.{IsU32}
use Rattle.wasm_binary.specs.Grammar.{AreItems, IsVec}
use Rattle.wasm_module.specs.declared.renaming.Widths.{Widths}
use Rattle.wasm_module.specs.Changes.{ChangesSized, ChangeAll, BecomesTooLong, InSized}
use Rattle.wasm_module.specs.Renaming.{NewIndices, new_index, least_width, IsTextOf}

-- ---- names, and maps of them

-- how many bytes a name has, and the bytes
pub data IsName : List ℕ → Type 0 where
  name : (size bytes : List ℕ) → IsU32 size (length bytes) → IsName (size ++ bytes)

-- a name behind the index that has it
pub data IsIndexedName : List ℕ → ℕ → Type 0 where
  indexed :
      (index name : List ℕ) (k : ℕ) → IsU32 index k → IsName name
      → IsIndexedName (index ++ name) k

-- a number, and as many texts of such items
pub record IsVecOf {A : Type 0} (IsText : List ℕ → A → Type 0) (text : List ℕ) : Type 0 where
  pub items : List A
  pub is_vec : IsVec IsText text items

-- a map from indices, of any space, to names
abbrev pub IsNameMap : List ℕ → Type 0
IsNameMap = IsVecOf IsIndexedName

-- ---- maps from types

-- an entry of a map from types: the type's index, how many bytes this had, and what follows it
pub record TypeEntry : Type 0 where
  pub index : ℕ
  pub width : ℕ
  pub follows : List ℕ

abbrev pub type_entry : ℕ → ℕ → List ℕ → TypeEntry
type_entry index width follows = record { index = index; width = width; follows = follows }

pub data IsEntry (Follows : List ℕ → Type 0) : List ℕ → TypeEntry → Type 0 where
  entry :
      (text follows : List ℕ) (index : ℕ) → IsU32 text index → Follows follows
      → IsEntry Follows (text ++ follows) (type_entry index (length text) follows)

-- an entry of a type below this count
pub data IsKnownEntry (Follows : List ℕ → Type 0) (count : ℕ) : List ℕ → TypeEntry → Type 0 where
  known :
      (text : List ℕ) (e : TypeEntry) → IsEntry Follows text e → e.index < count
      → IsKnownEntry Follows count text e

-- Of all entries that get the same new index, `e` has the least old one. Where several have that,
-- `e` is the first of them.
pub record IsLeast (new_indices : NewIndices) (entries : List TypeEntry) (e : TypeEntry) :
    Type 0 where
  pub before : List TypeEntry
  pub after : List TypeEntry
  pub parts : entries ≡ before ++ e ∷ after
  pub less :
      All (λ f. new_index new_indices f.index ≡ new_index new_indices e.index
      → e.index < f.index) before
  pub least :
      All (λ f. new_index new_indices f.index ≡ new_index new_indices e.index
      → e.index ≤ f.index) after

-- Of these entries the kept ones stay, each behind its new index, and these ascend. One entry stays
-- for each new index, and none of a deleted type.
pub record AreKept (new_indices : NewIndices) (entries : List TypeEntry)
    (kept : List (ℕ × TypeEntry)) : Type 0 where
  pub known : All (λ e. e.index < length new_indices) entries
  pub ascending : IsStrictlyIncreasing (map (λ (p : ℕ × TypeEntry). p.0) kept)
  pub are_least :
      (n : ℕ) (e : TypeEntry) → Contains kept (n, e)
      → (new_index new_indices e.index ≡ Some n) × IsLeast new_indices entries e
  pub none_missing :
      All (λ e. (n : ℕ) → new_index new_indices e.index ≡ Some n
      → Contains (map (λ (p : ℕ × TypeEntry). p.0) kept) n) entries

-- an entry with its new index
pub data IsNewEntry (widths : Widths) : List ℕ → ℕ × TypeEntry → Type 0 where
  renumbered :
      (new : List ℕ) (n : ℕ) (e : TypeEntry) → IsTextOf 0x80 (least_width widths e.width) new n
      → IsNewEntry widths (new ++ e.follows) (n, e)

-- A map from types. Its count stays byte for byte where it has no entries. Otherwise count and
-- entries are written again, also where no entry stays.
pub data RenamesMap (Follows : List ℕ → Type 0) (new_indices : NewIndices) (widths : Widths) :
    List ℕ → List ℕ → List ℕ → Type 0 where
  empty : (count : List ℕ) → IsU32 count 0 → RenamesMap Follows new_indices widths count count []
  entries :
      (count texts new_count new_texts : List ℕ) (entries : List TypeEntry)
      (kept : List (ℕ × TypeEntry))
      → IsU32 count (length entries) → AreItems (IsEntry Follows) texts entries
      → (entries ≡ [] → ⊥) → AreKept new_indices entries kept
      → IsTextOf 0x80 (least_width widths (length count)) new_count (length kept)
      → AreItems (IsNewEntry widths) new_texts kept
      → RenamesMap Follows new_indices widths (count ++ texts) (new_count ++ new_texts)
      (map (λ (e : TypeEntry). e.index) entries)

-- ---- subsections

-- what a subsection of this id has after its size
pub data RenamesNames (id : ℕ) (new_indices : NewIndices) (widths : Widths) :
    List ℕ → List ℕ → List ℕ → Type 0 where
  type_names :
      (text new names : List ℕ) → id ≡ 4 → RenamesMap IsName new_indices widths text new names
      → RenamesNames id new_indices widths text new names
  field_names :
      (text new names : List ℕ) → id ≡ 10 → RenamesMap IsNameMap new_indices widths text new names
      → RenamesNames id new_indices widths text new names
  others :
      (text : List ℕ) → (id ≡ 4 → ⊥) → (id ≡ 10 → ⊥)
      → RenamesNames id new_indices widths text text []

pub data RenamesSubsection (new_indices : NewIndices) (widths : Widths) :
    List ℕ → List ℕ → List ℕ → Type 0 where
  subsection :
      (id : ℕ) (text new names : List ℕ)
      → ChangesSized widths (RenamesNames id new_indices widths) text new names
      → RenamesSubsection new_indices widths (id ∷ text) (id ∷ new) names

-- ---- what can be read

-- a map from types below this count
abbrev pub IsTypeMap : (List ℕ → Type 0) → ℕ → List ℕ → Type 0
IsTypeMap Follows count = IsVecOf (IsKnownEntry Follows count)

-- what a subsection of this id has after its size, in a module of this many types
pub data AreNames (count id : ℕ) : List ℕ → Type 0 where
  type_names : (text : List ℕ) → id ≡ 4 → IsTypeMap IsName count text → AreNames count id text
  field_names : (text : List ℕ) → id ≡ 10 → IsTypeMap IsNameMap count text → AreNames count id text
  others : (text : List ℕ) → (id ≡ 4 → ⊥) → (id ≡ 10 → ⊥) → AreNames count id text

-- a subsection of this id
pub data IsSubsection (count : ℕ) : List ℕ → ℕ → Type 0 where
  sized :
      (id : ℕ) (size content : List ℕ) → IsU32 size (length content) → AreNames count id content
      → IsSubsection count (id ∷ (size ++ content)) id

-- What a section `name` has after its name, if it can be read: subsections, in which the names of
-- types and fields are as the grammar says, and name no type that the module does not have.
pub record AreSubsections (count : ℕ) (texts : List ℕ) : Type 0 where
  pub ids : List ℕ
  pub are : AreItems (IsSubsection count) texts ids

-- ---- custom sections

-- the bytes of `name`
abbrev pub name_bytes : List ℕ
name_bytes = 0x6E ∷ 0x61 ∷ 0x6D ∷ 0x65 ∷ []

-- The content of a custom section: a name, and what follows. Where the name is another than `name`,
-- all stays; and so it does where a section `name` can't be read.
pub data RenamesCustom (new_indices : NewIndices) (widths : Widths) :
    List ℕ → List ℕ → List ℕ → Type 0 where
  name_section :
      (subsections : ℕ) (size texts new names : List ℕ) → IsU32 size (length name_bytes)
      → ChangeAll (RenamesSubsection new_indices widths) subsections texts new names
      → RenamesCustom new_indices widths (size ++ (name_bytes ++ texts))
      (size ++ (name_bytes ++ new)) names
  unread :
      (size texts : List ℕ) → IsU32 size (length name_bytes)
      → ¬ (AreSubsections (length new_indices) texts)
      → RenamesCustom new_indices widths (size ++ (name_bytes ++ texts))
      (size ++ (name_bytes ++ texts)) []
  other :
      (size bytes follows : List ℕ) → IsU32 size (length bytes) → (bytes ≡ name_bytes → ⊥)
      → RenamesCustom new_indices widths (size ++ (bytes ++ follows)) (size ++ (bytes ++ follows))
      []

-- ---- what is refused

-- subsections begin what follows the name `name`, up to one that `F` is so of, by its id
pub data FirstSubsectionIn (new_indices : NewIndices) (widths : Widths)
    (F : ℕ → List ℕ → Type 0) : List ℕ → Type 0 where
  in_subsection :
      (before : ℕ) (size texts rest new names : List ℕ) (id : ℕ) → IsU32 size (length name_bytes)
      → ChangeAll (RenamesSubsection new_indices widths) before texts new names
      → InSized (F id) rest
      → FirstSubsectionIn new_indices widths F (size ++ (name_bytes ++ (texts ++ id ∷ rest)))

-- the new text of a subsection is so long that no size counts its bytes
abbrev pub CustomBecomesTooLong : NewIndices → Widths → List ℕ → Type 0
CustomBecomesTooLong new_indices widths =
    FirstSubsectionIn new_indices widths
    (λ id. BecomesTooLong (RenamesNames id new_indices widths))
