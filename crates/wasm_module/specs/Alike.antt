-- Modules that differ at most in the indices of types, in the sizes around these, and in what their
-- type sections contain (`AreAlike`).
-- WebAssembly core specification, "Binary Format", modules, and "Name Section".
use Rattle.std.specs.Prelude.{◌≡◌, ℕ, ◌<◌, ◌≤◌, List, [], ◌∷◌, ◌++◌, length, Some}
use Rattle.std.specs.List.{All, Contains}
use Rattle.wasm_binary.specs.Modules.{header}
use Rattle.wasm_module.specs.declared.renaming.Widths.{Widths}
use Rattle.wasm_module.specs.NameSections.{TypeEntry}
use Rattle.wasm_module.specs.SyntaxTrees.{SyntaxTree, still, index, sized, joined, mapped, types, bytes_of, names_in, TreeBecomes}
use Rattle.wasm_module.specs.RenamedModules.{RenamesModule}
use Rattle.wasm_module.specs.Renaming.{NewIndices, new_index, IsTextOf}

-- which type of the one module belongs to which type of the other one
abbrev pub Pairing : Type 1
Pairing = ℕ → ℕ → Type 0

abbrev pub swapped : Pairing → Pairing
swapped R j i = R i j

-- ---- the names of types

-- both types belong to one type of the other module
abbrev pub Meet : Pairing → ℕ → ℕ → Type 0
Meet R i k = (j : ℕ) × R i j × R k j

-- Of all entries whose types meet, `e` has the least index. Where several have that, `e` is the first
-- of them.
pub record IsFirst (R : Pairing) (entries : List TypeEntry) (e : TypeEntry) : Type 0 where
  pub before : List TypeEntry
  pub after : List TypeEntry
  pub parts : entries ≡ before ++ e ∷ after
  pub less : All (λ f. Meet R f.index e.index → e.index < f.index) before
  pub least : All (λ f. Meet R f.index e.index → e.index ≤ f.index) after

-- where the type of a first entry belongs to one of the other module, its names are there as well
abbrev pub NamesAreIn : Pairing → List TypeEntry → List TypeEntry → Type 0
NamesAreIn R entries others =
    (e : TypeEntry) (j : ℕ) → IsFirst R entries e → R e.index j
    → (f : TypeEntry) × IsFirst (swapped R) others f × R e.index f.index
    × (f.follows ≡ e.follows)

pub record HaveSameNames (R : Pairing) (entries others : List TypeEntry) : Type 0 where
  pub forth : NamesAreIn R entries others
  pub back : NamesAreIn (swapped R) others entries

-- no type of the entries belongs to one of the other module
abbrev pub BelongNowhere : Pairing → List TypeEntry → Type 0
BelongNowhere R entries = (e : TypeEntry) (j : ℕ) → Contains entries e → ¬ (R e.index j)

-- ---- trees

-- The sizes of two contents: where neither names a type they stay, and are the same; where both do,
-- they are written again. Where one does, the size of the other is the shortest one.
pub data SizesAlike (p q : SyntaxTree) (size other : List ℕ) : Type 0 where
  both_stay : names_in p ≡ [] → names_in q ≡ [] → size ≡ other → SizesAlike p q size other
  neither_stays :
      (names_in p ≡ [] → ⊥) → (names_in q ≡ [] → ⊥) → SizesAlike p q size other
  first_stays :
      names_in p ≡ [] → (names_in q ≡ [] → ⊥) → IsTextOf 0x80 0 size (length (bytes_of p))
      → SizesAlike p q size other
  second_stays :
      (names_in p ≡ [] → ⊥) → names_in q ≡ [] → IsTextOf 0x80 0 other (length (bytes_of q))
      → SizesAlike p q size other

-- The trees differ at most in indices that belong together, in sizes around these, in maps with the
-- same names, and in what their type sections contain.
pub data Alike (R : Pairing) : SyntaxTree → SyntaxTree → Type 0 where
  same_bytes : (text : List ℕ) → Alike R (still text) (still text)
  indices :
      (end k l : ℕ) (text other : List ℕ) → R k l → Alike R (index end text k) (index end other l)
  sizes :
      (size other : List ℕ) (p q : SyntaxTree) → SizesAlike p q size other → Alike R p q
      → Alike R (sized size p) (sized other q)
  both : (p q r s : SyntaxTree) → Alike R p r → Alike R q s → Alike R (joined p q) (joined r s)
  empty_maps :
      (count texts : List ℕ) → Alike R (mapped count texts []) (mapped count texts [])
  maps :
      (count texts other_count other_texts : List ℕ) (entries others : List TypeEntry)
      → (entries ≡ [] → ⊥) → (others ≡ [] → ⊥) → HaveSameNames R entries others
      → Alike R (mapped count texts entries) (mapped other_count other_texts others)
  -- a map that loses all its names has the shortest count
  second_empties :
      (count other_count other_texts : List ℕ) (others : List TypeEntry)
      → IsTextOf 0x80 0 count 0 → (others ≡ [] → ⊥) → BelongNowhere (swapped R) others
      → Alike R (mapped count [] []) (mapped other_count other_texts others)
  first_empties :
      (count texts other_count : List ℕ) (entries : List TypeEntry)
      → IsTextOf 0x80 0 other_count 0 → (entries ≡ [] → ⊥) → BelongNowhere R entries
      → Alike R (mapped count texts entries) (mapped other_count [] [])
  type_sections :
      (size content other_size other_content : List ℕ)
      → Alike R (types size content) (types other_size other_content)

-- ---- modules

-- The module has so many types, and this tree behind its header: what becomes of the module by new
-- indices, one for each type, is what becomes of the tree.
pub record HasSyntaxTree (count : ℕ) (bytes : List ℕ) (p : SyntaxTree) : Type 0 where
  pub to :
      (t : List ℕ) (m : NewIndices) (w : Widths) (new : List ℕ) → length m ≡ count
      → RenamesModule t m w bytes new
      → (q : SyntaxTree) × TreeBecomes t m w p q × (header ++ bytes_of q ≡ new)
  pub from :
      (t : List ℕ) (m : NewIndices) (w : Widths) (q : SyntaxTree) → length m ≡ count
      → TreeBecomes t m w p q → RenamesModule t m w bytes (header ++ bytes_of q)

-- the modules, of so many types each, have trees that are alike
pub record AreAlike (R : Pairing) (count other_count : ℕ) (bytes other : List ℕ) : Type 0 where
  pub tree : SyntaxTree
  pub other_tree : SyntaxTree
  pub has : HasSyntaxTree count bytes tree
  pub other_has : HasSyntaxTree other_count other other_tree
  pub alike : Alike R tree other_tree

-- New indices by which both modules can become one: those of types that belong together are the
-- same, and only those. A new index of the one is a new index of the other.
pub record LeadTogether (R : Pairing) (first second : NewIndices) : Type 0 where
  pub goes : (i j : ℕ) → R i j → (n : ℕ) × (new_index first i ≡ Some n) × (new_index second j ≡ Some n)
  pub belong :
      (i j n : ℕ) → new_index first i ≡ Some n → new_index second j ≡ Some n → R i j
  pub from_second : (i n : ℕ) → new_index first i ≡ Some n → (j : ℕ) × (new_index second j ≡ Some n)
  pub from_first : (j n : ℕ) → new_index second j ≡ Some n → (i : ℕ) × (new_index first i ≡ Some n)
