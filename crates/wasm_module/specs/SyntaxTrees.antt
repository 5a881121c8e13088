-- The syntax tree of a text that names types, and what becomes of it where indices are written again.
use Rattle.std.specs.Prelude.{◌≡◌, ℕ, List, [], ◌∷◌, ◌++◌, length, map, Some}
use Rattle.wasm_module.specs.declared.renaming.Widths.{Widths}
use Rattle.wasm_module.specs.NameSections.{TypeEntry, type_entry, AreKept}
use Rattle.wasm_module.specs.Renaming.{NewIndices, new_index, least_width, IsTextOf}

-- Bytes that stay; an index of a type, by how its text ends; a size and what it counts; one tree
-- behind another; a count and the entries of a map from types; and the size and content of a type
-- section.
pub data SyntaxTree : Type 0 where
  still : List ℕ → SyntaxTree
  index : ℕ → List ℕ → ℕ → SyntaxTree
  sized : List ℕ → SyntaxTree → SyntaxTree
  joined : SyntaxTree → SyntaxTree → SyntaxTree
  mapped : List ℕ → List ℕ → List TypeEntry → SyntaxTree
  types : List ℕ → List ℕ → SyntaxTree

abbrev pub bytes_of : SyntaxTree → List ℕ
bytes_of (still text) = text
bytes_of (index end text k) = text
bytes_of (sized size p) = size ++ bytes_of p
bytes_of (joined p q) = bytes_of p ++ bytes_of q
bytes_of (mapped count texts entries) = count ++ texts
bytes_of (types size content) = size ++ content

-- the types that it names, from left to right
abbrev pub names_in : SyntaxTree → List ℕ
names_in (still text) = []
names_in (index end text k) = k ∷ []
names_in (sized size p) = names_in p
names_in (joined p q) = names_in p ++ names_in q
names_in (mapped count texts entries) = map (λ (e : TypeEntry). e.index) entries
names_in (types size content) = []

-- the entries that are kept, as their texts are written again, and as entries of the new map
pub data AreWritten (widths : Widths) :
    List (ℕ × TypeEntry) → List ℕ → List TypeEntry → Type 0 where
  none : AreWritten widths [] [] []
  next :
      (n : ℕ) (e : TypeEntry) (new : List ℕ) (kept : List (ℕ × TypeEntry)) (texts : List ℕ)
      (entries : List TypeEntry) → IsTextOf 0x80 (least_width widths e.width) new n
      → AreWritten widths kept texts entries
      → AreWritten widths ((n, e) ∷ kept) ((new ++ e.follows) ++ texts)
      (type_entry n (length new) e.follows ∷ entries)

-- With these new indices the first tree becomes the second one, and a type section gets the content
-- `new_types`.
pub data TreeBecomes (new_types : List ℕ) (new_indices : NewIndices) (widths : Widths) :
    SyntaxTree → SyntaxTree → Type 0 where
  unchanged : (text : List ℕ) → TreeBecomes new_types new_indices widths (still text) (still text)
  renumbers :
      (end k n : ℕ) (text new : List ℕ) → new_index new_indices k ≡ Some n
      → IsTextOf end (least_width widths (length text)) new n
      → TreeBecomes new_types new_indices widths (index end text k) (index end new n)
  unresized :
      (size : List ℕ) (p q : SyntaxTree) → names_in p ≡ [] → bytes_of p ≡ bytes_of q
      → TreeBecomes new_types new_indices widths p q
      → TreeBecomes new_types new_indices widths (sized size p) (sized size q)
  resizes :
      (size new_size : List ℕ) (p q : SyntaxTree) → (names_in p ≡ [] → ⊥)
      → IsTextOf 0x80 (least_width widths (length size)) new_size (length (bytes_of q))
      → TreeBecomes new_types new_indices widths p q
      → TreeBecomes new_types new_indices widths (sized size p) (sized new_size q)
  joins :
      (p q r s : SyntaxTree) → TreeBecomes new_types new_indices widths p r
      → TreeBecomes new_types new_indices widths q s
      → TreeBecomes new_types new_indices widths (joined p q) (joined r s)
  unmapped :
      (count texts : List ℕ) (entries : List TypeEntry) → entries ≡ []
      → TreeBecomes new_types new_indices widths (mapped count texts entries)
      (mapped count texts entries)
  remaps :
      (count texts new_count new_texts : List ℕ) (entries new_entries : List TypeEntry)
      (kept : List (ℕ × TypeEntry)) → (entries ≡ [] → ⊥) → AreKept new_indices entries kept
      → IsTextOf 0x80 (least_width widths (length count)) new_count (length kept)
      → AreWritten widths kept new_texts new_entries
      → TreeBecomes new_types new_indices widths (mapped count texts entries)
      (mapped new_count new_texts new_entries)
  retypes :
      (size content new_size : List ℕ) → IsTextOf 0x80 0 new_size (length new_types)
      → TreeBecomes new_types new_indices widths (types size content) (types new_size new_types)
