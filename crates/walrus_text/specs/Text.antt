-- `section_lines`, the text of a type section: a line of words for each definition, `rec` and `end`
-- round each `Rec`.
-- The names of heap types are those of the text format: WebAssembly core specification, "Text
-- Format", types.
use Rattle.std.specs.Prelude.{ℕ, Bool, true, false, List, [], ◌∷◌, ◌++◌, map, Option, Some, None, codes, decimal, if◌then◌else◌, ◌≡◌, ◌<◌, ◌^◌}
use Rattle.std.specs.List.{flat_map, AllByRecursion}
use Rattle.walrus_ty.specs.Definition.{names_of}
use Rattle.walrus_ty.specs.Records.{entry_definition}
use Rattle.walrus_ty.specs.declared.ty.value.AbstractHeapType.{AbstractHeapType}
use Rattle.walrus_ty.specs.declared.ty.value.AbstractHeapType.TheVariants as abstract
use Rattle.walrus_ty.specs.declared.ty.value.Heap.{Heap}
use Rattle.walrus_ty.specs.declared.ty.value.Heap.TheVariants as heap
use Rattle.walrus_ty.specs.declared.ty.value.Val.{Val}
use Rattle.walrus_ty.specs.declared.ty.value.Val.TheVariants as val
use Rattle.walrus_ty.specs.declared.ty.value.Storage.{Storage}
use Rattle.walrus_ty.specs.declared.ty.value.Storage.TheVariants as storage
use Rattle.walrus_ty.specs.declared.ty.value.Field.{Field}
use Rattle.walrus_ty.specs.declared.records.CompAt.{CompAt}
use Rattle.walrus_ty.specs.declared.records.CompAt.TheVariants as comp
use Rattle.walrus_ty.specs.declared.records.EntryAt.{EntryAt}
use Rattle.walrus_ty.specs.declared.records.GroupAt.{GroupAt}
use Rattle.walrus_ty.specs.declared.records.GroupAt.TheVariants as group
use Rattle.walrus_text.specs.Words.{lines_of, text_of}

-- the names of abstract heap types in the text format of WebAssembly
abbrev pub name_word : AbstractHeapType → List ℕ
name_word abstract.Func = codes "func"
name_word abstract.Extern = codes "extern"
name_word abstract.Any = codes "any"
name_word abstract.None = codes "none"
name_word abstract.NoExtern = codes "noextern"
name_word abstract.NoFunc = codes "nofunc"
name_word abstract.Eq = codes "eq"
name_word abstract.Struct = codes "struct"
name_word abstract.Array = codes "array"
name_word abstract.I31 = codes "i31"
name_word abstract.Exn = codes "exn"
name_word abstract.NoExn = codes "noexn"

abbrev pub heap_word : Heap ℕ → List ℕ
heap_word (heap.Abstract a) = name_word a
heap_word (heap.Concrete k) = decimal k
heap_word (heap.Exact k) = codes "exact:" ++ decimal k

abbrev pub val_word : Val ℕ → List ℕ
val_word val.I32 = codes "i32"
val_word val.I64 = codes "i64"
val_word val.F32 = codes "f32"
val_word val.F64 = codes "f64"
val_word val.V128 = codes "v128"
val_word (val.Ref r) = (if r.nullable then codes "null:" else codes "ref:") ++ heap_word r.heap_type

abbrev pub storage_word : Storage ℕ → List ℕ
storage_word storage.I8 = codes "i8"
storage_word storage.I16 = codes "i16"
storage_word (storage.Val v) = val_word v

abbrev pub field_word : Field ℕ → List ℕ
field_word f = (if f.mutable then codes "mut:" else []) ++ storage_word f.element_type

abbrev pub composite_words : CompAt → List (List ℕ)
composite_words (comp.Function params results) =
    codes "func" ∷ (map val_word params ++ codes "->" ∷ map val_word results)
composite_words (comp.Struct fields) = codes "struct" ∷ map field_word fields
composite_words (comp.Array field) = codes "array" ∷ field_word field ∷ []

abbrev pub open_words : Bool → List (List ℕ)
open_words true = []
open_words false = codes "open" ∷ []

abbrev pub supertype_words : Option ℕ → List (List ℕ)
supertype_words None = []
supertype_words (Some k) = (codes "sub:" ++ decimal k) ∷ []

-- `open` where the type is not final, its supertype where it has one, then what it is made of
abbrev pub entry_words : EntryAt → List (List ℕ)
entry_words e = open_words e.is_final ++ (supertype_words e.supertype ++ composite_words e.comp)

abbrev pub rec_lines : List EntryAt → List (List (List ℕ))
rec_lines entries = (codes "rec" ∷ []) ∷ (map entry_words entries ++ (codes "end" ∷ []) ∷ [])

abbrev pub group_lines : GroupAt → List (List (List ℕ))
group_lines (group.Single entry) = entry_words entry ∷ []
group_lines (group.Rec entries) = rec_lines entries

abbrev pub section_lines : List GroupAt → List (List (List ℕ))
section_lines groups = flat_map group_lines groups

-- where each entry of a section went
abbrev pub map_words : List ℕ → List (List ℕ)
map_words places = codes "map" ∷ map decimal places

-- a section, and where each entry of another one went in it
abbrev pub output_text : List GroupAt → List ℕ → List ℕ
output_text groups places = text_of (section_lines groups ++ map_words places ∷ [])

-- each of these numbers is below 2^32, as the index of a type is
abbrev pub AreIndices : List ℕ → Type 0
AreIndices names = AllByRecursion (λ k. k < 2 ^ 32) names

-- the text is that of some value of which B holds
abbrev pub IsText : {X T : Type 0} → (X → T) → (X → Type 0) → T → Type 0
IsText {X} text B t = (x : X) × B x × (t ≡ text x)

-- the numbers in a group can stand for types
abbrev pub HasGroupIndices : GroupAt → Type 0
HasGroupIndices (group.Single e) = AreIndices (names_of (entry_definition e))
HasGroupIndices (group.Rec es) = AllByRecursion (λ e. AreIndices (names_of (entry_definition e))) es

-- the numbers in a section can
abbrev pub HasSectionIndices : List GroupAt → Type 0
HasSectionIndices groups = AllByRecursion HasGroupIndices groups

-- the lines are those of a section whose numbers can stand for types
abbrev pub IsSectionText : List (List (List ℕ)) → Type 0
IsSectionText lines = IsText section_lines HasSectionIndices lines

-- the text of some section begins with these lines
abbrev pub BeginsSection : List (List (List ℕ)) → Type 0
BeginsSection lines = (more : List (List (List ℕ))) × IsSectionText (lines ++ more)

-- The bytes are a text of these groups: their lines of words are the groups', whose numbers can
-- stand for types. They are a text of no other groups (`laws::one_section`).
pub record IsTextOf (text : List ℕ) (groups : List GroupAt) : Type 0 where
  pub fits : HasSectionIndices groups
  pub lines : lines_of text ≡ section_lines groups
