-- `composite_sort_key`: a few small numbers for a composite type, by which most can be told apart
-- before their lists are looked at. Names of types are left out.
-- WebAssembly core specification, "Types", composite types.
use Rattle.std.specs.Prelude.{ℕ, ◌+◌, ◌*◌, ◌==◌, cond, Bool, true, false, List, [], ◌∷◌, ◌++◌, map, Option, Some, None}
use Rattle.std.specs.declared.cmp.Ordering.{Ordering}
use Rattle.std.specs.Ordering.{nat_cmp, ordering_then}
use Rattle.walrus_ty.specs.declared.ty.value.Heap.{Heap}
use Rattle.walrus_ty.specs.declared.ty.value.Heap.TheVariants as heap
use Rattle.walrus_ty.specs.declared.ty.value.Val.{Val}
use Rattle.walrus_ty.specs.declared.ty.value.Val.TheVariants as val
use Rattle.walrus_ty.specs.declared.ty.value.Storage.{Storage}
use Rattle.walrus_ty.specs.declared.ty.value.Storage.TheVariants as storage
use Rattle.walrus_ty.specs.declared.ty.value.Field.{Field}
use Rattle.walrus_ty.specs.Definition.{Composite, Function, Struct, Array}
use Rattle.walrus_ty.specs.Value.{abstract_index, bool_index}

abbrev pub SortKey : Type 0
SortKey = ℕ × ℕ × ℕ × ℕ × ℕ × ℕ

-- by the first number where they differ
abbrev pub sort_key_cmp : SortKey → SortKey → Ordering
sort_key_cmp key other =
    ordering_then (nat_cmp key.0 other.0)
    (ordering_then (nat_cmp key.1 other.1)
    (ordering_then (nat_cmp key.2 other.2)
    (ordering_then (nat_cmp key.3 other.3)
    (ordering_then (nat_cmp key.4 other.4) (nat_cmp key.5 other.5)))))

-- the place of all heap types that name a type, behind the abstract ones
abbrev pub named_heap : ℕ
named_heap = 12

-- how many places heap types have
abbrev pub heap_places : ℕ
heap_places = 13

-- the place of the first reference, behind the numbers and the vector
abbrev pub first_reference : ℕ
first_reference = 5

-- the place of a reference to a type, and of one that may be null
abbrev pub named_place : ℕ
named_place = 17

abbrev pub named_or_null_place : ℕ
named_or_null_place = 30

-- the place of the first packed type, behind the references
abbrev pub first_packed : ℕ
first_packed = 31

-- the place of a heap type in the order; all that name a type have one place
abbrev pub heap_place : {A : Type 0} → Heap A → ℕ
heap_place (heap.Abstract name) = abstract_index name
heap_place (heap.Concrete id) = named_heap
heap_place (heap.Exact id) = named_heap

-- the place of a value type in the order: references that may be null come after the others
abbrev pub val_place : {A : Type 0} → Val A → ℕ
val_place val.I32 = 0
val_place val.I64 = 1
val_place val.F32 = 2
val_place val.F64 = 3
val_place val.V128 = 4
val_place (val.Ref ref) =
    first_reference + (heap_places * bool_index ref.nullable + heap_place ref.heap_type)

abbrev pub storage_place : {A : Type 0} → Storage A → ℕ
storage_place (storage.Val ty) = val_place ty
storage_place storage.I8 = first_packed
storage_place storage.I16 = first_packed + 1

-- whether this is the place of the references to types, nullable or not
abbrev pub is_named : ℕ → Bool
is_named place = cond (place == named_place) true (place == named_or_null_place)

-- the rank of what has this place, and is mutable or not: the lesser of two has the lesser rank, or
-- both name a type and have the same
abbrev pub rank : ℕ → Bool → ℕ
rank place is_mutable = 2 * (place + 1) + cond (is_named place) 0 (bool_index is_mutable)

-- whether this is the rank of something that names a type
abbrev pub is_open : ℕ → Bool
is_open number =
    cond (number == rank named_place false) true (number == rank named_or_null_place false)

abbrev pub val_rank : {A : Type 0} → Val A → ℕ
val_rank ty = rank (val_place ty) false

abbrev pub field_rank : {A : Type 0} → Field A → ℕ
field_rank field = rank (storage_place field.element_type) field.mutable

-- values, and if they are marked, behind a mark further values
abbrev pub marked_items : {A : Type 0} → List (Val A) → Bool → List (Val A) → List (Option (Val A))
marked_items vals is_marked further = map Some vals ++ cond is_marked (None ∷ map Some further) []

-- the mark has a lesser rank than each value
abbrev pub item_rank : {A : Type 0} → Option (Val A) → ℕ
item_rank None = 1
item_rank (Some ty) = val_rank ty

-- the rank of the first; 0 where there is none
abbrev pub first_rank : {A : Type 0} → (A → ℕ) → List A → ℕ
first_rank rank_of [] = 0
first_rank rank_of (item ∷ items) = rank_of item

-- what is left after the first; nothing after what names a type, whose rank does not say all of it
abbrev pub after_first : {A : Type 0} → (A → ℕ) → List A → List A
after_first rank_of [] = []
after_first rank_of (item ∷ items) = cond (is_open (rank_of item)) [] items

-- this number, and the ranks of the first five
abbrev pub ranks : {A : Type 0} → ℕ → (A → ℕ) → List A → SortKey
ranks number rank_of items = (
  number,
  first_rank rank_of items,
  first_rank rank_of (after_first rank_of items),
  first_rank rank_of (after_first rank_of (after_first rank_of items)),
  first_rank rank_of (after_first rank_of (after_first rank_of (after_first rank_of items))),
  first_rank rank_of
      (after_first rank_of (after_first rank_of (after_first rank_of (after_first rank_of items)))),
)

-- of a function type the parameters, a mark and the results are ranked
abbrev pub composite_sort_key : Composite → SortKey
composite_sort_key (Function params results) = ranks 0 item_rank (marked_items params true results)
composite_sort_key (Struct fields) = ranks 1 field_rank fields
composite_sort_key (Array field) = ranks 2 field_rank (field ∷ [])
