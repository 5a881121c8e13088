-- What a type is defined to be, over numbers that stand for types: an id in a module, an index in a
-- section.
-- WebAssembly core specification, "Types": composite types and sub types.
use Rattle.std.specs.Prelude.{ℕ, Bool, true, false, List, [], ◌∷◌, ◌++◌, map, Option, Some, None, option_map, Contains}
use Rattle.std.specs.List.{flat_map}
use Rattle.std.specs.declared.cmp.Ordering.{Ordering}
use Rattle.std.specs.declared.cmp.Ordering.TheVariants.{Less, Equal, Greater}
use Rattle.std.specs.Ordering.{nat_cmp, ordering_then}
use Rattle.std.specs.Cmp.Lexicographic.{slice_cmp}
use Rattle.walrus_ty.specs.declared.ty.value.Val.{Val}
use Rattle.walrus_ty.specs.declared.ty.value.Field.{Field}
use Rattle.walrus_ty.specs.Value.{val_names, field_names, rename_val, rename_field, val_cmp, field_cmp, bool_cmp}

pub data Composite : Type 0 where
  Function : (params : List (Val ℕ)) (results : List (Val ℕ)) → Composite
  Struct : (fields : List (Field ℕ)) → Composite
  Array : (field : Field ℕ) → Composite

pub record Definition : Type 0 where
  pub composite : Composite
  pub is_final : Bool
  pub supertype : Option ℕ

-- whether lists are part of it: parameters and results, or fields
abbrev pub has_lists : Composite → Bool
has_lists (Function params results) = true
has_lists (Struct fields) = true
has_lists (Array field) = false

-- the numbers that stand for types, from left to right

abbrev pub composite_names : Composite → List ℕ
composite_names (Function params results) = flat_map val_names params ++ flat_map val_names results
composite_names (Struct fields) = flat_map field_names fields
composite_names (Array field) = field_names field

abbrev pub supertype_names : Option ℕ → List ℕ
supertype_names None = []
supertype_names (Some k) = k ∷ []

abbrev pub names_of : Definition → List ℕ
names_of d = composite_names d.composite ++ supertype_names d.supertype

-- the definition names k
abbrev pub Names : Definition → ℕ → Type 0
Names d k = Contains (names_of d) k

-- definitions and their parts, with each number k replaced by m k

abbrev pub rename_composite : (ℕ → ℕ) → Composite → Composite
rename_composite m (Function params results) =
    Function (map (rename_val m) params) (map (rename_val m) results)
rename_composite m (Struct fields) = Struct (map (rename_field m) fields)
rename_composite m (Array field) = Array (rename_field m field)

abbrev pub rename : (ℕ → ℕ) → Definition → Definition
rename m d =
    record {
      composite = rename_composite m d.composite;
      is_final = d.is_final;
      supertype = option_map m d.supertype;
    }

-- the order: functions, structs, arrays; functions by parameters and then results, lists as words
-- in a dictionary;
-- then what is not final before what is; then what has no supertype before what has one, by its
-- number

abbrev pub composite_cmp : Composite → Composite → Ordering
composite_cmp (Function ps rs) (Function qs ss) =
    ordering_then (slice_cmp val_cmp ps qs) (slice_cmp val_cmp rs ss)
composite_cmp (Function ps rs) (Struct gs) = Less
composite_cmp (Function ps rs) (Array g) = Less
composite_cmp (Struct fs) (Function qs ss) = Greater
composite_cmp (Struct fs) (Struct gs) = slice_cmp field_cmp fs gs
composite_cmp (Struct fs) (Array g) = Less
composite_cmp (Array f) (Function qs ss) = Greater
composite_cmp (Array f) (Struct gs) = Greater
composite_cmp (Array f) (Array g) = field_cmp f g

abbrev pub supertype_cmp : Option ℕ → Option ℕ → Ordering
supertype_cmp None None = Equal
supertype_cmp None (Some l) = Less
supertype_cmp (Some k) None = Greater
supertype_cmp (Some k) (Some l) = nat_cmp k l

abbrev pub definition_cmp : Definition → Definition → Ordering
definition_cmp d e =
    ordering_then
    (composite_cmp d.composite e.composite)
    (ordering_then (bool_cmp d.is_final e.is_final) (supertype_cmp d.supertype e.supertype))
