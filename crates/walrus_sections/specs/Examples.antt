-- `unordered_pair`, `with_repeat`, `two_loops` and what becomes of them: small sections, to see the
-- normal form at.
-- The specification has no normal form of a section, and no such examples: they are of this crate's
-- own.
use Rattle.std.specs.Prelude.{ℕ, true, false, [], ◌∷◌, None}
use Rattle.walrus_ty.specs.declared.ty.value.Heap.TheVariants as heap
use Rattle.walrus_ty.specs.declared.ty.value.Val.TheVariants as val
use Rattle.walrus_ty.specs.declared.ty.value.Storage.TheVariants as storage
use Rattle.walrus_ty.specs.Definition.{Composite, Function, Struct, Definition}
use Rattle.walrus_ty.specs.Groups.{Section, Single, Rec}

abbrev pub final : Composite → Definition
final c = record { composite = c; is_final = true; supertype = None }

-- a function without parameters and results
abbrev pub func : Definition
func = final (Function [] [])

-- a struct of one i32
abbrev pub int_struct : Definition
int_struct = final (Struct (record { element_type = storage.Val val.I32; mutable = false } ∷ []))

-- a struct of one nullable reference to k
abbrev pub link : ℕ → Definition
link k =
    final (Struct (record {
      element_type = storage.Val
          (val.Ref (record { nullable = true; heap_type = heap.Concrete k }));
      mutable = false;
    } ∷ []))

-- the two are out of order
abbrev pub unordered_pair : Section
unordered_pair = Single int_struct ∷ Single func ∷ []

abbrev pub ordered_pair : Section
ordered_pair = Single func ∷ Single int_struct ∷ []

-- the last repeats the first
abbrev pub with_repeat : Section
with_repeat = Single func ∷ Rec (func ∷ []) ∷ Single func ∷ []

abbrev pub without_repeat : Section
without_repeat = Single func ∷ Rec (func ∷ []) ∷ []

-- each names itself
abbrev pub two_loops : Section
two_loops = Single (link 0) ∷ Single (link 1) ∷ []
