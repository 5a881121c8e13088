-- `==` is sameness, for each type whose parts all count: where it is true the two are the same, and
-- each is equal to itself.
use Rattle.std.proofs.Common.{◌≡◌, ℕ, Bool, true, false, ◌&&◌, None, refl, ap, subst, eqb-true}
use Rattle.std.specs.Prelude.{IsTrue, ◌↔◌}
use Rattle.walrus_ty.specs.declared.{ty.value.Heap.Heap, ty.value.Reference.Reference, ty.value.Val.Val, ty.value.Storage.Storage, ty.value.Field.Field, ty.composite.StructType.StructType, ty.composite.ArrayType.ArrayType, records.CompAt.CompAt, records.EntryAt.EntryAt, records.GroupAt.GroupAt}
use Rattle.walrus_ty.specs.declared.ty.composite.CompositeType.{CompositeType, TheVariants.Function, TheVariants.Struct, TheVariants.Array}
use Rattle.walrus_ty.specs.contracts.ty.{composite.StructTypePartialEq.TheImpl.ghosts as struct_ghosts, composite.ArrayTypePartialEq.TheImpl.ghosts as array_ghosts, value.StoragePartialEq.TheImpl.ghosts as storage_ghosts, composite.FunctionTypePartialEq.TheImpl.ghosts as function_ghosts}
use Rattle.walrus_ty.specs.contracts.ty.value.{HeapPartialEq.TheImpl.ghosts as heap_ghosts, ReferencePartialEq.TheImpl.ghosts as ref_ghosts, ValPartialEq.TheImpl.ghosts as val_ghosts, FieldPartialEq.TheImpl.ghosts as field_ghosts}
use Rattle.walrus_ty.specs.{contracts.ty.composite.CompositeTypePartialEq.TheImpl.ghosts as composite_ghosts, Signature.Signature}
use Rattle.walrus_ty.specs.contracts.records.CompAtPartialEq.TheImpl as comp_equality
use Rattle.walrus_ty.specs.contracts.records.EntryAtPartialEq.TheImpl as entry_equality
use Rattle.walrus_ty.specs.contracts.records.GroupAtPartialEq.TheImpl as group_equality
use Rattle.walrus_ty.proofs.Equality.Types.{ids, numbers, no_dict, heap_exact, ref_exact, val_exact, storage_exact, field_exact, function_exact, composite_exact, heap_itself, ref_itself, val_itself, storage_itself, field_itself, composite_itself}
use Rattle.walrus_ty.proofs.Basics.{and_left}
use Rattle.walrus_ty.proofs.Equality.Records.{entry_exact, entry_itself, group_exact, group_itself}

-- a test that finds the same alone, and each thing the same as itself
is_sameness :
    {A : Type 0} (test : A → A → Bool) → ((x y : A) → test x y ≡ true → x ≡ y) →
    ((x : A) → test x x ≡ true) → (x y : A) → (IsTrue (test x y) ↔ (x ≡ y))
is_sameness {A = A} test exact itself x y = (
  exact x y,
  (λ p. subst (λ (z : A). test x z ≡ true) p (itself x)),
)

-- over ids of a module; over indices of a section it computes to the same

pub heap_same : (h g : Heap ℕ) → (IsTrue ((heap_ghosts ids numbers no_dict).eq h g) ↔ (h ≡ g))
heap_same = is_sameness (heap_ghosts ids numbers no_dict).eq (heap_exact ids numbers no_dict eqb-true)
    heap_itself

pub reference_same :
    (r q : Reference ℕ) → (IsTrue ((ref_ghosts ids numbers no_dict).eq r q) ↔ (r ≡ q))
reference_same = is_sameness (ref_ghosts ids numbers no_dict).eq (ref_exact ids numbers no_dict eqb-true)
    ref_itself

pub val_same : (v w : Val ℕ) → (IsTrue ((val_ghosts ids numbers no_dict).eq v w) ↔ (v ≡ w))
val_same = is_sameness (val_ghosts ids numbers no_dict).eq (val_exact ids numbers no_dict eqb-true) val_itself

pub storage_same :
    (s t : Storage ℕ) → (IsTrue ((storage_ghosts ids numbers no_dict).eq s t) ↔ (s ≡ t))
storage_same = is_sameness (storage_ghosts ids numbers no_dict).eq
    (storage_exact ids numbers no_dict eqb-true) storage_itself

pub field_same : (f g : Field ℕ) → (IsTrue ((field_ghosts ids numbers no_dict).eq f g) ↔ (f ≡ g))
field_same = is_sameness (field_ghosts ids numbers no_dict).eq (field_exact ids numbers no_dict eqb-true)
    field_itself

function_itself : (f : Signature) → function_ghosts.eq f f ≡ true
function_itself f = composite_itself (Function f)

pub function_same : (f g : Signature) → (IsTrue (function_ghosts.eq f g) ↔ (f ≡ g))
function_same = is_sameness function_ghosts.eq function_exact function_itself

pub kind_same : (c d : CompositeType) → (IsTrue (composite_ghosts.eq c d) ↔ (c ≡ d))
kind_same = is_sameness composite_ghosts.eq composite_exact composite_itself

pub struct_same : (s t : StructType) → (IsTrue (struct_ghosts.eq s t) ↔ (s ≡ t))
struct_same s t = (
  (λ h. let p : Struct s ≡ Struct t = (kind_same (Struct s) (Struct t)).0 h in cc),
  (λ p. (kind_same (Struct s) (Struct t)).1 (ap Struct p)),
)

pub array_same : (a b : ArrayType) → (IsTrue (array_ghosts.eq a b) ↔ (a ≡ b))
array_same a b = (
  (λ h. let p : Array a ≡ Array b = (kind_same (Array a) (Array b)).0 h in cc),
  (λ p. (kind_same (Array a) (Array b)).1 (ap Array p)),
)

-- records of a section

entry : CompAt → EntryAt
entry c = record { comp = c; is_final = true; supertype = None }

comp_itself : (c : CompAt) → (comp_equality.ghosts).eq c c ≡ true
unfolding entry
comp_itself c = and_left _ _ (entry_itself (entry c))

with_true : (b : Bool) → b ≡ true → (b && true) ≡ true
with_true true h = refl
with_true false h = h

comp_exact : (c d : CompAt) → (comp_equality.ghosts).eq c d ≡ true → c ≡ d
unfolding entry
comp_exact c d h = ap (λ (e : EntryAt). e.comp)
    (entry_exact (entry c) (entry d) (with_true ((comp_equality.ghosts).eq c d) h))

pub comp_same : (c d : CompAt) → (IsTrue ((comp_equality.ghosts).eq c d) ↔ (c ≡ d))
comp_same = is_sameness (comp_equality.ghosts).eq comp_exact comp_itself

pub entry_same : (d e : EntryAt) → (IsTrue ((entry_equality.ghosts).eq d e) ↔ (d ≡ e))
entry_same = is_sameness (entry_equality.ghosts).eq entry_exact entry_itself

pub group_same : (g h : GroupAt) → (IsTrue ((group_equality.ghosts).eq g h) ↔ (g ≡ h))
group_same = is_sameness (group_equality.ghosts).eq group_exact group_itself
