-- `==` of types is sameness of what it looks at.
use Rattle.std.proofs.Common.{◌≡◌, ℕ, Bool, true, false, ◌&&◌, eqb, List, Option, Some, None, refl, ap, ◌∙◌, rules, eqb-true, IsTrue, ◌↔◌, sym, subst, []}
use Rattle.std.specs.{Cmp.Lexicographic.pointwise, Option.option_eq}
use mathlib.Core.Bool.{beq}
use denote.RattleType.{RattleType}
use denote.Builtin.{RawPtr}
use mir.Syntax.{Dict, given}
use denote.Enum.Bare.{same_true}
use Rattle.std.specs.declared.{cmp.PartialEq.Ghosts, string.String.String, alloc.Global.Global}
use Rattle.walrus_id.specs.contracts.id.Key.{the_row as key_row}
use Rattle.walrus_ty.specs.declared.ty.value.{AbstractHeapType.AbstractHeapType, Heap.Heap, Reference.Reference, Val.Val, Storage.Storage, Storage.TheVariants.Val as Whole, Storage.TheVariants.I8, Storage.TheVariants.I16, Field.Field}
use Rattle.walrus_ty.specs.contracts.ty.{value.AbstractHeapType.the_type as abstract_type, value.AbstractHeapTypePartialEq.TheImpl.ghosts as abstract_ghosts, value.StoragePartialEq.TheImpl.ghosts as storage_ghosts, composite.FunctionTypePartialEq.TheImpl.ghosts as function_ghosts}
use Rattle.walrus_ty.specs.declared.ty.value.Heap.TheVariants.{Abstract, Concrete, Exact}
use Rattle.walrus_ty.specs.declared.ty.value.Val.TheVariants.{I32, I64, F32, F64, V128, Ref}
use Rattle.walrus_ty.specs.declared.ty.composite.CompositeType.{CompositeType, TheVariants.Function, TheVariants.Struct, TheVariants.Array}
use Rattle.walrus_ty.specs.contracts.ty.{value.HeapPartialEq.TheImpl.ghosts as heap_ghosts, value.ReferencePartialEq.TheImpl.ghosts as ref_ghosts, value.FieldPartialEq.TheImpl.ghosts as field_ghosts, TypePartialEq.TheImpl.ghosts as type_ghosts}
use Rattle.walrus_ty.specs.{contracts.ty.value.ValPartialEq.TheImpl.ghosts as val_ghosts, contracts.ty.TypeEq.TheImpl.Laws.laws-law, contracts.ty.TypeClone.TheImpl.ghosts as type_clone, Signature.Signature, Types.ModuleType, Types.function, SameTypes.type_eq, SameTypes.IsSameType}
use Rattle.walrus_ty.specs.contracts.ty.composite.CompositeTypePartialEq.TheImpl.{ghosts as composite_ghosts}
use Rattle.std.proofs.lemmas.List.Elements.{same_from_all_zip}
use Rattle.walrus_ty.proofs.{Basics.and_left, Basics.and_right, Equality.Records.pointwise_exact}

abstract_exact : (x y : AbstractHeapType) → abstract_ghosts.eq x y ≡ true → x ≡ y
abstract_exact x y h = same_true abstract_type (search rules) x y h

pub heap_exact :
    (n : RattleType) (g : Ghosts n.Denot) (d : Dict) → ((i j : n.Denot) → g.eq i j ≡ true → i ≡ j) →
    (x y : Heap n.Denot) → (heap_ghosts n g d).eq x y ≡ true → x ≡ y
heap_exact n g d e (Abstract a) (Abstract b) h = ap Abstract (abstract_exact a b h)
heap_exact n g d e (Concrete i) (Concrete j) h = ap Concrete (e i j h)
heap_exact n g d e (Exact i) (Exact j) h = ap Exact (e i j h)
heap_exact n g d e x y h = cc

ref : {A : Type 0} → Bool → Heap A → Reference A
ref b t = record { nullable = b; heap_type = t }

ref_parts :
    (n : RattleType) (g : Ghosts n.Denot) (d : Dict) → ((i j : n.Denot) → g.eq i j ≡ true → i ≡ j) →
    (p q : Bool) (s t : Heap n.Denot) → (ref_ghosts n g d).eq (ref p s) (ref q t) ≡ true →
    ref p s ≡ ref q t
unfolding ref
ref_parts n g d e true true s t h = ap (ref true) (heap_exact n g d e s t h)
ref_parts n g d e false false s t h = ap (ref false) (heap_exact n g d e s t h)
ref_parts n g d e true false s t h = cc
ref_parts n g d e false true s t h = cc

pub ref_exact :
    (n : RattleType) (g : Ghosts n.Denot) (d : Dict) → ((i j : n.Denot) → g.eq i j ≡ true → i ≡ j) →
    (x y : Reference n.Denot) → (ref_ghosts n g d).eq x y ≡ true → x ≡ y
unfolding ref
ref_exact n g d e x y h = ref_parts n g d e x.nullable y.nullable x.heap_type y.heap_type h

pub val_exact :
    (n : RattleType) (g : Ghosts n.Denot) (d : Dict) → ((i j : n.Denot) → g.eq i j ≡ true → i ≡ j) →
    (x y : Val n.Denot) → (val_ghosts n g d).eq x y ≡ true → x ≡ y
val_exact n g d e (Ref a) (Ref b) h = ap Ref (ref_exact n g d e a b h)
val_exact n g d e I32 I32 h = refl
val_exact n g d e I64 I64 h = refl
val_exact n g d e F32 F32 h = refl
val_exact n g d e F64 F64 h = refl
val_exact n g d e V128 V128 h = refl
val_exact n g d e x y h = cc

pub storage_exact :
    (n : RattleType) (g : Ghosts n.Denot) (d : Dict) → ((i j : n.Denot) → g.eq i j ≡ true → i ≡ j) →
    (x y : Storage n.Denot) → (storage_ghosts n g d).eq x y ≡ true → x ≡ y
storage_exact n g d e (Whole a) (Whole b) h = ap Whole (val_exact n g d e a b h)
storage_exact n g d e I8 I8 h = refl
storage_exact n g d e I16 I16 h = refl
storage_exact n g d e x y h = cc

bool_exact : (p q : Bool) → beq p q ≡ true → p ≡ q
bool_exact true true h = refl
bool_exact false false h = refl
bool_exact true false h = cc
bool_exact false true h = cc

field : {A : Type 0} → Bool → Storage A → Field A
field b t = record { element_type = t; mutable = b }

field_parts :
    (n : RattleType) (g : Ghosts n.Denot) (d : Dict) → ((i j : n.Denot) → g.eq i j ≡ true → i ≡ j) →
    (p q : Bool) (s t : Storage n.Denot) → (field_ghosts n g d).eq (field p s) (field q t) ≡ true →
    field p s ≡ field q t
unfolding field
field_parts n g d e p q s t h = let a : s ≡ t = storage_exact n g d e s t (and_left _ _ h) in let b : p ≡ q =
    bool_exact p q (and_right _ _ h) in cc

pub field_exact :
    (n : RattleType) (g : Ghosts n.Denot) (d : Dict) → ((i j : n.Denot) → g.eq i j ≡ true → i ≡ j) →
    (x y : Field n.Denot) → (field_ghosts n g d).eq x y ≡ true → x ≡ y
unfolding field
field_exact n g d e x y h = field_parts n g d e x.mutable y.mutable x.element_type y.element_type h

abbrev pub ids : RattleType
ids = key_row RawPtr

abbrev pub numbers : Ghosts ℕ
numbers = record { eq = eqb }

abbrev pub no_dict : Dict
no_dict = given 0

vals_exact : (x y : List (Val ℕ)) → pointwise (val_ghosts ids numbers no_dict).eq x y ≡ true → x ≡ y
vals_exact x y h = pointwise_exact _ (val_exact ids numbers no_dict eqb-true) x y h

fields_exact :
    (x y : List (Field ℕ)) → pointwise (field_ghosts ids numbers no_dict).eq x y ≡ true → x ≡ y
fields_exact x y h = pointwise_exact _ (field_exact ids numbers no_dict eqb-true) x y h

signature : List (Val ℕ) → List (Val ℕ) → Signature
signature ps rs = record { params = ps; results = rs }

pub function_exact : (x y : Signature) → function_ghosts.eq x y ≡ true → x ≡ y
unfolding signature
function_exact x y h =
    let a : x.params ≡ y.params = vals_exact x.params y.params (and_left _ _ h) in
    let b : x.results ≡ y.results = vals_exact x.results y.results (and_right _ _ h) in
    ap (λ (ps : List (Val ℕ)). signature ps x.results) a ∙ ap (signature y.params) b

pub composite_exact : (x y : CompositeType) → composite_ghosts.eq x y ≡ true → x ≡ y
composite_exact (Function f) (Function g) h = ap Function (function_exact f g h)
composite_exact (Struct f) (Struct g) h = ap (λ (fs : List (Field ℕ)). Struct (record { fields = fs }))
    (fields_exact f.fields g.fields h)
composite_exact (Array f) (Array g) h = ap (λ (x : Field ℕ). Array (record { field = x }))
    (field_exact ids numbers no_dict eqb-true f.field g.field h)
composite_exact x y h = cc

option_exact : (x y : Option ℕ) → option_eq eqb x y ≡ true → x ≡ y
option_exact None None h = refl
option_exact (Some i) (Some j) h = ap Some (eqb-true i j h)
option_exact None (Some j) h = cc
option_exact (Some i) None h = cc

four : (a b c d : Bool) → (a && (b && (c && d))) ≡ true → (a ≡ true) × (b ≡ true) × (c ≡ true) × (d ≡ true)
four true true true d h = (refl, refl, refl, h)
four a b c d h = let k : ⊥ = cc in absurd k

-- equal types are the same in all that counts
pub same_from_eq : (x y : ModuleType) → type_eq x y ≡ true → IsSameType x y
unfolding type_eq
same_from_eq x y h =
    let parts : _ = four (composite_ghosts.eq x.kind y.kind) (beq x.is_final y.is_final)
    (option_eq eqb x.supertype y.supertype) (beq x.is_for_function_entry y.is_for_function_entry) h in
    record {
      kind = composite_exact x.kind y.kind parts.0;
      is_final = bool_exact x.is_final y.is_final parts.1;
      supertype = option_exact x.supertype y.supertype parts.2;
      is_for_function_entry = bool_exact x.is_for_function_entry y.is_for_function_entry parts.3;
    }

type_of : CompositeType → Bool → Option ℕ → Bool → ℕ → Option (String Global) → ModuleType
type_of kind is_final supertype mark id name =
    record {
      kind = kind;
      is_final = is_final;
      supertype = supertype;
      is_for_function_entry = mark;
      id = id;
      name = name;
    }

eq_of_parts :
    (k k' : CompositeType) (f f' : Bool) (s s' : Option ℕ) (m m' : Bool) (i i' : ℕ)
    (n n' : Option (String Global)) → k ≡ k' → f ≡ f' → s ≡ s' → m ≡ m' →
    type_ghosts.eq (type_of k f s m i n) (type_of k' f' s' m' i' n') ≡
    type_ghosts.eq (type_of k f s m i n) (type_of k f s m i n)
unfolding type_of
eq_of_parts k k' f f' s s' m m' i i' n n' a b c d = rw (a, b, c, d) refl

-- types that are the same in all that counts are equal
pub eq_from_same : (x y : ModuleType) → IsSameType x y → type_eq x y ≡ true
unfolding type_eq type_of
eq_from_same x y same = eq_of_parts x.kind y.kind x.is_final y.is_final x.supertype y.supertype
    x.is_for_function_entry y.is_for_function_entry x.id y.id x.name y.name same.kind same.is_final
    same.supertype same.is_for_function_entry ∙ laws-law.refl x

-- each is equal to itself

pub composite_itself : (k : CompositeType) → composite_ghosts.eq k k ≡ true
unfolding type_of
composite_itself k =
    let x : ModuleType = type_of k true None false 0 None in
    (four (composite_ghosts.eq k k) (beq true true) (option_eq eqb None None) (beq false false)
    (laws-law.refl x)).0

pub field_itself : (f : Field ℕ) → (field_ghosts ids numbers no_dict).eq f f ≡ true
field_itself f = composite_itself (Array (record { field = f }))

pub storage_itself : (s : Storage ℕ) → (storage_ghosts ids numbers no_dict).eq s s ≡ true
unfolding field
storage_itself s = and_left _ _ (field_itself (field true s))

pub val_itself : (v : Val ℕ) → (val_ghosts ids numbers no_dict).eq v v ≡ true
val_itself v = storage_itself (Whole v)

pub ref_itself : (r : Reference ℕ) → (ref_ghosts ids numbers no_dict).eq r r ≡ true
ref_itself r = val_itself (Ref r)

pub heap_itself : (h : Heap ℕ) → (heap_ghosts ids numbers no_dict).eq h h ≡ true
unfolding ref
heap_itself h = ref_itself (ref true h)

-- a clone is the same in all that counts
pub clones_equal :
    (source copy : ModuleType) → type_clone.is_clone source copy → type_eq source copy ≡ true
clones_equal source copy clone = eq_from_same source copy (record {
  kind = search (rules, same_from_all_zip);
  is_final = search rules;
  supertype = search rules;
  is_for_function_entry = search rules;
})

-- `==` of lists of value types

values_refl : (ps : List (Val ℕ)) → pointwise (val_ghosts ids numbers no_dict).eq ps ps ≡ true
unfolding type_of signature
values_refl ps =
    let x : ModuleType = type_of (Function (signature ps [])) true None false 0 None in
    let whole : function_ghosts.eq (signature ps []) (signature ps []) ≡ true =
    (four (function_ghosts.eq (signature ps []) (signature ps [])) (beq true true)
    (option_eq eqb None None) (beq false false) (laws-law.refl x)).0 in
    and_left (pointwise (val_ghosts ids numbers no_dict).eq ps ps) true whole

true_of : (b : Bool) → IsTrue b → b ≡ true
true_of true h = refl
true_of false h = h

values_test :
    (b : Bool) (xs ys : List (Val ℕ)) → b ≡ pointwise (val_ghosts ids numbers no_dict).eq xs ys →
    IsTrue b ↔ (xs ≡ ys)
values_test b xs ys is = (
  λ h. vals_exact xs ys (sym is ∙ true_of b h),
  λ e. subst (λ (c : Bool). IsTrue c) (sym (is ∙ ap (pointwise (val_ghosts ids numbers no_dict).eq xs) (sym e)
      ∙ values_refl xs)) refl,
)

params_same :
    (k : CompositeType) (f : Signature) (ps rs : List (Val ℕ)) → k ≡ Function f →
    k ≡ function ps rs → (f.params ≡ ps) × (f.results ≡ rs)
params_same k f ps rs is same = let e : f ≡ record { params = ps; results = rs } = cc in
    (ap (λ s. s.params) e, ap (λ s. s.results) e)

function_of :
    (f : Signature) (ps rs : List (Val ℕ)) → f.params ≡ ps → f.results ≡ rs →
    Function f ≡ function ps rs
unfolding signature
function_of f ps rs a b = ap (λ (xs : List (Val ℕ)). Function (signature xs f.results)) a
    ∙ ap (λ (xs : List (Val ℕ)). Function (signature ps xs)) b

-- what the comparison of both lists says
pub results_test :
    (k : CompositeType) (f : Signature) (ps rs : List (Val ℕ)) (a b : Bool) → k ≡ Function f →
    a ≡ pointwise (val_ghosts ids numbers no_dict).eq f.params ps → a ≡ true →
    b ≡ pointwise (val_ghosts ids numbers no_dict).eq f.results rs → IsTrue b ↔ (k ≡ function ps rs)
results_test k f ps rs a b is params agree results = (
  λ h. is ∙ function_of f ps rs ((values_test a f.params ps params).0 agree)
      ((values_test b f.results rs results).0 h),
  λ e. (values_test b f.results rs results).1 (params_same k f ps rs is e).1,
)

-- the test where the parameters differ
pub params_test :
    (k : CompositeType) (f : Signature) (ps rs : List (Val ℕ)) (a : Bool) → k ≡ Function f →
    a ≡ pointwise (val_ghosts ids numbers no_dict).eq f.params ps → a ≡ false →
    IsTrue a ↔ (k ≡ function ps rs)
params_test k f ps rs a is params differ = (
  λ h. absurd (let c : true ≡ false = sym (true_of a h) ∙ differ in let d : ⊥ = cc in d),
  λ e. (values_test a f.params ps params).1 (params_same k f ps rs is e).0,
)
