-- Definitions that are spelled alike are the same.
use Rattle.std.proofs.Common.{◌≡◌, ℕ, Bool, true, false, List, [], ◌∷◌, Option, Some, None, refl, ap, sym, ◌∙◌, ◌==◌, cond}
use Rattle.walrus_ty.specs.declared.ty.value.{AbstractHeapType.AbstractHeapType, Heap.Heap, Reference.Reference, Val.Val, Storage.Storage, Field.Field}
use Rattle.walrus_ty.specs.declared.ty.value.AbstractHeapType.TheVariants as abstract
use Rattle.walrus_ty.specs.declared.ty.value.Heap.TheVariants as heap
use Rattle.walrus_ty.specs.declared.ty.value.Val.TheVariants as val
use Rattle.walrus_ty.specs.declared.ty.value.Storage.TheVariants as storage
use Rattle.walrus_ty.specs.Value.{bool_index, abstract_index}
use Rattle.walrus_ty.specs.Definition.{Composite, Function, Struct, Array, Definition}
use Rattle.walrus_ty.proofs.Spelling.Tokens.{Mark, Spelling}
use Rattle.walrus_ty.proofs.Spelling.Spelled.{heap_spelled, reference_spelled, val_spelled, list_spelled, storage_spelled, field_spelled, composite_spelled, supertype_spelled, spelled}

-- an abstract heap type from its number
pub abstract_at : ℕ → AbstractHeapType
abstract_at n = cond (n == 0) abstract.Func (cond (n == 1) abstract.Extern
    (cond (n == 2) abstract.Any (cond (n == 3) abstract.None
    (cond (n == 4) abstract.NoExtern (cond (n == 5) abstract.NoFunc
    (cond (n == 6) abstract.Eq (cond (n == 7) abstract.Struct
    (cond (n == 8) abstract.Array (cond (n == 9) abstract.I31
    (cond (n == 10) abstract.Exn (abstract.NoExn)))))))))))

pub abstract_back : (a : AbstractHeapType) → abstract_at (abstract_index a) ≡ a
unfolding abstract_at
abstract_back abstract.Func = refl
abstract_back a = refl

abstract_of : (a b : AbstractHeapType) → abstract_index a ≡ abstract_index b → a ≡ b
abstract_of a b h = sym (abstract_back a) ∙ (ap abstract_at h ∙ abstract_back b)

heap_told :
    (h g : Heap ℕ) (ts us : Spelling) → heap_spelled h ts ≡ heap_spelled g us → (h ≡ g) × (ts ≡ us)
heap_told (heap.Abstract a) (heap.Abstract b) ts us e = let p : abstract_index a ≡ abstract_index b = cc in
    (ap heap.Abstract (abstract_of a b p), cc)
heap_told (heap.Concrete k) (heap.Concrete l) ts us e = (cc, cc)
heap_told (heap.Exact k) (heap.Exact l) ts us e = (cc, cc)
heap_told h g ts us e = cc

bool_of : (a b : Bool) → bool_index a ≡ bool_index b → a ≡ b
bool_of false false h = refl
bool_of true true h = refl
bool_of a b h = cc

same_reference :
    (r q : Reference ℕ) → r.nullable ≡ q.nullable → r.heap_type ≡ q.heap_type → r ≡ q
same_reference r q a b = ap (λ x. record { nullable = x; heap_type = r.heap_type }) a
    ∙ ap (λ x. record { nullable = q.nullable; heap_type = x }) b

reference_told :
    (r q : Reference ℕ) (ts us : Spelling) → reference_spelled r ts ≡ reference_spelled q us →
    (r ≡ q) × (ts ≡ us)
reference_told r q ts us e =
    let a : bool_index r.nullable ≡ bool_index q.nullable = cc in
    let h = heap_told r.heap_type q.heap_type ts us cc in
    (same_reference r q (bool_of r.nullable q.nullable a) h.0, h.1)

val_told :
    (v w : Val ℕ) (ts us : Spelling) → val_spelled v ts ≡ val_spelled w us → (v ≡ w) × (ts ≡ us)
val_told (val.Ref r) (val.Ref q) ts us e = let h = reference_told r q ts us cc in (ap val.Ref h.0, h.1)
val_told val.I32 val.I32 ts us e = (refl, cc)
val_told val.I64 val.I64 ts us e = (refl, cc)
val_told val.F32 val.F32 ts us e = (refl, cc)
val_told val.F64 val.F64 ts us e = (refl, cc)
val_told val.V128 val.V128 ts us e = (refl, cc)
val_told v w ts us e = cc

storage_told :
    (a b : Storage ℕ) (ts us : Spelling) → storage_spelled a ts ≡ storage_spelled b us →
    (a ≡ b) × (ts ≡ us)
storage_told (storage.Val v) (storage.Val w) ts us e = let h = val_told v w ts us cc in
    (ap storage.Val h.0, h.1)
storage_told storage.I8 storage.I8 ts us e = (refl, cc)
storage_told storage.I16 storage.I16 ts us e = (refl, cc)
storage_told a b ts us e = cc

field_told :
    (f g : Field ℕ) (ts us : Spelling) → field_spelled f ts ≡ field_spelled g us →
    (f ≡ g) × (ts ≡ us)
field_told f g ts us e =
    let h = storage_told f.element_type g.element_type _ _ e in
    let h1 : Mark (bool_index f.mutable) ∷ ts ≡ Mark (bool_index g.mutable) ∷ us = h.1 in
    let a : bool_index f.mutable ≡ bool_index g.mutable = cc in
    let b : f.mutable ≡ g.mutable = bool_of f.mutable g.mutable a in (
      ap (λ x. record { element_type = x; mutable = f.mutable }) h.0
          ∙ ap (λ x. record { element_type = g.element_type; mutable = x }) b,
      cc,
    )

list_told :
    {A : Type 0} (f : A → Spelling → Spelling) →
    ((x y : A) (ts us : Spelling) → f x ts ≡ f y us → (x ≡ y) × (ts ≡ us)) →
    (xs ys : List A) (ts us : Spelling) → list_spelled f xs ts ≡ list_spelled f ys us →
    (xs ≡ ys) × (ts ≡ us)
list_told f h [] [] ts us e = (refl, cc)
list_told f h [] (y ∷ ys) ts us e = cc
list_told f h (x ∷ xs) [] ts us e = cc
list_told f h (x ∷ xs) (y ∷ ys) ts us e =
    let a = h x y (list_spelled f xs ts) (list_spelled f ys us) cc in
    let b = list_told f h xs ys ts us a.1 in
    let a0 = a.0 in let b0 = b.0 in (cc, b.1)

same_function :
    (ps qs rs ss : List (Val ℕ)) → ps ≡ qs → rs ≡ ss → Function ps rs ≡ Function qs ss
same_function ps qs rs ss a b = cc

composite_told :
    (c d : Composite) (ts us : Spelling) → composite_spelled c ts ≡ composite_spelled d us →
    (c ≡ d) × (ts ≡ us)
composite_told (Function ps rs) (Function qs ss) ts us e =
    let a = list_told val_spelled val_told ps qs _ _ cc in
    let b = list_told val_spelled val_told rs ss ts us a.1 in (same_function ps qs rs ss a.0 b.0, b.1)
composite_told (Struct fs) (Struct gs) ts us e = let a = list_told field_spelled field_told fs gs ts us cc in
    (ap Struct a.0, a.1)
composite_told (Array f) (Array g) ts us e = let a = field_told f g ts us cc in (ap Array a.0, a.1)
composite_told c d ts us e = cc

supertype_told : (o p : Option ℕ) → supertype_spelled o ≡ supertype_spelled p → o ≡ p
supertype_told None None e = refl
supertype_told (Some k) (Some l) e = cc
supertype_told o p e = cc

-- what is spelled alike is alike
pub told : (d e : Definition) → spelled d ≡ spelled e → d ≡ e
told d e h =
    let a = composite_told d.composite e.composite _ _ h in
    let a1 : Mark (bool_index d.is_final) ∷ supertype_spelled d.supertype ≡ Mark (bool_index e.is_final) ∷
    supertype_spelled e.supertype = a.1 in
    let b : bool_index d.is_final ≡ bool_index e.is_final = cc in
    let b' = bool_of d.is_final e.is_final b in
    let c = supertype_told d.supertype e.supertype cc in
    ap (λ x. record { composite = x; is_final = d.is_final; supertype = d.supertype }) a.0
    ∙ (ap (λ x. record { composite = e.composite; is_final = x; supertype = d.supertype }) b'
    ∙ ap (λ x. record { composite = e.composite; is_final = e.is_final; supertype = x }) c)
