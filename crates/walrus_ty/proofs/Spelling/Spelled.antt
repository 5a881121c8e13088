-- How definitions are spelled. The spelling of a renamed definition is the renamed spelling, the
-- order of definitions is that of their spellings, and a definition names what its spelling tells.
use Rattle.std.proofs.Common.{◌≡◌, ℕ, zero, suc, ◌<◌, List, [], ◌∷◌, ◌++◌, length, map, Option, Some, None, refl, ap, sym, ◌∙◌, inl, inr, arith, append_assoc}
use Rattle.std.specs.{Prelude.option_map, Prelude.slice_index_or, List.flat_map, Ordering.nat_cmp, Ordering.ordering_then, Cmp.Lexicographic.slice_cmp}
use Rattle.std.specs.declared.cmp.Ordering.{Ordering, TheVariants.Less, TheVariants.Equal, TheVariants.Greater}
use Rattle.walrus_ty.specs.declared.ty.value.{Heap.Heap, Reference.Reference, Val.Val, Storage.Storage, Field.Field}
use Rattle.walrus_ty.specs.declared.ty.value.Heap.TheVariants as heap
use Rattle.walrus_ty.specs.declared.ty.value.Val.TheVariants as val
use Rattle.walrus_ty.specs.declared.ty.value.Storage.TheVariants as storage
use Rattle.walrus_ty.specs.Value.{heap_names, val_names, storage_names, field_names, rename_heap, rename_val, rename_storage, rename_field, bool_index, abstract_index, val_index, heap_cmp, reference_cmp, val_cmp, storage_cmp, field_cmp, bool_cmp}
use Rattle.walrus_ty.specs.Definition.{Composite, Function, Struct, Array, Definition, Names, names_of, composite_names, supertype_names, rename_composite, rename, composite_cmp, supertype_cmp, definition_cmp}
use Rattle.walrus_ty.proofs.Spelling.Tokens.{Mark, Name, Spelling, Tells, retold, spelling_cmp}

-- spelling, in front of what follows
abbrev pub heap_spelled : Heap ℕ → Spelling → Spelling
heap_spelled (heap.Abstract a) ts = Mark 0 ∷ Mark (abstract_index a) ∷ ts
heap_spelled (heap.Concrete k) ts = Mark 1 ∷ Name k ∷ ts
heap_spelled (heap.Exact k) ts = Mark 2 ∷ Name k ∷ ts

abbrev pub reference_spelled : Reference ℕ → Spelling → Spelling
reference_spelled r ts = Mark (bool_index r.nullable) ∷ heap_spelled r.heap_type ts

abbrev pub val_spelled : Val ℕ → Spelling → Spelling
val_spelled (val.Ref r) ts = Mark 5 ∷ reference_spelled r ts
val_spelled v ts = Mark (val_index v) ∷ ts

abbrev pub list_spelled : {A : Type 0} → (A → Spelling → Spelling) → List A → Spelling → Spelling
list_spelled f [] ts = Mark 0 ∷ ts
list_spelled f (x ∷ xs) ts = Mark 1 ∷ f x (list_spelled f xs ts)

abbrev pub storage_spelled : Storage ℕ → Spelling → Spelling
storage_spelled (storage.Val v) ts = Mark 0 ∷ val_spelled v ts
storage_spelled storage.I8 ts = Mark 1 ∷ ts
storage_spelled storage.I16 ts = Mark 2 ∷ ts

abbrev pub field_spelled : Field ℕ → Spelling → Spelling
field_spelled f ts = storage_spelled f.element_type (Mark (bool_index f.mutable) ∷ ts)

abbrev pub composite_spelled : Composite → Spelling → Spelling
composite_spelled (Function ps rs) ts = Mark 0 ∷ list_spelled val_spelled ps (list_spelled val_spelled rs ts)
composite_spelled (Struct fs) ts = Mark 1 ∷ list_spelled field_spelled fs ts
composite_spelled (Array f) ts = Mark 2 ∷ field_spelled f ts

abbrev pub supertype_spelled : Option ℕ → Spelling
supertype_spelled None = Mark 0 ∷ []
supertype_spelled (Some k) = Mark 1 ∷ Name k ∷ []

abbrev pub spelled : Definition → Spelling
spelled d = composite_spelled d.composite (Mark (bool_index d.is_final) ∷ supertype_spelled d.supertype)

then_assoc :
    (o p q : Ordering) → ordering_then (ordering_then o p) q ≡ ordering_then o (ordering_then p q)
then_assoc Less p q = refl
then_assoc Equal p q = refl
then_assoc Greater p q = refl

then_equal : (o : Ordering) → ordering_then o Equal ≡ o
then_equal Less = refl
then_equal Equal = refl
then_equal Greater = refl

heap_orders :
    (h g : Heap ℕ) (ts us : Spelling) →
    spelling_cmp (heap_spelled h ts) (heap_spelled g us) ≡
    ordering_then (heap_cmp h g) (spelling_cmp ts us)
heap_orders (heap.Abstract a) (heap.Abstract b) ts us = refl
heap_orders h (heap.Abstract b) ts us = refl
heap_orders h g ts us = refl

reference_orders :
    (r q : Reference ℕ) (ts us : Spelling) →
    spelling_cmp (reference_spelled r ts) (reference_spelled q us) ≡
    ordering_then (reference_cmp r q) (spelling_cmp ts us)
reference_orders r q ts us =
    ap (ordering_then (bool_cmp r.nullable q.nullable)) (heap_orders r.heap_type q.heap_type ts us)
    ∙ sym (then_assoc (bool_cmp r.nullable q.nullable) (heap_cmp r.heap_type q.heap_type)
    (spelling_cmp ts us))

val_orders :
    (v w : Val ℕ) (ts us : Spelling) →
    spelling_cmp (val_spelled v ts) (val_spelled w us) ≡
    ordering_then (val_cmp v w) (spelling_cmp ts us)
val_orders (val.Ref r) (val.Ref q) ts us = reference_orders r q ts us
val_orders v (val.Ref q) ts us = refl
val_orders v w ts us = refl

list_orders :
    {A : Type 0} (f : A → Spelling → Spelling) (c : A → A → Ordering) →
    ((x y : A) (ts us : Spelling) →
    spelling_cmp (f x ts) (f y us) ≡ ordering_then (c x y) (spelling_cmp ts us)) →
    (xs ys : List A) (ts us : Spelling) →
    spelling_cmp (list_spelled f xs ts) (list_spelled f ys us) ≡
    ordering_then (slice_cmp c xs ys) (spelling_cmp ts us)
list_orders f c h [] [] ts us = refl
list_orders f c h [] (y ∷ ys) ts us = refl
list_orders f c h (x ∷ xs) [] ts us = refl
list_orders f c h (x ∷ xs) (y ∷ ys) ts us =
    h x y (list_spelled f xs ts) (list_spelled f ys us)
    ∙ (ap (ordering_then (c x y)) (list_orders f c h xs ys ts us)
    ∙ sym (then_assoc (c x y) (slice_cmp c xs ys) (spelling_cmp ts us)))

heap_renames :
    (m : ℕ → ℕ) (h : Heap ℕ) (ts : Spelling) →
    retold m (heap_spelled h ts) ≡ heap_spelled (rename_heap m h) (retold m ts)
heap_renames m (heap.Abstract a) ts = refl
heap_renames m h ts = refl

val_renames :
    (m : ℕ → ℕ) (v : Val ℕ) (ts : Spelling) →
    retold m (val_spelled v ts) ≡ val_spelled (rename_val m v) (retold m ts)
val_renames m (val.Ref r) ts = ap (λ us. Mark 5 ∷ Mark (bool_index r.nullable) ∷ us)
    (heap_renames m r.heap_type ts)
val_renames m v ts = refl

list_renames :
    {A : Type 0} (f : A → Spelling → Spelling) (m : ℕ → ℕ) (g : A → A) →
    ((x : A) (ts : Spelling) → retold m (f x ts) ≡ f (g x) (retold m ts)) →
    (xs : List A) (ts : Spelling) →
    retold m (list_spelled f xs ts) ≡ list_spelled f (map g xs) (retold m ts)
list_renames f m g h [] ts = refl
list_renames f m g h (x ∷ xs) ts = ap (λ us. Mark 1 ∷ us) (h x (list_spelled f xs ts)
    ∙ ap (f (g x)) (list_renames f m g h xs ts))

storage_orders :
    (a b : Storage ℕ) (ts us : Spelling) →
    spelling_cmp (storage_spelled a ts) (storage_spelled b us) ≡
    ordering_then (storage_cmp a b) (spelling_cmp ts us)
storage_orders (storage.Val v) (storage.Val w) ts us = val_orders v w ts us
storage_orders a (storage.Val w) ts us = refl
storage_orders a b ts us = refl

field_orders :
    (f g : Field ℕ) (ts us : Spelling) →
    spelling_cmp (field_spelled f ts) (field_spelled g us) ≡
    ordering_then (field_cmp f g) (spelling_cmp ts us)
field_orders f g ts us =
    storage_orders f.element_type g.element_type (Mark (bool_index f.mutable) ∷ ts)
    (Mark (bool_index g.mutable) ∷ us)
    ∙ sym (then_assoc (storage_cmp f.element_type g.element_type) (bool_cmp f.mutable g.mutable)
    (spelling_cmp ts us))

composite_orders :
    (c d : Composite) (ts us : Spelling) →
    spelling_cmp (composite_spelled c ts) (composite_spelled d us) ≡
    ordering_then (composite_cmp c d) (spelling_cmp ts us)
composite_orders (Function ps rs) (Function qs ss) ts us =
    list_orders val_spelled val_cmp val_orders ps qs (list_spelled val_spelled rs ts)
    (list_spelled val_spelled ss us)
    ∙ (ap (ordering_then (slice_cmp val_cmp ps qs)) (list_orders val_spelled val_cmp val_orders rs ss ts us)
    ∙ sym (then_assoc (slice_cmp val_cmp ps qs) (slice_cmp val_cmp rs ss) (spelling_cmp ts us)))
composite_orders (Struct fs) (Struct gs) ts us = list_orders field_spelled field_cmp field_orders fs gs ts us
composite_orders (Array f) (Array g) ts us = field_orders f g ts us
composite_orders c d ts us = refl

supertype_orders :
    (o p : Option ℕ) → spelling_cmp (supertype_spelled o) (supertype_spelled p) ≡ supertype_cmp o p
supertype_orders None None = refl
supertype_orders None (Some l) = refl
supertype_orders (Some k) None = refl
supertype_orders (Some k) (Some l) = then_equal (nat_cmp k l)

-- the order of definitions is that of their spelling
pub orders : (d e : Definition) → spelling_cmp (spelled d) (spelled e) ≡ definition_cmp d e
orders d e = composite_orders d.composite e.composite _ _
    ∙ ap (λ o. ordering_then (composite_cmp d.composite e.composite) (ordering_then
    (bool_cmp d.is_final e.is_final) o)) (supertype_orders d.supertype e.supertype)

storage_renames :
    (m : ℕ → ℕ) (a : Storage ℕ) (ts : Spelling) →
    retold m (storage_spelled a ts) ≡ storage_spelled (rename_storage m a) (retold m ts)
storage_renames m (storage.Val v) ts = ap (λ us. Mark 0 ∷ us) (val_renames m v ts)
storage_renames m a ts = refl

field_renames :
    (m : ℕ → ℕ) (f : Field ℕ) (ts : Spelling) →
    retold m (field_spelled f ts) ≡ field_spelled (rename_field m f) (retold m ts)
field_renames m f ts = storage_renames m f.element_type (Mark (bool_index f.mutable) ∷ ts)

composite_renames :
    (m : ℕ → ℕ) (c : Composite) (ts : Spelling) →
    retold m (composite_spelled c ts) ≡ composite_spelled (rename_composite m c) (retold m ts)
composite_renames m (Function ps rs) ts = ap (λ us. Mark 0 ∷ us)
    (list_renames val_spelled m (rename_val m) (val_renames m) ps (list_spelled val_spelled rs ts)
    ∙ ap (list_spelled val_spelled (map (rename_val m) ps))
    (list_renames val_spelled m (rename_val m) (val_renames m) rs ts))
composite_renames m (Struct fs) ts = ap (λ us. Mark 1 ∷ us)
    (list_renames field_spelled m (rename_field m) (field_renames m) fs ts)
composite_renames m (Array f) ts = ap (λ us. Mark 2 ∷ us) (field_renames m f ts)

supertype_renames :
    (m : ℕ → ℕ) (o : Option ℕ) → retold m (supertype_spelled o) ≡ supertype_spelled (option_map m o)
supertype_renames m None = refl
supertype_renames m (Some k) = refl

-- renaming goes through spelling
pub renames : (m : ℕ → ℕ) (d : Definition) → retold m (spelled d) ≡ spelled (rename m d)
renames m d = composite_renames m d.composite _
    ∙ ap (λ us. composite_spelled (rename_composite m d.composite) (Mark (bool_index d.is_final) ∷ us))
    (supertype_renames m d.supertype)

-- the numbers that a spelling tells, in its order
abbrev pub told_names : Spelling → List ℕ
told_names [] = []
told_names (Mark n ∷ ts) = told_names ts
told_names (Name k ∷ ts) = k ∷ told_names ts

heap_tells :
    (h : Heap ℕ) (ts : Spelling) → told_names (heap_spelled h ts) ≡ heap_names h ++ told_names ts
heap_tells (heap.Abstract a) ts = refl
heap_tells h ts = refl

val_tells :
    (v : Val ℕ) (ts : Spelling) → told_names (val_spelled v ts) ≡ val_names v ++ told_names ts
val_tells (val.Ref r) ts = heap_tells r.heap_type ts
val_tells v ts = refl

storage_tells :
    (a : Storage ℕ) (ts : Spelling) →
    told_names (storage_spelled a ts) ≡ storage_names a ++ told_names ts
storage_tells (storage.Val v) ts = val_tells v ts
storage_tells a ts = refl

field_tells :
    (f : Field ℕ) (ts : Spelling) → told_names (field_spelled f ts) ≡ field_names f ++ told_names ts
field_tells f ts = storage_tells f.element_type (Mark (bool_index f.mutable) ∷ ts)

list_tells :
    {A : Type 0} (f : A → Spelling → Spelling) (g : A → List ℕ) →
    ((x : A) (ts : Spelling) → told_names (f x ts) ≡ g x ++ told_names ts) →
    (xs : List A) (ts : Spelling) →
    told_names (list_spelled f xs ts) ≡ flat_map g xs ++ told_names ts
list_tells f g h [] ts = refl
list_tells f g h (x ∷ xs) ts = h x (list_spelled f xs ts) ∙ (ap (λ ys. g x ++ ys) (list_tells f g h xs ts)
    ∙ sym (append_assoc (g x) (flat_map g xs) (told_names ts)))

composite_tells :
    (c : Composite) (ts : Spelling) →
    told_names (composite_spelled c ts) ≡ composite_names c ++ told_names ts
composite_tells (Function ps rs) ts =
    list_tells val_spelled val_names val_tells ps (list_spelled val_spelled rs ts)
    ∙ (ap (λ ys. flat_map val_names ps ++ ys) (list_tells val_spelled val_names val_tells rs ts)
    ∙ sym (append_assoc (flat_map val_names ps) (flat_map val_names rs) (told_names ts)))
composite_tells (Struct fs) ts = list_tells field_spelled field_names field_tells fs ts
composite_tells (Array f) ts = field_tells f ts

supertype_tells : (o : Option ℕ) → told_names (supertype_spelled o) ≡ supertype_names o
supertype_tells None = refl
supertype_tells (Some k) = refl

-- a definition names what its spelling tells, in the same order
pub tells : (d : Definition) → told_names (spelled d) ≡ names_of d
tells d = composite_tells d.composite _ ∙ ap (λ ys. composite_names d.composite ++ ys)
    (supertype_tells d.supertype)

told_at :
    (w : Spelling) (i k : ℕ) → i < length (told_names w) → slice_index_or (told_names w) i k ≡ k →
    Tells w k
told_at [] i k h e = absurd (omega arith)
told_at (Mark n ∷ ts) i k h e = inr (told_at ts i k h e)
told_at (Name l ∷ ts) zero k h e = inl e
told_at (Name l ∷ ts) (suc i) k h e = inr (told_at ts i k (omega arith) e)

told_where :
    (w : Spelling) (k : ℕ) → Tells w k →
    (i : ℕ) × (i < length (told_names w)) × (slice_index_or (told_names w) i k ≡ k)
told_where [] k h = elim h [ ]
told_where (Mark n ∷ ts) k (inl h) = elim h [ ]
told_where (Mark n ∷ ts) k (inr h) = told_where ts k h
told_where (Name l ∷ ts) k (inl h) = (0, omega arith, h)
told_where (Name l ∷ ts) k (inr h) = let r = told_where ts k h in let r1 = r.1 in (suc r.0, omega arith, r.2)

named_at :
    (ns : List ℕ) (w : Spelling) (k : ℕ) → told_names w ≡ ns →
    ((i : ℕ) × (i < length ns) × (slice_index_or ns i k ≡ k)) → Tells w k
named_at ns w k e h = told_at w h.0 k (rw e h.1) (rw e h.2)

named_where :
    (ns : List ℕ) (w : Spelling) (k : ℕ) → told_names w ≡ ns → Tells w k →
    (i : ℕ) × (i < length ns) × (slice_index_or ns i k ≡ k)
named_where ns w k e h = let r = told_where w k h in rw e at r

pub told_if_named : (d : Definition) (k : ℕ) → Names d k → Tells (spelled d) k
told_if_named d k h = named_at (names_of d) (spelled d) k (tells d) h

pub named_if_told : (d : Definition) (k : ℕ) → Tells (spelled d) k → Names d k
named_if_told d k h = named_where (names_of d) (spelled d) k (tells d) h
