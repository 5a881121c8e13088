-- The order of what definitions are made of finds a tie only where the two are the same.
use Rattle.std.proofs.Common.{◌≡◌, ℕ, Bool, true, None, ap, sym, ◌∙◌}
use Rattle.std.specs.{Prelude.IsTrue, Prelude.◌↔◌, Ordering.ordering_then, Ordering.is_eq}
use Rattle.std.specs.declared.cmp.Ordering.{Ordering, TheVariants.Equal}
use Rattle.std.proofs.lemmas.Cmp.{tied_itself}
use Rattle.walrus_ty.specs.declared.ty.value.{Heap.Heap, Reference.Reference, Val.Val, Storage.Storage, Field.Field}
use Rattle.walrus_ty.specs.declared.ty.value.Val.TheVariants as val
use Rattle.walrus_ty.specs.declared.ty.value.Storage.TheVariants as storage
use Rattle.walrus_ty.specs.{Comparison.ComparesBy, Definition.Array, Definition.Definition, Value.heap_cmp, Value.reference_cmp, Value.val_cmp, Value.storage_cmp, Value.field_cmp}
use Rattle.walrus_ty.proofs.{Names.Definitions.definitions_total, Names.Definitions.definition_exact, Orders.Records.equal_if_is_eq, Spelling.Tokens.then_equal}

-- ties are the same, and each thing ties with itself
abbrev pub IsExact : {A : Type 0} → (A → A → Ordering) → Type 0
IsExact {A} cmp = (x y : A) → ((cmp x y ≡ Equal) ↔ (x ≡ y))

is_exact :
    {A : Type 0} (cmp : A → A → Ordering) → ((x y : A) → cmp x y ≡ Equal → x ≡ y) →
    ((x : A) → cmp x x ≡ Equal) → IsExact cmp
is_exact {A = A} cmp found itself x y = (found x y, (λ p. ap (cmp x) (sym p) ∙ itself x))

abbrev array_of : Field ℕ → Definition
array_of f = record { composite = Array f; is_final = true; supertype = None }

field_found : (f g : Field ℕ) → field_cmp f g ≡ Equal → f ≡ g
field_found f g h = let p : Array f ≡ Array g =
    ap (λ (d : Definition). d.composite) (definition_exact (array_of f) (array_of g)
    (ap (λ o. ordering_then o Equal) h)) in cc

field_itself : (f : Field ℕ) → field_cmp f f ≡ Equal
field_itself f = (then_equal (field_cmp f f) Equal (tied_itself definitions_total (array_of f))).0

abbrev whole : Storage ℕ → Field ℕ
whole s = record { element_type = s; mutable = true }

storage_found : (s t : Storage ℕ) → storage_cmp s t ≡ Equal → s ≡ t
storage_found s t h = ap (λ (f : Field ℕ). f.element_type)
    (field_found (whole s) (whole t) (ap (λ o. ordering_then o Equal) h))

storage_itself : (s : Storage ℕ) → storage_cmp s s ≡ Equal
storage_itself s = (then_equal (storage_cmp s s) Equal (field_itself (whole s))).0

val_found : (v w : Val ℕ) → val_cmp v w ≡ Equal → v ≡ w
val_found v w h = let p : storage.Val v ≡ storage.Val w = storage_found (storage.Val v) (storage.Val w) h in
    cc

val_itself : (v : Val ℕ) → val_cmp v v ≡ Equal
val_itself v = storage_itself (storage.Val v)

reference_found : (r q : Reference ℕ) → reference_cmp r q ≡ Equal → r ≡ q
reference_found r q h = let p : val.Ref r ≡ val.Ref q = val_found (val.Ref r) (val.Ref q) h in cc

reference_itself : (r : Reference ℕ) → reference_cmp r r ≡ Equal
reference_itself r = val_itself (val.Ref r)

abbrev to_heap : Heap ℕ → Reference ℕ
to_heap h = record { nullable = true; heap_type = h }

heap_found : (h g : Heap ℕ) → heap_cmp h g ≡ Equal → h ≡ g
heap_found h g e = ap (λ (r : Reference ℕ). r.heap_type) (reference_found (to_heap h) (to_heap g) e)

heap_itself : (h : Heap ℕ) → heap_cmp h h ≡ Equal
heap_itself h = reference_itself (to_heap h)

pub heaps_exact : IsExact heap_cmp
heaps_exact = is_exact heap_cmp heap_found heap_itself

pub references_exact : IsExact reference_cmp
references_exact = is_exact reference_cmp reference_found reference_itself

pub vals_exact : IsExact val_cmp
vals_exact = is_exact val_cmp val_found val_itself

pub storages_exact : IsExact storage_cmp
storages_exact = is_exact storage_cmp storage_found storage_itself

pub fields_exact : IsExact field_cmp
fields_exact = is_exact field_cmp field_found field_itself

-- what compares as such an order, and is equal where it is the same
pub by_order :
    {A : Type 0} {eq : A → A → Bool} {cmp : A → A → Ordering} (e : A → A → Ordering) →
    ((x y : A) → (IsTrue (eq x y) ↔ (x ≡ y))) → ((x y : A) → cmp x y ≡ e x y) → IsExact e →
    ComparesBy (λ (x : A). x) eq cmp
by_order e same is exact = record {
  equal = same;
  tied = λ x y. ((λ h. (exact x y).0 (sym (is x y) ∙ h)), (λ p. is x y ∙ (exact x y).1 p));
}

-- what ties exactly where it is equal
pub by_equality :
    {A B : Type 0} (parts : A → B) {eq : A → A → Bool} {cmp : A → A → Ordering} →
    ((x y : A) → (IsTrue (eq x y) ↔ (parts x ≡ parts y))) →
    ((x y : A) → eq x y ≡ is_eq (cmp x y)) → ComparesBy parts eq cmp
by_equality parts {eq = eq} {cmp = cmp} same matches = record {
  equal = same;
  tied = λ x y. (
    (λ h. (same x y).0 (matches x y ∙ ap is_eq h)),
    (λ p. equal_if_is_eq (cmp x y) (sym (matches x y) ∙ (same x y).1 p)),
  );
}
