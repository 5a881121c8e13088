-- Where the reading of a section stops.
use Rattle.std.proofs.Common.{◌≡◌, ℕ, zero, suc, ◌^◌, ◌≤◌, ◌⊎◌, inl, inr, Bool, true, false, nat_lt, nat_le, nat_eq, eqb-true, ◌||◌, List, [], ◌∷◌, ◌++◌, length, Option, Some, None, Ok, Err, refl, sym, ap, subst, ◌∙◌, append_assoc, append-nil, arith}
use Rattle.std.proofs.lemmas.Bool.{eqb-false}
use Rattle.walrus_ty.specs.declared.ty.value.AbstractHeapType.{AbstractHeapType}
use Rattle.walrus_ty.specs.declared.ty.value.AbstractHeapType.TheVariants as abstract
use Rattle.walrus_ty.specs.declared.ty.value.Heap.{Heap}
use Rattle.walrus_ty.specs.declared.ty.value.Heap.TheVariants as heap
use Rattle.walrus_ty.specs.declared.ty.value.Reference.{Reference}
use Rattle.walrus_ty.specs.declared.ty.value.Val.TheVariants as val
use Rattle.walrus_ty.specs.declared.ty.value.Storage.{Storage}
use Rattle.walrus_ty.specs.declared.ty.value.Storage.TheVariants as storage
use Rattle.walrus_ty.specs.declared.ty.value.Field.{Field}
use Rattle.walrus_ty.specs.declared.records.CompAt.{CompAt}
use Rattle.walrus_ty.specs.declared.records.CompAt.TheVariants as comp
use Rattle.walrus_ty.specs.declared.records.EntryAt.{EntryAt}
use Rattle.walrus_ty.specs.declared.records.GroupAt.TheVariants as group
use Rattle.wasm_binary.specs.declared.error.Expected.TheVariants as expected
use Rattle.wasm_binary.specs.declared.error.NotHeld.{NotHeld}
use Rattle.wasm_binary.specs.declared.error.NotHeld.TheVariants as held
use Rattle.wasm_binary.specs.declared.error.Reason.{Reason}
use Rattle.wasm_binary.specs.declared.error.Reason.TheVariants as reason
use Rattle.wasm_binary.specs.declared.error.Fault.{Fault}
use Rattle.wasm_binary.specs.Leb128.{last, IsU32, IsS33}
use Rattle.wasm_binary.specs.Grammar.{none, next, IsVec, counted, IsHeapType, abstract_type, index, exact_index, reference, IsRefType, written_out, abbreviated, IsValType, i32, ref, IsStorageType, i8, value, mutability_code, IsFieldType, field, IsCompType, array, struct, function, sub_code, IsSubType, declared, plain, IsRecType, rec, single, IsTypes}
use Rattle.wasm_binary.specs.Faults.{IsUnsupportedComp, shared_comp, continuation_comp, describing_comp, described_comp, IsUnsupportedHeap, shared_heap, continuation_heap, no_continuation_heap}
use Rattle.wasm_binary.specs.Steps.Reading.{◌>>=◌, u32_at, s33_at, vec_at, heap_type_of, index_at, abstract_or, heap_at, abbreviated_or, reference_at, val_at, storage_at, mutability_at, field_at, function_at, comp_at, supertype_at, declared_at, entry_at, group_at, IsSeenAtOnce}
use Rattle.wasm_binary.proofs.Basics.{Reading, done, which, value_is}
use Rattle.wasm_binary.proofs.Integers.{either_true, u32_sound, u32_complete}
use Rattle.wasm_binary.proofs.Lists.{vec_sound, vec_complete}
use Rattle.wasm_binary.proofs.Values.{val_sound, val_complete}
use Rattle.wasm_binary.proofs.Composites.{storage_sound, storage_complete, field_sound, field_complete}
use Rattle.wasm_binary.proofs.Groups.{IsSupertype, supertype_sound, supertype_complete, entry_sound, entry_complete, group_sound, group_complete}
use Rattle.wasm_binary.proofs.Places.{sub_fails}
use Rattle.wasm_binary.proofs.Faults.{failed, DoesNotRead, stop, here, left_is, reason_is, map_err, step_err, Tail, tail_bytes, Fills, sub_of_several, before_comp, before_heap, before_ref, supertypes, Begins, counts_several, comp_code, heap_code, ref_code, Names, names_said, expected_names, BeginAlike, by_byte, by_integer, Stops, Halts, within, inside, behind_byte, through, ends_with, at_end, at_first, held_first, pair_halts}
use Rattle.wasm_binary.proofs.ListFaults.{Unended, integer_unended, u32_halts, s33_halts, vec_halts}

-- what holds of both bytes holds of one of them
one_of_two : (P : ℕ → Type 0) (b k l : ℕ) → (nat_eq b k || nat_eq b l) ≡ true → P k → P l → P b
one_of_two P b k l h x y = elim (either_true (nat_eq b k) (nat_eq b l) h) [
  | inl e ↦ subst P (sym (eqb-true b k e)) x
  | inr e ↦ subst P (sym (eqb-true b l e)) y
]

-- ---- heap types

-- the first byte of one that no record holds
is_shared_heap : (b : ℕ) → nat_eq b 0x65 ≡ true → IsUnsupportedHeap held.Shared b
is_shared_heap b h = subst (IsUnsupportedHeap held.Shared) (sym (eqb-true b 0x65 h)) shared_heap

is_continuation_heap : (b : ℕ) → (nat_eq b 0x68 || nat_eq b 0x75) ≡ true →
    IsUnsupportedHeap held.Continuation b
is_continuation_heap b h =
    one_of_two (IsUnsupportedHeap held.Continuation) b 0x68 0x75 h continuation_heap no_continuation_heap

abbrev some_heap : Heap ℕ
some_heap = heap.Abstract abstract.Func

is_some_heap : IsHeapType (0x70 ∷ []) some_heap
is_some_heap = abstract_type abstract.Func

held_heap : (what : NotHeld) (b : ℕ) → IsUnsupportedHeap what b
    → ((xs : List ℕ) → heap_at (b ∷ xs) ≡ here (b ∷ xs) (reason.NotHeld what)) → (bytes : List ℕ) (f : Fault)
    → heap_at (b ∷ bytes) ≡ failed f → Stops Names IsHeapType (DoesNotRead heap_at) (b ∷ bytes) f
held_heap what b h same bytes f e =
    held_first IsHeapType heap_at before_heap refl (λ text fills. fills) what b same bytes f e
    (heap_code what b bytes h)

other_heap : (b : ℕ) (bytes : List ℕ) (f : Fault) (o : Option AbstractHeapType) → nat_eq b 0x62 ≡ false
    → heap_type_of b ≡ o → abstract_or b bytes o ≡ failed f → heap_at (b ∷ bytes) ≡ failed f
    → Stops Names IsHeapType (DoesNotRead heap_at) (b ∷ bytes) f
unfolding heap_at index_at
other_heap b bytes f (Some a) h is q e = absurd cc
other_heap b bytes f None h is q e =
    which (nat_lt b 0x40 || nat_le 0x80 b) _ _ (failed f) q
    (λ h1 q1. through IsS33 IsHeapType s33_at heap_at (λ k. heap.Concrete k) (λ t k i. index t k i) s33_halts
    b (λ xs. rw (h, is, h1) refl) bytes f e)
    (λ h1 q1. which (nat_eq b 0x65) _ _ (failed f) q1
    (λ h2 q2. held_heap held.Shared b (is_shared_heap b h2) (λ xs. rw (h, is, h1, h2) refl) bytes f e)
    (λ h2 q2. which (nat_eq b 0x68 || nat_eq b 0x75) _ _ (failed f) q2
    (λ h3 q3. held_heap held.Continuation b (is_continuation_heap b h3) (λ xs. rw (h, is, h1, h2, h3) refl)
    bytes f e)
    (λ h3 q3. at_first names_said IsHeapType heap_at (0x70 ∷ []) some_heap is_some_heap expected.HeapType b
    (λ xs. rw (h, is, h1, h2, h3) refl) bytes f e)))

heap_halts : Halts IsHeapType heap_at
unfolding heap_at
heap_halts [] f e =
    at_end names_said IsHeapType heap_at (0x70 ∷ []) some_heap is_some_heap expected.HeapType f e
heap_halts (b ∷ bytes) f e =
    which (nat_eq b 0x62) _ _ (failed f) e
    (λ h q. behind_byte IsU32 IsHeapType u32_at heap_at 0x62 (λ k. heap.Exact k) (λ t k i. exact_index t k i)
    (λ xs. refl) (u32_halts names_said) b bytes f h e)
    (λ h q. other_heap b bytes f (heap_type_of b) h refl q e)

-- ---- reference types and value types

abbrev some_reference : Reference ℕ
some_reference = reference true some_heap

is_some_reference : IsRefType (0x70 ∷ []) some_reference
is_some_reference = abbreviated abstract.Func

held_reference : (what : NotHeld) (b : ℕ) → IsUnsupportedHeap what b
    → ((xs : List ℕ) → reference_at (b ∷ xs) ≡ here (b ∷ xs) (reason.NotHeld what))
    → (bytes : List ℕ) (f : Fault) → reference_at (b ∷ bytes) ≡ failed f
    → Stops Names IsRefType (DoesNotRead reference_at) (b ∷ bytes) f
held_reference what b h same bytes f e =
    held_first IsRefType reference_at before_ref refl (λ text fills. fills) what b same bytes f e
    (ref_code what b bytes h)

other_reference : (b : ℕ) (bytes : List ℕ) (f : Fault) (o : Option AbstractHeapType) → nat_eq b 0x63 ≡ false
    → nat_eq b 0x64 ≡ false → heap_type_of b ≡ o → abbreviated_or b bytes o ≡ failed f
    → reference_at (b ∷ bytes) ≡ failed f → Stops Names IsRefType (DoesNotRead reference_at) (b ∷ bytes) f
unfolding reference_at
other_reference b bytes f (Some a) h k is q e = absurd cc
other_reference b bytes f None h k is q e =
    which (nat_eq b 0x65) _ _ (failed f) q
    (λ h1 q1. held_reference held.Shared b (is_shared_heap b h1) (λ xs. rw (h, k, is, h1) refl) bytes f e)
    (λ h1 q1. which (nat_eq b 0x68 || nat_eq b 0x75) _ _ (failed f) q1
    (λ h2 q2. held_reference held.Continuation b (is_continuation_heap b h2)
    (λ xs. rw (h, k, is, h1, h2) refl) bytes f e)
    (λ h2 q2. at_first names_said IsRefType reference_at (0x70 ∷ []) some_reference is_some_reference
    expected.ValType b (λ xs. rw (h, k, is, h1, h2) refl) bytes f e))

reference_halts : Halts IsRefType reference_at
unfolding reference_at
reference_halts [] f e =
    at_end names_said IsRefType reference_at (0x70 ∷ []) some_reference is_some_reference expected.ValType f e
reference_halts (b ∷ bytes) f e =
    which (nat_eq b 0x63) _ _ (failed f) e
    (λ h q. behind_byte IsHeapType IsRefType heap_at reference_at 0x63 (λ k. reference true k)
    (λ t k i. written_out t true k i) (λ xs. refl) heap_halts b bytes f h e)
    (λ h q. which (nat_eq b 0x64) _ _ (failed f) q
    (λ h1 q1. behind_byte IsHeapType IsRefType heap_at reference_at 0x64 (λ k. reference false k)
    (λ t k i. written_out t false k i) (λ xs. refl) heap_halts b bytes f h1 e)
    (λ h1 q1. other_reference b bytes f (heap_type_of b) h h1 refl q1 e))

val_halts : Halts IsValType val_at
unfolding val_at
val_halts [] f e = at_end names_said IsValType val_at (0x7F ∷ []) val.I32 i32 expected.ValType f e
val_halts (b ∷ bytes) f e =
    which (nat_eq b 0x7F) _ _ (failed f) e (λ h q. absurd cc) (λ h q.
    which (nat_eq b 0x7E) _ _ (failed f) q (λ h1 q1. absurd cc) (λ h1 q1.
    which (nat_eq b 0x7D) _ _ (failed f) q1 (λ h2 q2. absurd cc) (λ h2 q2.
    which (nat_eq b 0x7C) _ _ (failed f) q2 (λ h3 q3. absurd cc) (λ h3 q3.
    which (nat_eq b 0x7B) _ _ (failed f) q3 (λ h4 q4. absurd cc) (λ h4 q4.
    through IsRefType IsValType reference_at val_at (λ r. val.Ref r) (λ t r k. ref t r k) reference_halts b
    (λ xs. rw (h, h1, h2, h3, h4) refl) bytes f e)))))

-- ---- fields and composite types

storage_halts : Halts IsStorageType storage_at
unfolding storage_at
storage_halts [] f e =
    at_end names_said IsStorageType storage_at (0x78 ∷ []) storage.I8 i8 expected.StorageType f e
storage_halts (b ∷ bytes) f e =
    which (nat_eq b 0x78) _ _ (failed f) e (λ h q. absurd cc) (λ h q.
    which (nat_eq b 0x77) _ _ (failed f) q (λ h1 q1. absurd cc) (λ h1 q1.
    through IsValType IsStorageType val_at storage_at (λ v. storage.Val v) (λ t v k. value t v k) val_halts b
    (λ xs. rw (h, h1) refl) bytes f e))

abbrev IsMutability : List ℕ → Bool → Type 0
IsMutability text mutable = text ≡ mutability_code mutable ∷ []

mutability_halts : Halts IsMutability mutability_at
unfolding mutability_at
mutability_halts [] f e =
    at_end names_said IsMutability mutability_at (0x00 ∷ []) false refl expected.Mutability f e
mutability_halts (b ∷ bytes) f e =
    which (nat_eq b 0x00) _ _ (failed f) e (λ h q. absurd cc) (λ h q.
    which (nat_eq b 0x01) _ _ (failed f) q (λ h1 q1. absurd cc) (λ h1 q1.
    at_first names_said IsMutability mutability_at (0x00 ∷ []) false refl expected.Mutability b
    (λ xs. rw (h, h1) refl) bytes f e))

abbrev made_field : Storage ℕ → Bool → Field ℕ
made_field s m = record { element_type = s; mutable = m }

field_halts : Halts IsFieldType field_at
unfolding field_at
field_halts bytes f e =
    pair_halts IsStorageType IsMutability IsFieldType storage_at mutability_at made_field storage_sound
    storage_complete storage_halts mutability_halts (0x00 ∷ []) false refl
    (λ s t a b h k. subst (λ (u : List ℕ). IsFieldType (s ++ u) (made_field a b)) (sym k) (field s a b h))
    bytes f e

zero_count : IsU32 (0 ∷ []) 0
zero_count = last (2 ^ 32) 0 (omega arith) (omega arith) (omega arith)

no_items : {A : Type 0} (IsText : List ℕ → A → Type 0) → IsVec IsText (0 ∷ []) []
no_items IsText = counted (0 ∷ []) [] [] zero_count none

vals_halt : Halts (IsVec IsValType) (vec_at val_at)
vals_halt = vec_halts IsValType val_at val_sound val_complete val_halts (0x7F ∷ []) val.I32 i32

fields_halt : Halts (IsVec IsFieldType) (vec_at field_at)
fields_halt =
    vec_halts IsFieldType field_at field_sound field_complete field_halts (0x78 ∷ 0x00 ∷ [])
    (made_field storage.I8 false) (field (0x78 ∷ []) storage.I8 false i8)

function_halts : Halts (λ text c. IsCompType (0x60 ∷ text) c) function_at
unfolding function_at
function_halts bytes f e =
    pair_halts (IsVec IsValType) (IsVec IsValType) (λ text c. IsCompType (0x60 ∷ text) c)
    (vec_at val_at) (vec_at val_at) (λ ps rs. comp.Function ps rs) (vec_sound IsValType val_at val_sound)
    (vec_complete IsValType val_at val_complete) vals_halt vals_halt (0 ∷ []) [] (no_items IsValType)
    (λ s t ps rs h k. function s t ps rs h k) bytes f e

abbrev pub empty_struct_type : CompAt
empty_struct_type = comp.Struct []

pub empty_struct : IsCompType (0x5F ∷ 0 ∷ []) empty_struct_type
empty_struct = struct (0 ∷ []) [] (no_items IsFieldType)

-- the first byte of one that no record holds
is_descriptor : (b : ℕ) → (nat_eq b 0x4C || nat_eq b 0x4D) ≡ true → IsUnsupportedComp held.Descriptor b
is_descriptor b h =
    one_of_two (IsUnsupportedComp held.Descriptor) b 0x4C 0x4D h describing_comp described_comp

held_comp : (what : NotHeld) (b : ℕ) → IsUnsupportedComp what b
    → ((xs : List ℕ) → comp_at (b ∷ xs) ≡ here (b ∷ xs) (reason.NotHeld what)) → (bytes : List ℕ) (f : Fault)
    → comp_at (b ∷ bytes) ≡ failed f → Stops Names IsCompType (DoesNotRead comp_at) (b ∷ bytes) f
held_comp what b h same bytes f e =
    held_first IsCompType comp_at before_comp refl (λ text fills. fills) what b same bytes f e
    (comp_code what b bytes h)

same_bind : {A : Type 0} (r : Reading A) → r ≡ (r >>= (λ x. done x.0 x.1))
same_bind (Ok x) = refl
same_bind (Err f) = refl

comp_halts : Halts IsCompType comp_at
unfolding comp_at
comp_halts [] f e =
    at_end names_said IsCompType comp_at (0x5F ∷ 0 ∷ []) empty_struct_type empty_struct expected.CompType f e
comp_halts (b ∷ bytes) f e =
    which (nat_eq b 0x60) _ _ (failed f) e
    (λ h q. behind_byte (λ text c. IsCompType (0x60 ∷ text) c) IsCompType function_at comp_at 0x60 (λ c. c)
    (λ t c k. k) (λ xs. same_bind (function_at xs)) function_halts b bytes f h e)
    (λ h q. which (nat_eq b 0x5F) _ _ (failed f) q
    (λ h1 q1. behind_byte (IsVec IsFieldType) IsCompType (vec_at field_at) comp_at 0x5F
    (λ fs. comp.Struct fs) (λ t fs k. struct t fs k) (λ xs. refl) fields_halt b bytes f h1 e)
    (λ h1 q1. which (nat_eq b 0x5E) _ _ (failed f) q1
    (λ h2 q2. behind_byte IsFieldType IsCompType field_at comp_at 0x5E (λ k. comp.Array k)
    (λ t k i. array t k i) (λ xs. refl) field_halts b bytes f h2 e)
    (λ h2 q2. which (nat_eq b 0x5D) _ _ (failed f) q2
    (λ h3 q3. held_comp held.Continuation b
    (subst (IsUnsupportedComp held.Continuation) (sym (eqb-true b 0x5D h3)) continuation_comp)
    (λ xs. rw (h, h1, h2, h3) refl) bytes f e)
    (λ h3 q3. which (nat_eq b 0x65) _ _ (failed f) q3
    (λ h4 q4. held_comp held.Shared b
    (subst (IsUnsupportedComp held.Shared) (sym (eqb-true b 0x65 h4)) shared_comp)
    (λ xs. rw (h, h1, h2, h3, h4) refl) bytes f e)
    (λ h4 q4. which (nat_eq b 0x4C || nat_eq b 0x4D) _ _ (failed f) q4
    (λ h5 q5. held_comp held.Descriptor b (is_descriptor b h5) (λ xs. rw (h, h1, h2, h3, h4, h5) refl) bytes
    f e)
    (λ h5 q5. at_first names_said IsCompType comp_at (0x5F ∷ 0 ∷ []) empty_struct_type empty_struct
    expected.CompType b (λ xs. rw (h, h1, h2, h3, h4, h5) refl) bytes f e))))))

-- ---- definitions

-- Reading stopped at several supertypes: behind so many bytes of their count.
record Several (bytes : List ℕ) (f : Fault) : Type 0 where
  tail : Bool → Tail
  front : List ℕ
  left : List ℕ
  tail_is : (is_final : Bool) → tail_bytes (tail is_final) ≡ sub_code is_final ∷ front
  parts : bytes ≡ front ++ left
  place : f.left ≡ length left
  names : (is_final : Bool) → Names f.reason (tail is_final) left
  filled : (is_final : Bool) (text : List ℕ) → Fills (tail is_final) text →
      (entry : EntryAt) × IsSubType text entry
  stuck : (other : List ℕ) → BeginAlike f.reason left other → DoesNotRead supertype_at (front ++ other)

abbrev IsMaybeHalted : {A : Type 0} → (List ℕ → A → Type 0) → (List ℕ → Type 0) → List ℕ → Fault → Type 0
IsMaybeHalted IsText Never bytes f = Stops Names IsText Never bytes f ⊎ Several bytes f

abbrev HaltedSupertype : List ℕ → Fault → Type 0
HaltedSupertype bytes f = IsMaybeHalted IsSupertype (DoesNotRead supertype_at) bytes f

count_stuck : (bytes : List ℕ) (f : Fault) (u : Unended 0x80 (2 ^ 32) bytes f) (other : List ℕ) →
    BeginAlike f.reason u.left other → DoesNotRead supertype_at (u.prefix ++ other)
unfolding supertype_at
count_stuck bytes f u other alike = let n = u.stuck other alike in (n.0, rw n.1 refl)

count_halts : (bytes : List ℕ) (f : Fault) (u : Unended 0x80 (2 ^ 32) bytes f) (n : ℕ) →
    IsU32 (u.prefix ++ 0 ∷ []) n → HaltedSupertype bytes f
count_halts bytes f u zero h =
    let text : IsSupertype ((u.prefix ++ 0 ∷ []) ++ []) None = counted (u.prefix ++ 0 ∷ []) [] [] h none in
    inl (ends_with names_said IsSupertype (DoesNotRead supertype_at) bytes f u.prefix u.left (0 ∷ []) None
    u.parts u.place u.seen
    (subst (λ (v : List ℕ). IsSupertype v None) (append-nil (u.prefix ++ 0 ∷ [])) text)
    (count_stuck bytes f u))
count_halts bytes f u (suc zero) h =
    let one = next (0 ∷ []) [] 0 [] zero_count none in
    let text : IsSupertype ((u.prefix ++ 0 ∷ []) ++ 0 ∷ []) (Some 0) =
    counted (u.prefix ++ 0 ∷ []) (0 ∷ []) (0 ∷ []) h one in
    inl (ends_with names_said IsSupertype (DoesNotRead supertype_at) bytes f u.prefix u.left (0 ∷ 0 ∷ [])
    (Some 0) u.parts u.place u.seen
    (subst (λ (v : List ℕ). IsSupertype v (Some 0)) (append_assoc u.prefix (0 ∷ []) (0 ∷ [])) text)
    (count_stuck bytes f u))
count_halts bytes f u (suc (suc n)) h =
    let begun : Bool → Tail = λ is_final. supertypes is_final u.prefix (suc (suc n)) h (omega arith) in
    inr (record {
      tail = begun;
      front = u.prefix;
      left = u.left;
      tail_is = λ is_final. refl;
      parts = u.parts;
      place = u.place;
      names = λ is_final. expected_names f.reason (begun is_final) u.left u.seen;
      filled = λ is_final text k. k;
      stuck = count_stuck bytes f u;
    })

two_or_more : (n : ℕ) → nat_eq n 0 ≡ false → nat_eq n 1 ≡ false → 2 ≤ n
two_or_more n h k = omega (arith, eqb-false n 0 h, eqb-false n 1 k)

too_many : (bytes : List ℕ) (n : ℕ) (rest : List ℕ) (r : Reason) → u32_at bytes ≡ Ok (n, rest) →
    nat_eq n 0 ≡ false → nat_eq n 1 ≡ false → r ≡ reason.NotHeld held.Supertypes → (other : List ℕ) →
    BeginAlike r bytes other → DoesNotRead supertype_at other
unfolding supertype_at
too_many _ n rest r h zero-not one-not is _ (by_byte b left other seen) =
    absurd (subst IsSeenAtOnce is seen)
too_many _ n rest r h zero-not one-not is _ (by_integer count left other m u) =
    let same : n ≡ m = value_is n m rest left (sym h ∙ u32_complete count m left u) in
    let zero-too : nat_eq m 0 ≡ false = subst (λ k. nat_eq k 0 ≡ false) same zero-not in
    let one-too : nat_eq m 1 ≡ false = subst (λ k. nat_eq k 1 ≡ false) same one-not in (
      stop (count ++ other) (reason.NotHeld held.Supertypes),
      rw (u32_complete count m other u, zero-too, one-too) refl,
    )

supertype_halts : (bytes : List ℕ) (f : Fault) → supertype_at bytes ≡ failed f → HaltedSupertype bytes f
unfolding supertype_at
supertype_halts bytes f e =
    step_err (u32_at bytes) _ f e
    (λ h.
    let u = integer_unended 0x80 (2 ^ 32) bytes f (omega arith) (omega arith) h in
    count_halts bytes f u u.value u.is_integer)
    (λ n rest h q. which (nat_eq n 0) _ _ (failed f) q (λ h1 q1. absurd cc) (λ h1 q1.
    let t = u32_sound bytes n rest h in
    which (nat_eq n 1) _ _ (failed f) q1
    (λ h2 q2.
    let one : IsU32 t.text 1 = subst (λ k. IsU32 t.text k) (eqb-true n 1 h2) t.is_text in
    inl (inside IsU32 IsSupertype t.text (λ k. Some k)
    (λ u k i. subst (λ (v : List ℕ). IsSupertype (t.text ++ v) (Some k)) (append-nil u)
    (counted t.text (u ++ []) (k ∷ []) one (next u [] k [] i none)))
    rest bytes f t.parts (λ xs begins k. (k.0, rw (u32_complete t.text n xs t.is_text, h1, h2, k.1) refl))
    (u32_halts names_said rest f (map_err (u32_at rest) (λ k. Some k) f q2))))
    (λ h2 q2.
    let is : f.reason ≡ reason.NotHeld held.Supertypes =
    reason_is bytes (reason.NotHeld held.Supertypes) f q2 in
    inr (record {
      tail = λ is_final. sub_of_several is_final;
      front = [];
      left = bytes;
      tail_is = λ is_final. refl;
      parts = refl;
      place = left_is bytes (reason.NotHeld held.Supertypes) f q2;
      names = λ is_final.
          subst (λ (r : Reason). Names r (sub_of_several is_final) bytes) (sym is)
          (subst (λ (u : List ℕ). Begins held.Supertypes (sub_of_several is_final) u) (sym t.parts)
          (counts_several is_final t.text rest n t.is_text (two_or_more n h1 h2)));
      filled = λ is_final text k. k;
      stuck = too_many bytes n rest f.reason h h1 h2 is;
    }))))

abbrev pub made_entry : Bool → Option ℕ → CompAt → EntryAt
made_entry is_final s c = record { comp = c; is_final = is_final; supertype = s }

pub is_sub_entry : (is_final : Bool) → IsSubType (sub_code is_final ∷ 0 ∷ 0x5F ∷ 0 ∷ [])
    (made_entry is_final None empty_struct_type)
is_sub_entry is_final = declared (0 ∷ []) (0x5F ∷ 0 ∷ []) is_final None empty_struct_type (no_items IsU32)
    empty_struct

-- behind the first byte
abbrev IsDeclared : Bool → List ℕ → EntryAt → Type 0
IsDeclared is_final text e = IsSubType (sub_code is_final ∷ text) e

declared_halts : (is_final : Bool) (bytes : List ℕ) (f : Fault) → declared_at is_final bytes ≡ failed f
    → IsMaybeHalted (IsDeclared is_final) (DoesNotRead (declared_at is_final)) bytes f
unfolding declared_at
declared_halts is_final bytes f e =
    step_err (supertype_at bytes) (λ s. comp_at s.1 >>= (λ c. done (made_entry is_final s.0 c.0) c.1)) f e
    (λ h. elim (supertype_halts bytes f h) [
      | inl b ↦
          inl (within IsSupertype (IsDeclared is_final) [] (λ s. 0x5F ∷ 0 ∷ [])
          (λ s. made_entry is_final s (comp.Struct []))
          (λ t s k. declared t (0x5F ∷ 0 ∷ []) is_final s (comp.Struct []) k empty_struct)
          bytes bytes f refl (λ xs begins n. (n.0, rw n.1 refl)) b)
      | inr c ↦ inr c
    ])
    (λ s rest h q.
    let t = supertype_sound bytes s rest h in
    inl (inside IsCompType (IsDeclared is_final) t.text (made_entry is_final s)
    (λ u c k. declared t.text u is_final s c t.is_text k) rest bytes f t.parts
    (λ xs begins n. (n.0, rw (supertype_complete t.text s xs t.is_text, n.1) refl))
    (comp_halts rest f (map_err (comp_at rest) (made_entry is_final s) f q))))

several_stuck : (is_final : Bool) (xs : List ℕ) → DoesNotRead supertype_at xs →
    DoesNotRead entry_at (sub_code is_final ∷ xs)
unfolding declared_at
several_stuck is_final xs n = (n.0, sub_fails is_final xs n.0 (rw n.1 refl))

-- with the first byte
sub_halts : (is_final : Bool) (b : ℕ) (bytes : List ℕ) (f : Fault) → b ≡ sub_code is_final →
    IsMaybeHalted (IsDeclared is_final) (DoesNotRead (declared_at is_final)) bytes f →
    Stops Names IsSubType (DoesNotRead entry_at) (b ∷ bytes) f
sub_halts is_final b bytes f is (inl d) =
    inside (IsDeclared is_final) IsSubType (sub_code is_final ∷ []) (λ e. e) (λ t e h. h) bytes (b ∷ bytes) f
    (ap (λ k. k ∷ bytes) is) (λ xs begins n. (n.0, sub_fails is_final xs n.0 n.1)) d
sub_halts is_final b bytes f is (inr c) =
    record {
      prefix = [];
      tail = c.tail is_final;
      left = c.left;
      parts =
          ap (λ k. k ∷ bytes) is ∙ ap (λ (u : List ℕ). sub_code is_final ∷ u) c.parts
          ∙ ap (λ (u : List ℕ). u ++ c.left) (sym (c.tail_is is_final));
      place = c.place;
      says = c.names is_final;
      goes_on = λ text fills.
          let filled = c.filled is_final text fills in
          record {
            more = [];
            value = filled.0;
            is_text = subst (λ (u : List ℕ). IsSubType u filled.0) (sym (append-nil text)) filled.1;
          };
      stuck = λ other alike.
          subst (λ (u : List ℕ). DoesNotRead entry_at (u ++ other)) (sym (c.tail_is is_final))
          (several_stuck is_final (c.front ++ other) (c.stuck other alike));
    }

abbrev empty_entry : EntryAt
empty_entry = made_entry true None (comp.Struct [])

is_empty_entry : IsSubType (0x5F ∷ 0 ∷ []) empty_entry
is_empty_entry = plain (0x5F ∷ 0 ∷ []) (comp.Struct []) empty_struct

entry_halts : Halts IsSubType entry_at
unfolding entry_at
entry_halts [] f e =
    at_end names_said IsSubType entry_at (0x5F ∷ 0 ∷ []) empty_entry is_empty_entry expected.RecType f e
entry_halts (b ∷ bytes) f e =
    which (nat_eq b 0x50) _ _ (failed f) e
    (λ h q. sub_halts false b bytes f (eqb-true b 0x50 h) (declared_halts false bytes f q))
    (λ h q. which (nat_eq b 0x4F) _ _ (failed f) q
    (λ h1 q1. sub_halts true b bytes f (eqb-true b 0x4F h1) (declared_halts true bytes f q1))
    (λ h1 q1. through IsCompType IsSubType comp_at entry_at (λ c. made_entry true None c)
    (λ t c k. plain t c k) comp_halts b (λ xs. rw (h, h1) refl) bytes f e))

-- ---- groups and sections

entries_halt : Halts (IsVec IsSubType) (vec_at entry_at)
entries_halt =
    vec_halts IsSubType entry_at entry_sound entry_complete entry_halts (0x5F ∷ 0 ∷ []) empty_entry
    is_empty_entry

is_empty_group : IsRecType (0x5F ∷ 0 ∷ []) (group.Single empty_entry)
is_empty_group = single (0x5F ∷ 0 ∷ []) empty_entry is_empty_entry

group_halts : Halts IsRecType group_at
unfolding group_at
group_halts [] f e =
    at_end names_said IsRecType group_at (0x5F ∷ 0 ∷ []) (group.Single empty_entry) is_empty_group
    expected.RecType f e
group_halts (b ∷ bytes) f e =
    which (nat_eq b 0x4E) _ _ (failed f) e
    (λ h q. behind_byte (IsVec IsSubType) IsRecType (vec_at entry_at) group_at 0x4E (λ es. group.Rec es)
    (λ t es k. rec t es k) (λ xs. refl) entries_halt b bytes f h e)
    (λ h q. through IsSubType IsRecType entry_at group_at (λ k. group.Single k) (λ t k i. single t k i)
    entry_halts b (λ xs. rw h refl) bytes f e)

pub groups_halt : Halts IsTypes (vec_at group_at)
groups_halt =
    vec_halts IsRecType group_at group_sound group_complete group_halts (0x5F ∷ 0 ∷ [])
    (group.Single empty_entry) is_empty_group
