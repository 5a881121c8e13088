-- Where something begins that no record holds, reading stops there and says so.
use Rattle.std.proofs.Common.{◌≡◌, ℕ, zero, suc, ◌<◌, ◌≤◌, Bool, true, false, nat_eq, List, [], ◌∷◌, ◌++◌, length, Result, Err, refl, sym, ap, ◌∙◌, append_assoc, arith, ne_eqb}
use Rattle.walrus_ty.specs.declared.records.GroupAt.{GroupAt}
use Rattle.wasm_binary.specs.declared.error.Expected.{Expected}
use Rattle.wasm_binary.specs.declared.error.NotHeld.{NotHeld}
use Rattle.wasm_binary.specs.declared.error.NotHeld.TheVariants as held
use Rattle.wasm_binary.specs.declared.error.Reason.TheVariants as reason
use Rattle.wasm_binary.specs.declared.error.Fault.{Fault}
use Rattle.wasm_binary.specs.Leb128.{IsU32}
use Rattle.wasm_binary.specs.Grammar.{AreItems, none, next, IsValType, IsFieldType, sub_code, IsSubType, IsRecType}
use Rattle.wasm_binary.specs.Places.{IsBeforeItem, counted, IsBeforeSubType, alone, in_group, IsBeforeCompType, plain, declared, IsBeforeValType, param, result, field, element, IsBeforeHeapType, referred}
use Rattle.wasm_binary.specs.Faults.{IsUnsupportedComp, shared_comp, IsUnsupportedHeap, shared_heap, BeginsUnsupported, supertypes_begin, comp_begins, heap_begins, ref_begins, HasNothingUnsupported}
use Rattle.wasm_binary.specs.Steps.Reading.{items_at, vec_at, heap_type_of, index_at, heap_at, reference_at, val_at, storage_at, field_at, function_at, comp_at, supertype_at, declared_at, entry_at, group_at, types_at}
use Rattle.wasm_binary.proofs.Basics.{Reading, IsComplete}
use Rattle.wasm_binary.proofs.Integers.{u32_complete}
use Rattle.wasm_binary.proofs.Lists.{vec_complete}
use Rattle.wasm_binary.proofs.Values.{val_complete}
use Rattle.wasm_binary.proofs.Composites.{field_complete}
use Rattle.wasm_binary.proofs.Groups.{supertype_complete, entry_complete, group_complete}
use Rattle.wasm_binary.proofs.Faults.{failed, stop}

-- ---- lists

items_fail : {A : Type 0} (IsText : List ℕ → A → Type 0) (at : List ℕ → Reading A) → IsComplete IsText at →
    (n : ℕ) (texts : List ℕ) (items : List A) (rest : List ℕ) (f : Fault) → AreItems IsText texts items
    → length items < n → at rest ≡ failed f → items_at at n (texts ++ rest) ≡ failed f
unfolding items_at
items_fail IsText at complete zero texts items rest f h lt e = absurd (omega (arith, lt))
items_fail IsText at complete (suc n) _ _ rest f none lt e = rw e refl
items_fail IsText at complete (suc n) _ _ rest f (next text others item items h hs) lt e =
    rw (
      append_assoc text others rest,
      complete text item (others ++ rest) h,
      items_fail
          IsText at complete n others items rest f hs (omega (arith, lt)) e,
    ) refl

vec_fails : {A : Type 0} (IsText : List ℕ → A → Type 0) (at : List ℕ → Reading A) → IsComplete IsText at →
    (prefix rest : List ℕ) (f : Fault) → IsBeforeItem IsText prefix
    → at rest ≡ failed f → vec_at at (prefix ++ rest) ≡ failed f
unfolding vec_at
vec_fails IsText at complete _ rest f (counted count texts n items h hs lt) e =
    rw (append_assoc count texts rest, u32_complete count n (texts ++ rest) h)
    (items_fail IsText at complete n texts items rest f hs lt e)

-- ---- definitions and groups

abbrev read_failed : Fault → Result (List GroupAt) Fault
read_failed f = Err f

group_fails : (prefix rest : List ℕ) (f : Fault) → IsBeforeItem IsRecType prefix → group_at rest ≡ failed f →
    types_at (prefix ++ rest) ≡ read_failed f
unfolding types_at
group_fails prefix rest f h e = rw (vec_fails IsRecType group_at group_complete prefix rest f h e) refl

-- a definition does not begin with the code of a group
sub_type_fails : (prefix : List ℕ) (b : ℕ) (others : List ℕ) (f : Fault) → IsBeforeSubType prefix
    → nat_eq b 0x4E ≡ false → entry_at (b ∷ others) ≡ failed f →
    types_at (prefix ++ b ∷ others) ≡ read_failed f
unfolding group_at
sub_type_fails _ b others f (alone prefix h) is_other e =
    group_fails prefix (b ∷ others) f h (rw (is_other, e) refl)
sub_type_fails _ b others f (in_group prefix inner h k) is_other e =
    rw (append_assoc prefix (0x4E ∷ inner) (b ∷ others))
    (group_fails prefix (0x4E ∷ (inner ++ b ∷ others)) f h
    (rw (vec_fails IsSubType entry_at entry_complete inner (b ∷ others) f k e) refl))

sub_is_no_group : (is_final : Bool) → nat_eq (sub_code is_final) 0x4E ≡ false
sub_is_no_group true = refl
sub_is_no_group false = refl

pub sub_fails : (is_final : Bool) (rest : List ℕ) (f : Fault) → declared_at is_final rest ≡ failed f →
    entry_at (sub_code is_final ∷ rest) ≡ failed f
unfolding entry_at
sub_fails true rest f e = e
sub_fails false rest f e = e

-- what stands behind the code of a definition is read as its rest
declared_fails : (prefix : List ℕ) (is_final : Bool) (rest : List ℕ) (f : Fault) → IsBeforeSubType prefix
    → declared_at is_final rest ≡ failed f → types_at (prefix ++ sub_code is_final ∷ rest) ≡ read_failed f
declared_fails prefix is_final rest f h e =
    sub_type_fails prefix (sub_code is_final) rest f h (sub_is_no_group is_final) (sub_fails is_final rest f e)

-- ---- composite types

-- a composite type begins with another byte than a definition with a head
record BeginsComp (b : ℕ) : Type 0 where
  pub no_group : nat_eq b 0x4E ≡ false
  pub no_sub : nat_eq b 0x50 ≡ false
  pub no_final_sub : nat_eq b 0x4F ≡ false

comp_type_fails : (prefix : List ℕ) (b : ℕ) (others : List ℕ) (f : Fault) → IsBeforeCompType prefix
    → BeginsComp b → comp_at (b ∷ others) ≡ failed f → types_at (prefix ++ b ∷ others) ≡ read_failed f
unfolding entry_at declared_at
comp_type_fails _ b others f (plain prefix h) k e =
    sub_type_fails prefix b others f h k.no_group (rw (k.no_sub, k.no_final_sub, e) refl)
comp_type_fails _ b others f (declared prefix supers is_final supertype h s) k e =
    rw (append_assoc prefix (sub_code is_final ∷ supers) (b ∷ others))
    (declared_fails prefix is_final (supers ++ b ∷ others) f h
    (rw (supertype_complete supers supertype (b ∷ others) s, e) refl))

-- ---- value types

-- a value type begins with another byte than a packed type
val_type_fails : (prefix : List ℕ) (b : ℕ) (others : List ℕ) (f : Fault) → IsBeforeValType prefix
    → nat_eq b 0x78 ≡ false → nat_eq b 0x77 ≡ false → val_at (b ∷ others) ≡ failed f →
    types_at (prefix ++ b ∷ others) ≡ read_failed f
unfolding comp_at function_at field_at storage_at
val_type_fails _ b others f (param prefix inner h k) no_i8 no_i16 e =
    rw (append_assoc prefix (0x60 ∷ inner) (b ∷ others))
    (comp_type_fails prefix 0x60 (inner ++ b ∷ others) f h
    (record { no_group = refl; no_sub = refl; no_final_sub = refl })
    (rw (vec_fails IsValType val_at val_complete inner (b ∷ others) f k e) refl))
val_type_fails _ b others f (result prefix first inner params h ps k) no_i8 no_i16 e =
    rw (append_assoc prefix (0x60 ∷ (first ++ inner)) (b ∷ others))
    (comp_type_fails prefix 0x60 ((first ++ inner) ++ b ∷ others) f h
    (record { no_group = refl; no_sub = refl; no_final_sub = refl })
    (rw (
      append_assoc first inner (b ∷ others),
      vec_complete IsValType val_at val_complete first params (inner ++ b ∷ others) ps,
      vec_fails
          IsValType val_at val_complete inner (b ∷ others) f k e,
    ) refl))
val_type_fails _ b others f (field prefix inner h k) no_i8 no_i16 e =
    rw (append_assoc prefix (0x5F ∷ inner) (b ∷ others))
    (comp_type_fails prefix 0x5F (inner ++ b ∷ others) f h
    (record { no_group = refl; no_sub = refl; no_final_sub = refl })
    (rw (vec_fails IsFieldType field_at field_complete inner (b ∷ others) f k (rw (no_i8, no_i16, e) refl))
    refl))
val_type_fails _ b others f (element prefix h) no_i8 no_i16 e =
    rw (append_assoc prefix (0x5E ∷ []) (b ∷ others))
    (comp_type_fails prefix 0x5E (b ∷ others) f h
    (record { no_group = refl; no_sub = refl; no_final_sub = refl })
    (rw (no_i8, no_i16, e) refl))

-- ---- heap types

heap_type_fails : (prefix rest : List ℕ) (f : Fault) → IsBeforeHeapType prefix → heap_at rest ≡ failed f →
    types_at (prefix ++ rest) ≡ read_failed f
unfolding val_at reference_at
heap_type_fails _ rest f (referred prefix true h) e =
    rw (append_assoc prefix (0x63 ∷ []) rest) (val_type_fails prefix 0x63 rest f h refl refl (rw e refl))
heap_type_fails _ rest f (referred prefix false h) e =
    rw (append_assoc prefix (0x64 ∷ []) rest) (val_type_fails prefix 0x64 rest f h refl refl (rw e refl))

-- ---- what no record holds

abbrev unsupported : List ℕ → NotHeld → Fault
unsupported rest what = stop rest (reason.NotHeld what)

several_fail : (is_final : Bool) (count others : List ℕ) (n : ℕ) → IsU32 count n → 2 ≤ n →
    declared_at is_final (count ++ others) ≡ failed (unsupported (count ++ others) held.Supertypes)
unfolding declared_at supertype_at
several_fail is_final count others n h le =
    rw (
      u32_complete count n others h,
      ne_eqb n 0 (λ q. omega (arith, q, le)),
      ne_eqb n 1 (λ q. omega (arith, q, le)),
    ) refl

comp_fails : (what : NotHeld) (code : ℕ) (others : List ℕ) → IsUnsupportedComp what code →
    comp_at (code ∷ others) ≡ failed (unsupported (code ∷ others) what)
unfolding comp_at
comp_fails _ _ others shared_comp = refl
comp_fails _ _ others v = refl

comp_begins_so : (what : NotHeld) (code : ℕ) → IsUnsupportedComp what code → BeginsComp code
comp_begins_so _ _ shared_comp = record { no_group = refl; no_sub = refl; no_final_sub = refl }
comp_begins_so _ _ v = record { no_group = refl; no_sub = refl; no_final_sub = refl }

heap_fails : (what : NotHeld) (code : ℕ) (others : List ℕ) → IsUnsupportedHeap what code →
    heap_at (code ∷ others) ≡ failed (unsupported (code ∷ others) what)
unfolding heap_at heap_type_of index_at
heap_fails _ _ others shared_heap = refl
heap_fails _ _ others v = refl

val_fails : (what : NotHeld) (code : ℕ) (others : List ℕ) → IsUnsupportedHeap what code →
    (nat_eq code 0x78 ≡ false) × (nat_eq code 0x77 ≡ false)
    × (val_at (code ∷ others) ≡ failed (unsupported (code ∷ others) what))
unfolding val_at reference_at heap_type_of
val_fails _ _ others shared_heap = (refl, refl, refl)
val_fails _ _ others v = (refl, refl, refl)

unsupported_fails : (what : NotHeld) (prefix others : List ℕ) → BeginsUnsupported what prefix others →
    types_at (prefix ++ others) ≡ read_failed (unsupported others what)
unsupported_fails _ _ _ (supertypes_begin prefix count others is_final n h u le) =
    rw (append_assoc prefix (sub_code is_final ∷ []) (count ++ others))
    (declared_fails prefix is_final (count ++ others) (unsupported (count ++ others) held.Supertypes) h
    (several_fail is_final count others n u le))
unsupported_fails _ _ _ (comp_begins prefix others what code h k) =
    comp_type_fails prefix code others (unsupported (code ∷ others) what) h (comp_begins_so what code k)
    (comp_fails what code others k)
unsupported_fails _ _ _ (heap_begins prefix others what code h k) =
    heap_type_fails prefix (code ∷ others) (unsupported (code ∷ others) what) h (heap_fails what code others k)
unsupported_fails _ _ _ (ref_begins prefix others what code h k) =
    let v = val_fails what code others k in
    val_type_fails prefix code others (unsupported (code ∷ others) what) h v.0 v.1 v.2

fault_is : (f g : Fault) → read_failed f ≡ read_failed g → f.reason ≡ g.reason
fault_is f g e = let same : f ≡ g = cc in ap (λ (k : Fault). k.reason) same

-- where another error comes, nothing of the kind begins
pub nothing_unsupported : (bytes : List ℕ) (f : Fault) → types_at bytes ≡ Err f
    → (expected : Expected) → f.reason ≡ reason.Expected expected → HasNothingUnsupported bytes
nothing_unsupported bytes f e expected is what prefix others parts h =
    let other : types_at bytes ≡ read_failed (unsupported others what) =
    ap types_at parts ∙ unsupported_fails what prefix others h in
    let same : f.reason ≡ reason.NotHeld what = fault_is f (unsupported others what) (sym e ∙ other) in
    let both : reason.Expected expected ≡ reason.NotHeld what = sym is ∙ same in
    absurd cc
