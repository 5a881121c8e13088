-- What a text was printed of: reading it back gives the value type, so two value types with one
-- text are the same.
use Rattle.std.proofs.Common.{◌≡◌, ℕ, ◌<◌, ◌^◌, Bool, true, false, List, [], ◌∷◌, ◌++◌, take, drop, refl, sym, ◌∙◌, ap, arith}
use Rattle.std.specs.Prelude.{◌&&◌, nat_lt, nat_eq, codes, decimal, if◌then◌else◌}
use Rattle.std.specs.{Char.digit_value, Str.Parse.IsNumeral, Str.Parse.digits_value}
use Rattle.std.proofs.lemmas.{Bool.lt-ltb, Fmt.decimal_is_IsNumeral}
use Rattle.walrus_ty.specs.declared.ty.value.{AbstractHeapType.AbstractHeapType, Heap.Heap, Val.Val}
use Rattle.walrus_ty.specs.declared.ty.value.AbstractHeapType.TheVariants as abstract
use Rattle.walrus_ty.specs.declared.ty.value.Heap.TheVariants as heap
use Rattle.walrus_ty.specs.declared.ty.value.Val.TheVariants as val
use Rattle.walrus_ty.specs.Text.{val_text, HasPlaces}

abbrev same : List ℕ → List ℕ → Bool
same [] [] = true
same [] (d ∷ ds) = false
same (c ∷ cs) [] = false
same (c ∷ cs) (d ∷ ds) = nat_eq c d && same cs ds

-- a number, with a bracket after it

abbrev without_last : List ℕ → List ℕ
without_last [] = []
without_last (c ∷ []) = []
without_last (c ∷ (d ∷ ds)) = c ∷ without_last (d ∷ ds)

last_gone : (cs : List ℕ) (d : ℕ) → without_last (cs ++ d ∷ []) ≡ cs
last_gone [] d = refl
last_gone (c ∷ []) d = refl
last_gone (c ∷ (b ∷ bs)) d = ap (λ (r : List ℕ). c ∷ r) (last_gone (b ∷ bs) d)

abbrev number : List ℕ → ℕ
number text = digits_value 10 (without_last text)

number_back : (k : ℕ) → k < 2 ^ 64 → number (decimal k ++ codes ")") ≡ k
number_back k small = ap (digits_value 10) (last_gone (decimal k) 41) ∙ (decimal_is_IsNumeral k small).1

abbrev has_digit_first : List ℕ → Bool
has_digit_first [] = false
has_digit_first (c ∷ cs) = nat_lt (digit_value c) 10

digit_first : (ds rest : List ℕ) → IsNumeral 10 ds → has_digit_first (ds ++ rest) ≡ true
digit_first [] rest h = absurd (omega (arith, h.0))
digit_first (c ∷ cs) rest h = lt-ltb (digit_value c) 10 h.1.0

number_first : (k : ℕ) → k < 2 ^ 64 → has_digit_first (decimal k ++ codes ")") ≡ true
number_first k small = digit_first (decimal k) (codes ")") (decimal_is_IsNumeral k small).0

-- a heap type, with a bracket after it

abbrev name_read : List ℕ → AbstractHeapType
name_read text =
    if same text (codes "func)") then abstract.Func else
    (if same text (codes "extern)") then abstract.Extern else
    (if same text (codes "any)") then abstract.Any else
    (if same text (codes "none)") then abstract.None else
    (if same text (codes "noextern)") then abstract.NoExtern else
    (if same text (codes "nofunc)") then abstract.NoFunc else
    (if same text (codes "eq)") then abstract.Eq else
    (if same text (codes "struct)") then abstract.Struct else
    (if same text (codes "array)") then abstract.Array else
    (if same text (codes "i31)") then abstract.I31 else
    (if same text (codes "exn)") then abstract.Exn else abstract.NoExn))))))))))

abbrev other_heap_read : List ℕ → Heap ℕ
other_heap_read text = if same (take 6 text) (codes "exact ") then heap.Exact (number (drop 6 text)) else
    heap.Abstract (name_read text)

abbrev heap_read : List ℕ → Heap ℕ
heap_read text = if has_digit_first text then heap.Concrete (number text) else other_heap_read text

-- a reference type after its `(ref `

abbrev reference : Bool → Heap ℕ → Val ℕ
reference nullable h = val.Ref (record { nullable = nullable; heap_type = h })

abbrev other_long_read : List ℕ → Val ℕ
other_long_read text = if same (take 5 text) (codes "null ") then
    reference true (heap_read (drop 5 text)) else reference false (other_heap_read text)

abbrev long_read : List ℕ → Val ℕ
long_read text = if has_digit_first text then reference false (heap.Concrete (number text)) else
    other_long_read text

-- a value type that is one word

abbrev word_read : List ℕ → Val ℕ
word_read text =
    if same text (codes "i32") then val.I32 else
    (if same text (codes "i64") then val.I64 else
    (if same text (codes "f32") then val.F32 else
    (if same text (codes "f64") then val.F64 else
    (if same text (codes "v128") then val.V128 else
    (if same text (codes "funcref") then reference true (heap.Abstract abstract.Func) else
    (if same text (codes "externref") then reference true (heap.Abstract abstract.Extern) else
    (if same text (codes "anyref") then reference true (heap.Abstract abstract.Any) else
    (if same text (codes "nullref") then reference true (heap.Abstract abstract.None) else
    (if same text (codes "nullexternref") then reference true (heap.Abstract abstract.NoExtern) else
    (if same text (codes "nullfuncref") then reference true (heap.Abstract abstract.NoFunc) else
    (if same text (codes "eqref") then reference true (heap.Abstract abstract.Eq) else
    (if same text (codes "structref") then reference true (heap.Abstract abstract.Struct) else
    (if same text (codes "arrayref") then reference true (heap.Abstract abstract.Array) else
    (if same text (codes "i31ref") then reference true (heap.Abstract abstract.I31) else
    (if same text (codes "exnref") then reference true (heap.Abstract abstract.Exn) else
    reference true (heap.Abstract abstract.NoExn))))))))))))))))

abbrev read : List ℕ → Val ℕ
read text = if same (take 5 text) (codes "(ref ") then long_read (drop 5 text) else word_read text

-- each form is read back

concrete_back :
    (nullable : Bool) (k : ℕ) → k < 2 ^ 64 →
    read (val_text (reference nullable (heap.Concrete k))) ≡ reference nullable (heap.Concrete k)
concrete_back true k small =
    ap (λ (b : Bool). reference true (if b then heap.Concrete (number (decimal k ++ codes ")")) else
    other_heap_read (decimal k ++ codes ")"))) (number_first k small)
    ∙ ap (λ (n : ℕ). reference true (heap.Concrete n)) (number_back k small)
concrete_back false k small =
    ap (λ (b : Bool). if b then reference false (heap.Concrete (number (decimal k ++ codes ")"))) else
    other_long_read (decimal k ++ codes ")")) (number_first k small)
    ∙ ap (λ (n : ℕ). reference false (heap.Concrete n)) (number_back k small)

exact_back :
    (nullable : Bool) (k : ℕ) → k < 2 ^ 64 →
    read (val_text (reference nullable (heap.Exact k))) ≡ reference nullable (heap.Exact k)
exact_back true k small = ap (λ (n : ℕ). reference true (heap.Exact n)) (number_back k small)
exact_back false k small = ap (λ (n : ℕ). reference false (heap.Exact n)) (number_back k small)

abstract_back :
    (nullable : Bool) (a : AbstractHeapType) →
    read (val_text (reference nullable (heap.Abstract a))) ≡ reference nullable (heap.Abstract a)
abstract_back true abstract.Func = refl
abstract_back nullable abstract.Func = refl
abstract_back nullable a = refl

heap_back :
    (nullable : Bool) (h : Heap ℕ) → HasPlaces (reference nullable h) →
    read (val_text (reference nullable h)) ≡ reference nullable h
heap_back nullable (heap.Abstract a) small = abstract_back nullable a
heap_back nullable (heap.Concrete k) small = concrete_back nullable k small.0
heap_back nullable (heap.Exact k) small = exact_back nullable k small.0

val_back : (v : Val ℕ) → HasPlaces v → read (val_text v) ≡ v
val_back (val.Ref r) small = heap_back r.nullable r.heap_type small
val_back v small = refl

pub same_from_text : (v w : Val ℕ) → HasPlaces v → HasPlaces w → val_text v ≡ val_text w → v ≡ w
same_from_text v w small other e = sym (val_back v small) ∙ (ap read e ∙ val_back w other)
