-- Value types: what is read has the text that stands there, and what has a text is read.
use Rattle.std.proofs.Common.{◌≡◌, ℕ, ◌^◌, ◌<◌, ◌≤◌, ◌⊎◌, inl, inr, true, false, nat_lt, nat_le, nat_eq, ◌||◌, List, [], ◌∷◌, ◌++◌, Option, Some, None, Ok, refl, sym, ap, subst, ◌∙◌, arith, ne_eqb, lt-ltb, le-ltb, le-leb}
use Rattle.walrus_ty.specs.declared.ty.value.AbstractHeapType.{AbstractHeapType}
use Rattle.walrus_ty.specs.declared.ty.value.Heap.{Heap}
use Rattle.walrus_ty.specs.declared.ty.value.Heap.TheVariants as heap
use Rattle.walrus_ty.specs.declared.ty.value.Reference.{Reference}
use Rattle.walrus_ty.specs.declared.ty.value.Val.TheVariants as val
use Rattle.wasm_binary.specs.Leb128.{IsInteger, last, more, IsU32, IsS33}
use Rattle.wasm_binary.specs.Grammar.{heap_code, IsHeapType, abstract_type, index, exact_index, reference, IsRefType, written_out, abbreviated, IsValType, i32, i64, f32, f64, v128, ref}
use Rattle.wasm_binary.specs.Steps.Reading.{u32_at, s33_at, heap_type_of, index_at, abstract_or, heap_at, abbreviated_or, reference_at, val_at}
use Rattle.wasm_binary.proofs.Basics.{Reading, Takes, IsSound, IsComplete, done, split, branch, one_takes, map_takes}
use Rattle.wasm_binary.proofs.Codes.{code_low, code_high, code_read, code_from, outside}
use Rattle.wasm_binary.proofs.Integers.{u32_sound, u32_complete, s33_sound, s33_complete}

-- ---- heap types

index_takes : (b : ℕ) (bytes : List ℕ) (v : Heap ℕ) (rest : List ℕ) → index_at b bytes ≡ Ok (v, rest) →
    Takes IsHeapType bytes v rest
unfolding index_at
index_takes b bytes v rest e =
    split (nat_lt b 0x40 || nat_le 0x80 b) _ _ (Ok (v, rest)) e
    (map_takes IsS33 IsHeapType s33_at (λ k. heap.Concrete k) [] s33_sound (λ t a h. index t a h) bytes v
    rest)
    (λ h. split (nat_eq b 0x65) _ _ (Ok (v, rest)) h (λ k. absurd cc) (λ k.
    split (nat_eq b 0x68 || nat_eq b 0x75) _ _ (Ok (v, rest)) k (λ q. absurd cc) (λ q. absurd cc)))

abstract_takes : (b : ℕ) (bytes : List ℕ) (v : Heap ℕ) (rest : List ℕ) (o : Option AbstractHeapType) →
    heap_type_of b ≡ o → abstract_or b bytes o ≡ Ok (v, rest) → Takes IsHeapType (b ∷ bytes) v rest
abstract_takes b bytes v rest (Some a) is e =
    subst (λ k. Takes IsHeapType (k ∷ bytes) v rest) (sym (code_from b a is))
    (one_takes IsHeapType (heap_code a) bytes (heap.Abstract a) v rest (abstract_type a) e)
abstract_takes b bytes v rest None is e = index_takes b (b ∷ bytes) v rest e

pub heap_sound : IsSound IsHeapType heap_at
unfolding heap_at
heap_sound [] v rest e = absurd cc
heap_sound (b ∷ bytes) v rest e =
    branch (λ k. Takes IsHeapType (k ∷ bytes) v rest) b 0x62 _ _ (Ok (v, rest)) e
    (map_takes IsU32 IsHeapType u32_at (λ k. heap.Exact k) (0x62 ∷ []) u32_sound (λ t a h. exact_index t a h)
    bytes v rest)
    (λ h. abstract_takes b bytes v rest (heap_type_of b) refl h)

-- a first byte of an index
abbrev IsFirst : ℕ → Type 0
IsFirst b = (b < 0x40) ⊎ (0x80 ≤ b)

first_test : (b : ℕ) → IsFirst b → (nat_lt b 0x40 || nat_le 0x80 b) ≡ true
first_test b (inl low) = rw (lt-ltb b 0x40 low) refl
first_test b (inr high) = rw (le-ltb b 0x40 (omega (arith, high)), le-leb 0x80 b high) refl

first_other : (b : ℕ) → IsFirst b → (heap_type_of b ≡ None) × (nat_eq b 0x62 ≡ false)
first_other b (inl low) = (outside b (inl (omega (arith, low))), ne_eqb b 0x62 (λ q. omega (arith, q, low)))
first_other b (inr high) = (
  outside b (inr (omega (arith, high))),
  ne_eqb b 0x62 (λ q. omega (arith, q, high)),
)

index_reads : (b : ℕ) (bytes : List ℕ) (k : ℕ) (rest : List ℕ) → IsFirst b →
    s33_at (b ∷ bytes) ≡ Ok (k, rest) → heap_at (b ∷ bytes) ≡ Ok (heap.Concrete k, rest)
unfolding heap_at index_at
index_reads b bytes k rest first e =
    let f = first_other b first in
    rw (f.1, f.0, first_test b first, e) refl

index_again : (end limit : ℕ) (text : List ℕ) (k : ℕ) (rest : List ℕ) → end ≡ 0x40 → limit ≡ 2 ^ 32 →
    IsInteger end limit text k → s33_at (text ++ rest) ≡ Ok (k, rest) →
    heap_at (text ++ rest) ≡ Ok (heap.Concrete k, rest)
index_again end _ _ _ rest at-end _ (last limit b low ends fits) e =
    index_reads b rest b rest (inl (omega (arith, at-end, ends))) e
index_again end _ _ _ rest at-end _ (more limit b high bytes big byte wide texts) e =
    index_reads b (bytes ++ rest) _ rest (inr big) e

pub heap_complete : IsComplete IsHeapType heap_at
unfolding heap_at
heap_complete _ _ rest (abstract_type a) =
    rw (ne_eqb (heap_code a) 0x62 (λ q. omega (arith, q, code_low a)), code_read a) refl
heap_complete _ _ rest (index text k h) = index_again
    0x40 (2 ^ 32) text k rest refl refl h (s33_complete text k rest h)
heap_complete _ _ rest (exact_index text k h) = rw (u32_complete text k rest h) refl

-- ---- reference types

abbreviated_takes : (b : ℕ) (bytes : List ℕ) (v : Reference ℕ) (rest : List ℕ) (o : Option AbstractHeapType) →
    heap_type_of b ≡ o → abbreviated_or b bytes o ≡ Ok (v, rest) → Takes IsRefType (b ∷ bytes) v rest
abbreviated_takes b bytes v rest (Some a) is e =
    subst (λ k. Takes IsRefType (k ∷ bytes) v rest) (sym (code_from b a is))
    (one_takes IsRefType (heap_code a) bytes (reference true (heap.Abstract a)) v rest (abbreviated a) e)
abbreviated_takes b bytes v rest None is e =
    split (nat_eq b 0x65) _ _ (Ok (v, rest)) e (λ q. absurd cc) (λ q.
    split (nat_eq b 0x68 || nat_eq b 0x75) _ _ (Ok (v, rest)) q (λ q1. absurd cc) (λ q1. absurd cc))

pub reference_sound : IsSound IsRefType reference_at
unfolding reference_at
reference_sound [] v rest e = absurd cc
reference_sound (b ∷ bytes) v rest e =
    branch (λ k. Takes IsRefType (k ∷ bytes) v rest) b 0x63 _ _ (Ok (v, rest)) e
    (map_takes IsHeapType IsRefType heap_at (λ h. reference true h) (0x63 ∷ []) heap_sound (λ t a h.
    written_out t true a h) bytes v rest)
    (λ q. branch (λ k. Takes IsRefType (k ∷ bytes) v rest) b 0x64 _ _ (Ok (v, rest)) q
    (map_takes IsHeapType IsRefType heap_at (λ h. reference false h) (0x64 ∷ []) heap_sound (λ t a h.
    written_out t false a h) bytes v rest)
    (λ h. abbreviated_takes b bytes v rest (heap_type_of b) refl h))

pub reference_complete : IsComplete IsRefType reference_at
unfolding reference_at
reference_complete _ _ rest (written_out text true h t) = rw (heap_complete text h rest t) refl
reference_complete _ _ rest (written_out text false h t) = rw (heap_complete text h rest t) refl
reference_complete _ _ rest (abbreviated a) =
    rw (
      ne_eqb (heap_code a) 0x63 (λ q. omega (arith, q, code_low a)),
      ne_eqb (heap_code a) 0x64 (λ q. omega (arith, q, code_low a)),
      code_read a,
    ) refl

-- ---- value types

pub val_sound : IsSound IsValType val_at
unfolding val_at
val_sound [] v rest e = absurd cc
val_sound (b ∷ bytes) v rest e =
    let P : ℕ → Type 0 = λ k. Takes IsValType (k ∷ bytes) v rest in
    branch P b 0x7F _ _ (Ok (v, rest)) e (one_takes IsValType 0x7F bytes val.I32 v rest i32) (λ e1.
    branch P b 0x7E _ _ (Ok (v, rest)) e1 (one_takes IsValType 0x7E bytes val.I64 v rest i64) (λ e2.
    branch P b 0x7D _ _ (Ok (v, rest)) e2 (one_takes IsValType 0x7D bytes val.F32 v rest f32) (λ e3.
    branch P b 0x7C _ _ (Ok (v, rest)) e3 (one_takes IsValType 0x7C bytes val.F64 v rest f64) (λ e4.
    branch P b 0x7B _ _ (Ok (v, rest)) e4 (one_takes IsValType 0x7B bytes val.V128 v rest v128)
    (map_takes IsRefType IsValType reference_at (λ r. val.Ref r) [] reference_sound (λ t a h. ref t a h)
    (b ∷ bytes) v rest)))))

-- the first byte of a text, within bounds
pub record Begins (bytes : List ℕ) (low high : ℕ) : Type 0 where
  pub first : ℕ
  pub others : List ℕ
  pub is : bytes ≡ first ∷ others
  pub from : low ≤ first
  pub to : first ≤ high

pub begins_with : {low high : ℕ} (b : ℕ) (others : List ℕ) → low ≤ b → b ≤ high → Begins (b ∷ others) low high
begins_with b others from to = record { first = b; others = others; is = refl; from = from; to = to }

-- what reads on from such a byte as another reading reads, reads on from the text so
pub again_from : {A B : Type 0} {text : List ℕ} {low high : ℕ} (reads : List ℕ → Reading A)
    (reads_on : List ℕ → Reading B) (x : A) (y : B) (rest : List ℕ) → Begins text low high →
    reads (text ++ rest) ≡ done x rest →
    ((b : ℕ) (bytes : List ℕ) → low ≤ b → b ≤ high → reads (b ∷ bytes) ≡ done x rest →
    reads_on (b ∷ bytes) ≡ done y rest) → reads_on (text ++ rest) ≡ done y rest
again_from reads reads_on x y rest b read on =
    let is = ap (λ (u : List ℕ). u ++ rest) b.is in
    ap reads_on is ∙ on b.first (b.others ++ rest) b.from b.to (ap reads (sym is) ∙ read)

pub ref_begins : (text : List ℕ) (r : Reference ℕ) → IsRefType text r → Begins text 0x63 0x74
ref_begins _ _ (written_out text true h t) =
    begins_with 0x63 text (omega arith) (omega arith)
ref_begins _ _ (written_out text false h t) =
    begins_with 0x64 text (omega arith) (omega arith)
ref_begins _ _ (abbreviated a) = begins_with (heap_code a) [] (omega (arith, code_low a)) (code_high a)

ref_reads : (r : Reference ℕ) (rest : List ℕ) (b : ℕ) (bytes : List ℕ) → 0x63 ≤ b → b ≤ 0x74 →
    reference_at (b ∷ bytes) ≡ Ok (r, rest) → val_at (b ∷ bytes) ≡ Ok (val.Ref r, rest)
unfolding val_at
ref_reads r rest b bytes from to e =
    rw (
      ne_eqb b 0x7F (λ q. omega (arith, q, to)),
      ne_eqb b 0x7E (λ q. omega (arith, q, to)),
      ne_eqb b 0x7D (λ q. omega (arith, q, to)),
      ne_eqb b 0x7C (λ q. omega (arith, q, to)),
      ne_eqb b 0x7B (λ q. omega (arith, q, to)),
      e,
    ) refl

pub val_complete : IsComplete IsValType val_at
unfolding val_at
val_complete _ _ rest (ref text r t) =
    again_from reference_at val_at r (val.Ref r) rest (ref_begins text r t) (reference_complete text r rest t)
    (ref_reads r rest)
val_complete _ _ rest v = refl
