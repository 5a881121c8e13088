-- The bytes that stand for abstract heap types.
use Rattle.std.proofs.Common.{◌≡◌, ℕ, ◌<◌, ◌≤◌, ◌⊎◌, inl, inr, Option, Some, None, refl, ap, arith}
use Rattle.walrus_ty.specs.declared.ty.value.AbstractHeapType.{AbstractHeapType}
use Rattle.walrus_ty.specs.declared.ty.value.AbstractHeapType.TheVariants as abstract
use Rattle.wasm_binary.specs.Grammar.{heap_code}
use Rattle.wasm_binary.specs.Steps.Reading.{heap_type_of}
use Rattle.wasm_binary.proofs.Basics.{branch}

pub code_low : (a : AbstractHeapType) → 0x69 ≤ heap_code a
code_low abstract.NoExn = omega arith
code_low v = omega arith

pub code_high : (a : AbstractHeapType) → heap_code a ≤ 0x74
code_high abstract.NoExn = omega arith
code_high v = omega arith

pub code_read : (a : AbstractHeapType) → heap_type_of (heap_code a) ≡ Some a
unfolding heap_type_of
code_read abstract.NoExn = refl
code_read v = refl

code_is : (x a : AbstractHeapType) → Some x ≡ Some a → heap_code x ≡ heap_code a
code_is x a e = let same : x ≡ a = cc in ap heap_code same

pub code_from : (b : ℕ) (a : AbstractHeapType) → heap_type_of b ≡ Some a → b ≡ heap_code a
unfolding heap_type_of
code_from b a e =
    let P : ℕ → Type 0 = λ k. k ≡ heap_code a in
    branch P b 0x74 _ _ (Some a) e (code_is abstract.NoExn a) (λ h.
    branch P b 0x73 _ _ (Some a) h (code_is abstract.NoFunc a) (λ h.
    branch P b 0x72 _ _ (Some a) h (code_is abstract.NoExtern a) (λ h.
    branch P b 0x71 _ _ (Some a) h (code_is abstract.None a) (λ h.
    branch P b 0x70 _ _ (Some a) h (code_is abstract.Func a) (λ h.
    branch P b 0x6F _ _ (Some a) h (code_is abstract.Extern a) (λ h.
    branch P b 0x6E _ _ (Some a) h (code_is abstract.Any a) (λ h.
    branch P b 0x6D _ _ (Some a) h (code_is abstract.Eq a) (λ h.
    branch P b 0x6C _ _ (Some a) h (code_is abstract.I31 a) (λ h.
    branch P b 0x6B _ _ (Some a) h (code_is abstract.Struct a) (λ h.
    branch P b 0x6A _ _ (Some a) h (code_is abstract.Array a) (λ h.
    branch P b 0x69 _ _ (Some a) h (code_is abstract.Exn a) (λ h.
    absurd cc))))))))))))

-- what is no code of one
pub outside : (b : ℕ) → (b < 0x69) ⊎ (0x74 < b) → heap_type_of b ≡ None
outside b h = none (heap_type_of b) refl
  where
    none : (o : Option AbstractHeapType) → heap_type_of b ≡ o → o ≡ None
    none None is = refl
    none (Some a) is = absurd (elim h [
      | inl low ↦ omega (arith, low, code_from b a is, code_low a)
      | inr high ↦ omega (arith, high, code_from b a is, code_high a)
    ])
