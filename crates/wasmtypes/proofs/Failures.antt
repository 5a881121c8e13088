-- The exit status of a failure, and what it says of the bytes.
use Rattle.std.proofs.Common.{◌≡◌, ◌∙◌, ℕ, List, Option, None, Some, ◌⊎◌, inl, inr, refl, sym, arith}
use Rattle.std.specs.Prelude.{IfSome}
use Rattle.wasm_binary.specs.ModuleSections.{HasBadTypes}
use Rattle.wasm_binary.specs.declared.error.DecodeError.TheVariants as decode
use Rattle.wasmtypes.specs.declared.failure.Failure.{Failure}
use Rattle.wasmtypes.specs.declared.failure.Failure.TheVariants as failure
use Rattle.wasmtypes.specs.Steps.Failures.{Explains, status_of}

pub status_range : (f : Failure) → (status_of f ≡ 1) ⊎ (status_of f ≡ 3) ⊎ (status_of f ≡ 4)
status_range (failure.Refused (decode.Malformed offset expected) context) = inl refl
status_range (failure.Refused (decode.NotHeld offset what) context) = inl refl
status_range (failure.Refused decode.Memory context) = inr (inl refl)
status_range failure.Memory = inr (inl refl)
status_range (failure.Input error) = inr (inr refl)
status_range (failure.Output error) = inr (inr refl)

explains_bad_types : (f : Failure) (bytes : List ℕ) → Explains f bytes → status_of f ≡ 1 → HasBadTypes bytes
explains_bad_types (failure.Refused (decode.Malformed offset expected) context) bytes why is = why.0
explains_bad_types (failure.Refused (decode.NotHeld offset what) context) bytes why is = why.0
explains_bad_types (failure.Refused decode.Memory context) bytes why is = absurd (omega (arith, is))
explains_bad_types failure.Memory bytes why is = absurd (omega (arith, is))
explains_bad_types (failure.Input error) bytes why is = absurd (omega (arith, is))
explains_bad_types (failure.Output error) bytes why is = absurd (omega (arith, is))

pub known_bad_types :
    (known : Option (List ℕ)) (f : Failure) (result : ℕ) → IfSome known (λ bytes. Explains f bytes)
    → (result ≡ status_of f) ⊎ (result ≡ 4) → result ≡ 1 → IfSome known (λ bytes. HasBadTypes bytes)
known_bad_types None f result why status is = tt
known_bad_types (Some bytes) f result why (inl e) is = explains_bad_types f bytes why (sym e ∙ is)
known_bad_types (Some bytes) f result why (inr e) is = absurd (omega (arith, sym e ∙ is))
