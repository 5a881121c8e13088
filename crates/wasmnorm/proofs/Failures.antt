-- The exit status of a failure, and what it says of the bytes.
use Rattle.std.proofs.Common.{◌≡◌, ◌∙◌, ◌≤◌, ◌⊎◌, inl, inr, ℕ, List, Option, None, Some, Result, Ok, Err, sym, subst, arith}
use Rattle.std.specs.Prelude.{IfErr, IfSome, IsErrAnd}
use Rattle.wasm_normalise.specs.declared.error.NormaliseModuleError.{NormaliseModuleError}
use Rattle.wasm_normalise.specs.declared.error.NormaliseModuleError.TheVariants as error
use Rattle.wasmnorm.specs.declared.failure.Failure.{Failure}
use Rattle.wasmnorm.specs.declared.failure.Failure.TheVariants as failure
use Rattle.wasmnorm.specs.Runs.{IsRefused, IsRejected, refused_status}
use Rattle.wasmnorm.specs.declared.options.RunOptions.{RunOptions}
use Rattle.wasmnorm.specs.Steps.Failures.{Explains, IsOfStreams, status_of}

error_range : (e : NormaliseModuleError) → refused_status e ≤ 4
error_range (error.Types e) = omega arith
error_range (error.BadIndex entry index end) = omega arith
error_range error.TooMany = omega arith
error_range (error.Malformed place) = omega arith
error_range (error.UnknownType index count place) = omega arith
error_range error.TooLong = omega arith
error_range (error.Outdated offset) = omega arith
error_range error.Memory = omega arith

pub status_range : (f : Failure) → status_of f ≤ 4
status_range (failure.Refused e context advice) = error_range e
status_range (failure.Rejected h) = omega arith
status_range failure.Memory = omega arith
status_range failure.Keys = omega arith
status_range (failure.Input error) = omega arith
status_range (failure.Output error) = omega arith

explains_refused :
    (options : RunOptions) (bytes : List ℕ) (f : Failure) → Explains options bytes f → status_of f ≡ 1
    → IsRefused options.normalise 1 bytes ⊎ IsRejected options bytes
explains_refused options bytes (failure.Refused e context advice) why is =
    inl (record { error = e; has_status = is; explains = why.0 })
explains_refused options bytes (failure.Rejected w) why is =
    inr (record { is_strict = why.0; hazard = w.hazard; has = why.1.0 })
explains_refused options bytes failure.Memory why is = absurd (omega (arith, is))
explains_refused options bytes failure.Keys why is = absurd (omega (arith, is))
explains_refused options bytes (failure.Input error) why is = absurd (omega (arith, is))
explains_refused options bytes (failure.Output error) why is = absurd (omega (arith, is))

explains_ill_named :
    (options : RunOptions) (bytes : List ℕ) (f : Failure) → Explains options bytes f → status_of f ≡ 2
    → IsRefused options.normalise 2 bytes
explains_ill_named options bytes (failure.Refused e context advice) why is =
    record { error = e; has_status = is; explains = why.0 }
explains_ill_named options bytes (failure.Rejected w) why is = absurd (omega (arith, is))
explains_ill_named options bytes failure.Memory why is = absurd (omega (arith, is))
explains_ill_named options bytes failure.Keys why is = absurd (omega (arith, is))
explains_ill_named options bytes (failure.Input error) why is = absurd (omega (arith, is))
explains_ill_named options bytes (failure.Output error) why is = absurd (omega (arith, is))

pub known_refused :
    (options : RunOptions) (known : Option (List ℕ)) (f : Failure) (result : ℕ)
    → IfSome known (λ bytes. Explains options bytes f)
    → (result ≡ status_of f) ⊎ (result ≡ 4) → result ≡ 1
    → IfSome known (λ bytes. IsRefused options.normalise 1 bytes ⊎ IsRejected options bytes)
known_refused options None f result why status is = tt
known_refused options (Some bytes) f result why (inl e) is = explains_refused options bytes f why (sym e ∙ is)
known_refused options (Some bytes) f result why (inr e) is = absurd (omega (arith, sym e ∙ is))

pub known_ill_named :
    (options : RunOptions) (known : Option (List ℕ)) (f : Failure) (result : ℕ)
    → IfSome known (λ bytes. Explains options bytes f)
    → (result ≡ status_of f) ⊎ (result ≡ 4) → result ≡ 2 → IfSome known (IsRefused options.normalise 2)
known_ill_named options None f result why status is = tt
known_ill_named options (Some bytes) f result why (inl e) is =
    explains_ill_named options bytes f why (sym e ∙ is)
known_ill_named options (Some bytes) f result why (inr e) is = absurd (omega (arith, sym e ∙ is))

-- a stream failed, or memory was refused, which says nothing of the bytes
pub stream_explains :
    (options : RunOptions) (bytes : List ℕ) (f : Failure) → IsOfStreams f → Explains options bytes f
stream_explains options bytes (failure.Refused e context advice) h = absurd h
stream_explains options bytes (failure.Rejected w) h = absurd h
stream_explains options bytes failure.Memory h = tt
stream_explains options bytes failure.Keys h = tt
stream_explains options bytes (failure.Input e) h = tt
stream_explains options bytes (failure.Output e) h = tt

pub known_of_streams :
    (options : RunOptions) (known : Option (List ℕ)) (f : Failure)
    → IsOfStreams f → IfSome known (λ bytes. Explains options bytes f)
known_of_streams options None f h = tt
known_of_streams options (Some bytes) f h = stream_explains options bytes f h

-- the error that `?` passes on
pub error_kept :
    {A : Type 0} (P : Failure → Type 0) (result : Result A Failure) (f : Failure)
    → IsErrAnd result (λ e. e ≡ f) → P f → IfErr result P
error_kept P (Ok x) f is why = tt
error_kept P (Err e) f is why = subst P (sym is) why
