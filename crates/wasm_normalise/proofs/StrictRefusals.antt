-- What the errors of the steps of `strict_canonical_module` say.
use Rattle.std.proofs.Common.{◌≡◌, ℕ, List, Result, Ok, Err, sym, subst}
use Rattle.std.specs.Prelude.{IfErr, IsErrAnd}
use Rattle.std.specs.Borrow.{Bor}
use Rattle.wasm_normalise.specs.CanonicalModules.{IsRefusedBy}
use Rattle.wasm_normalise.specs.StrictErrors.{IsStrictError}
use Rattle.wasm_normalise.specs.declared.error.NormaliseModuleError.{NormaliseModuleError}
use Rattle.wasm_normalise.specs.declared.options.NormaliseOptions.{NormaliseOptions}
use Rattle.wasm_normalise.specs.declared.strict.StrictError.{StrictError}
use Rattle.wasm_normalise.specs.declared.strict.StrictError.TheVariants as failure

-- an error of a step ends the call
pub step_refused :
    {A : Type 0} (options : NormaliseOptions) (allowed : List (Bor (List ℕ))) (bytes : List ℕ)
    (result : Result A StrictError)
    (e : NormaliseModuleError) → IsErrAnd result (λ x. x ≡ failure.Refused e)
    → IsRefusedBy options bytes e → IfErr result (IsStrictError options allowed bytes)
step_refused options allowed bytes (Ok new) e is why = tt
step_refused options allowed bytes (Err x) e is why =
    subst (λ y. IsStrictError options allowed bytes y) (sym is) why
