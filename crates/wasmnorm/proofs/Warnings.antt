-- What follows from the first warning of bytes: a line, or why the module is rejected.
use Rattle.std.proofs.Common.{◌≡◌, ℕ, List, Option, None, Some, inl, inr, subst}
use Rattle.std.specs.Prelude.{IfSome}
use Rattle.std.specs.Borrow.{Bor}
use Rattle.wasmnorm.specs.Runs.{WarnsAtMost, IsWarned, not_warned, of_hazard}
use Rattle.wasmnorm.specs.Steps.Failures.{Explains}
use Rattle.wasmnorm.specs.Steps.Warnings.{IsFirstWarning, WarnsOf}
use Rattle.wasmnorm.specs.declared.failure.Failure.TheVariants as failure
use Rattle.wasmnorm.specs.declared.options.RunOptions.{RunOptions}
use Rattle.wasmnorm.specs.declared.options.Strictness.TheVariants.{Strict}
use Rattle.wasmnorm.specs.declared.warning.Warning.{Warning}

pub warns_at_most :
    (w : Option Warning) (old new : Option (List ℕ)) → WarnsOf w old new → WarnsAtMost old new
warns_at_most None old new kept = inl kept
warns_at_most (Some w) old new line = inr line

warning_warned :
    (allowed : List (Bor (List ℕ))) (bytes : List ℕ) (w : Option Warning) (old new : Option (List ℕ))
    → IsFirstWarning allowed bytes w → WarnsOf w old new → IsWarned allowed bytes old new
warning_warned allowed bytes None old new safe kept = not_warned safe kept
warning_warned allowed bytes (Some w) old new is line =
    of_hazard w.hazard is.0 line

pub known_warned :
    (allowed : List (Bor (List ℕ))) (known : Option (List ℕ)) (read lent : List ℕ) (w : Option Warning)
    (old new : Option (List ℕ))
    → IfSome known (λ bytes. read ≡ bytes) → lent ≡ read → IsFirstWarning allowed lent w
    → WarnsOf w old new → IfSome known (λ bytes. IsWarned allowed bytes old new)
known_warned allowed None read lent w old new is same first warns = tt
known_warned allowed (Some bytes) read lent w old new is same first warns =
    warning_warned allowed bytes w old new
    (subst (λ (b : List ℕ). IsFirstWarning allowed b w) is
    (subst (λ (b : List ℕ). IsFirstWarning allowed b w) same first)) warns

pub warning_rejected :
    (options : RunOptions) (bytes : List ℕ) (found : Option Warning) (w : Warning)
    → IsFirstWarning options.allowed.now bytes found → found ≡ Some w → options.strictness ≡ Strict
    → Explains options bytes (failure.Rejected w)
warning_rejected options bytes found w first is strict =
    (strict, subst (λ o. IsFirstWarning options.allowed.now bytes o) is first)
