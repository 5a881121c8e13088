-- What a failure says of the bytes, `Explains`, and the exit status that it has.
use Rattle.std.specs.Prelude.{◌≡◌, ℕ, ◌-◌, List}
use Rattle.wasm_normalise.specs.declared.error.NormaliseModuleError.{NormaliseModuleError}
use Rattle.wasm_normalise.specs.declared.error.NormaliseModuleError.TheVariants as error
use Rattle.error_context.specs.declared.context.Context.{Context}
use Rattle.error_context.specs.Contexts.{IsContext, IsErrorContext}
use Rattle.wasmnorm.specs.Judged.{ExplainsError}
use Rattle.wasmnorm.specs.Runs.{refused_status}
use Rattle.wasmnorm.specs.Steps.Warnings.{IsWarning}
use Rattle.wasmnorm.specs.declared.failure.Failure.{Failure}
use Rattle.wasmnorm.specs.declared.failure.Failure.TheVariants as failure
use Rattle.wasmnorm.specs.declared.options.RunOptions.{RunOptions}
use Rattle.wasmnorm.specs.declared.options.Strictness.TheVariants.{Strict}

-- the context that it is reported with
abbrev pub HasContext : List ℕ → NormaliseModuleError → Context → Type 0
HasContext bytes (error.Types e) context = IsErrorContext context bytes e
HasContext bytes (error.BadIndex entry index end) context = Unit {0}
HasContext bytes error.TooMany context = Unit {0}
HasContext bytes (error.Malformed place) context = Unit {0}
HasContext bytes (error.UnknownType index count place) context =
    IsContext context bytes (place - 1)
HasContext bytes error.TooLong context = Unit {0}
HasContext bytes (error.Outdated offset) context = IsContext context bytes offset
HasContext bytes error.Memory context = Unit {0}

-- what a failure says of the bytes and of the options
abbrev pub Explains : RunOptions → List ℕ → Failure → Type 0
Explains options bytes (failure.Refused e context advice) =
    ExplainsError options.normalise bytes e × HasContext bytes e context
Explains options bytes (failure.Rejected w) = (options.strictness ≡ Strict) × IsWarning options.allowed.now bytes w
Explains options bytes failure.Memory = Unit {0}
Explains options bytes failure.Keys = Unit {0}
Explains options bytes (failure.Input error) = Unit {0}
Explains options bytes (failure.Output error) = Unit {0}

abbrev pub status_of : Failure → ℕ
status_of (failure.Refused e context advice) = refused_status e
status_of (failure.Rejected w) = 1
status_of failure.Memory = 3
status_of failure.Keys = 4
status_of (failure.Input error) = 4
status_of (failure.Output error) = 4

-- it says nothing of the bytes: a stream failed, or memory was refused
abbrev pub IsOfStreams : Failure → Type 0
IsOfStreams (failure.Refused e context advice) = ⊥
IsOfStreams (failure.Rejected w) = ⊥
IsOfStreams failure.Memory = Unit {0}
IsOfStreams failure.Keys = Unit {0}
IsOfStreams (failure.Input error) = Unit {0}
IsOfStreams (failure.Output error) = Unit {0}
