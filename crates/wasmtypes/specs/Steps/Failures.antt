-- What a failure says of the bytes, `Explains`, and the exit status that it has.
use Rattle.std.specs.Prelude.{ℕ, List, IfSome}
use Rattle.wasm_binary.specs.declared.error.DecodeError.{DecodeError}
use Rattle.wasm_binary.specs.declared.error.DecodeError.TheVariants as decode
use Rattle.wasm_binary.specs.Faults.{error_offset}
use Rattle.wasmtypes.specs.declared.failure.Failure.{Failure}
use Rattle.wasmtypes.specs.declared.failure.Failure.TheVariants as failure
use Rattle.wasm_binary.specs.ModuleSections.{HasBadTypes}
use Rattle.error_context.specs.Contexts.{IsErrorContext}

-- what a failure says of the bytes
abbrev pub Explains : Failure → List ℕ → Type 0
Explains (failure.Refused e context) bytes =
    IfSome (error_offset e) (λ place. HasBadTypes bytes) × IsErrorContext context bytes e
Explains failure.Memory bytes = Unit {0}
Explains (failure.Input error) bytes = Unit {0}
Explains (failure.Output error) bytes = Unit {0}

abbrev pub decode_status : DecodeError → ℕ
decode_status (decode.Malformed offset expected) = 1
decode_status (decode.NotHeld offset what) = 1
decode_status decode.Memory = 3

abbrev pub status_of : Failure → ℕ
status_of (failure.Refused e context) = decode_status e
status_of failure.Memory = 3
status_of (failure.Input error) = 4
status_of (failure.Output error) = 4

-- it says nothing of the bytes: a stream failed, or memory was refused
abbrev pub IsOfStreams : Failure → Type 0
IsOfStreams (failure.Refused e context) = ⊥
IsOfStreams failure.Memory = Unit {0}
IsOfStreams (failure.Input error) = Unit {0}
IsOfStreams (failure.Output error) = Unit {0}
