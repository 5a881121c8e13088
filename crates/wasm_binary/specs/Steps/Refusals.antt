-- The error that a fault in bytes of this length is.
use Rattle.std.specs.Prelude.{ℕ, ◌-◌, ◌≤◌}
use Rattle.wasm_binary.specs.declared.error.DecodeError.{DecodeError}
use Rattle.wasm_binary.specs.declared.error.DecodeError.TheVariants as decode
use Rattle.wasm_binary.specs.declared.error.Reason.{Reason}
use Rattle.wasm_binary.specs.declared.error.Reason.TheVariants as reason
use Rattle.wasm_binary.specs.declared.error.Fault.{Fault}
use Rattle.wasm_binary.specs.declared.error.RawReadError.{RawReadError}
use Rattle.wasm_binary.specs.declared.error.RawReadError.TheVariants as errors

abbrev pub with_reason : ℕ → Reason → DecodeError
with_reason offset (reason.Expected expected) = decode.Malformed offset expected
with_reason offset (reason.NotHeld what) = decode.NotHeld offset what

abbrev pub refusal : ℕ → Fault → DecodeError
refusal len fault = with_reason (len - fault.left) fault.reason

-- no more bytes are left at a fault than these
abbrev pub IsWithin : ℕ → ℕ → RawReadError → Type 0
IsWithin len left (errors.Reason r) = left ≤ len
IsWithin len left errors.Memory = Unit {0}

abbrev pub error_refusal : ℕ → ℕ → RawReadError → DecodeError
error_refusal len left (errors.Reason r) = refusal len (record { left = left; reason = r })
error_refusal len left errors.Memory = decode.Memory
