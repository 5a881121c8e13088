-- How many bytes of memory a load reads, and whether it is atomic.
-- WebAssembly core specification, "Memory Instructions"; what is atomic is of the threads proposal.
use Rattle.std.specs.Prelude.{ℕ, Bool, true, false}
use Rattle.ir_operators.specs.declared.kinds.ExtendedLoad.{ExtendedLoad}
use Rattle.ir_operators.specs.declared.kinds.ExtendedLoad.TheVariants as extended
use Rattle.ir_operators.specs.declared.kinds.LoadKind.{LoadKind}
use Rattle.ir_operators.specs.declared.kinds.LoadKind.TheVariants as load

abbrev pub load_width : LoadKind → ℕ
load_width (load.I32_8 _) = 1
load_width (load.I64_8 _) = 1
load_width (load.I32_16 _) = 2
load_width (load.I64_16 _) = 2
load_width (load.I32 _) = 4
load_width (load.I64_32 _) = 4
load_width load.F32 = 4
load_width (load.I64 _) = 8
load_width load.F64 = 8
load_width load.V128 = 16

abbrev pub extended_is_atomic : ExtendedLoad → Bool
extended_is_atomic extended.ZeroExtendAtomic = true
extended_is_atomic _ = false

abbrev pub load_is_atomic : LoadKind → Bool
load_is_atomic (load.I32 atomic) = atomic
load_is_atomic (load.I64 atomic) = atomic
load_is_atomic load.F32 = false
load_is_atomic load.F64 = false
load_is_atomic load.V128 = false
load_is_atomic (load.I32_8 kind) = extended_is_atomic kind
load_is_atomic (load.I32_16 kind) = extended_is_atomic kind
load_is_atomic (load.I64_8 kind) = extended_is_atomic kind
load_is_atomic (load.I64_16 kind) = extended_is_atomic kind
load_is_atomic (load.I64_32 kind) = extended_is_atomic kind
