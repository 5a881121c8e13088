-- How many bytes of memory a store writes, and whether it is atomic.
-- WebAssembly core specification, "Memory Instructions"; what is atomic is of the threads proposal.
use Rattle.std.specs.Prelude.{ℕ, Bool, false}
use Rattle.ir_operators.specs.declared.kinds.StoreKind.{StoreKind}
use Rattle.ir_operators.specs.declared.kinds.StoreKind.TheVariants as store

abbrev pub store_width : StoreKind → ℕ
store_width (store.I32_8 _) = 1
store_width (store.I64_8 _) = 1
store_width (store.I32_16 _) = 2
store_width (store.I64_16 _) = 2
store_width (store.I32 _) = 4
store_width (store.I64_32 _) = 4
store_width store.F32 = 4
store_width (store.I64 _) = 8
store_width store.F64 = 8
store_width store.V128 = 16

abbrev pub store_is_atomic : StoreKind → Bool
store_is_atomic (store.I32 atomic) = atomic
store_is_atomic (store.I64 atomic) = atomic
store_is_atomic store.F32 = false
store_is_atomic store.F64 = false
store_is_atomic store.V128 = false
store_is_atomic (store.I32_8 atomic) = atomic
store_is_atomic (store.I32_16 atomic) = atomic
store_is_atomic (store.I64_8 atomic) = atomic
store_is_atomic (store.I64_16 atomic) = atomic
store_is_atomic (store.I64_32 atomic) = atomic
