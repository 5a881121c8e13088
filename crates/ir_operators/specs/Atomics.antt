-- How many bytes of memory an atomic instruction of the threads proposal touches.
use Rattle.std.specs.Prelude.{ℕ}
use Rattle.ir_operators.specs.declared.atomics.AtomicWidth.{AtomicWidth}
use Rattle.ir_operators.specs.declared.atomics.AtomicWidth.TheVariants as width

abbrev pub atomic_width : AtomicWidth → ℕ
atomic_width width.I32_8 = 1
atomic_width width.I64_8 = 1
atomic_width width.I32_16 = 2
atomic_width width.I64_16 = 2
atomic_width width.I32 = 4
atomic_width width.I64_32 = 4
atomic_width width.I64 = 8
