-- What a list of locals ends as, where a `&mut` to one of them is returned.
use Rattle.std.specs.Prelude.{ℕ, List, slice_set}
use Rattle.std.specs.Borrow.{Lends, Fml, MutBor}
use Rattle.ir_instr.specs.Locals.{LocalVariable}
use Rattle.ir_instr.specs.contracts.locals.Local.{the_row as local_row}
use Rattle.ir_instr.specs.contracts.locals.ModuleLocals.{the_row as locals_row}

-- once the borrow of the local ends, the id has the last one written through it
abbrev pub LendsLocal : MutBor (List LocalVariable) → ℕ → MutBor LocalVariable → Fml
LendsLocal locals id variable = Lends locals_row local_row locals variable (slice_set locals.now id)
