-- Visitors that look at instructions alone.
use Rattle.std.specs.Prelude.{ℕ, Option, None, Some}
use Rattle.ir_instr.specs.declared.instr.Instr.{Instr}
use Rattle.walrus_ir.specs.Calls.{Event, at}
use Rattle.walrus_ir.specs.Hooks.{visit_instr}

-- the instruction of an event, with its location
abbrev pub instr_in : Event → Option (Instr × ℕ)
instr_in (at visit_instr x) = Some x
instr_in _ = None
