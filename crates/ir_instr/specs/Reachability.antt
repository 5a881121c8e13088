-- After which instructions nothing of the same sequence is reached.
use Rattle.std.specs.Prelude.{Bool, true, false}
use Rattle.ir_instr.specs.declared.instr.Instr.{Instr}
use Rattle.ir_instr.specs.declared.instr.Instr.TheVariants as instr

-- the instruction traps, branches, returns or throws, whatever it finds
abbrev pub diverts : Instr → Bool
diverts (instr.Unreachable _) = true
diverts (instr.Br _) = true
diverts (instr.BrTable _) = true
diverts (instr.Return _) = true
diverts (instr.ReturnCall _) = true
diverts (instr.ReturnCallIndirect _) = true
diverts (instr.ReturnCallRef _) = true
diverts (instr.Throw _) = true
diverts (instr.ThrowRef _) = true
diverts (instr.Rethrow _) = true
diverts _ = false
