-- What a function and a builder of a sequence end as, where a call returns a `&mut` into them.
use denote.RattleType.{RattleType}
use denote.Struct.Tuple.{Tuple}
use mir.Syntax.{named}
use Rattle.std.specs.Prelude.{[], ◌∷◌}
use Rattle.std.specs.contracts.alloc.Global as global
use Rattle.std.specs.contracts.vec.Vec as vec
use Rattle.std.specs.contracts.impls.GlobalAllocator.TheImpl.{ghosts}
use Rattle.ir_instr.specs.contracts.instr.Instr.{the_row as instr_row}
use Rattle.ir_instr.specs.contracts.instr_loc_id.InstrLocId.{the_row as location_row}
use Rattle.walrus_functions.specs.contracts.function_builder.FunctionBuilder.{the_row as fn_row}
use Rattle.walrus_functions.specs.contracts.function_builder.instr_seq_builder.InstrSeqBuilder.{the_row as builder_row}

-- the type of a sequence's list of instructions
abbrev pub instrs_row : RattleType
instrs_row = vec.the_row (Tuple (instr_row ∷ location_row ∷ [])) global.the_row ghosts

-- the type of a builder of a function
abbrev pub function_row : RattleType
function_row = fn_row

-- the type of a builder of a sequence, in its methods
abbrev pub self_row : RattleType
self_row = builder_row (record { mir = named 1; lft = [] })
