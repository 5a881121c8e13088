use Rattle.std.proofs.Common.{[], ◌∷◌, Some, arith}
use Rattle.wasm_module.specs.Opcodes.{kinds_in, opcodes}
use Rattle.wasm_module.specs.Immediates.{and_then}
use Rattle.wasm_module.specs.Steps.Tables.{row_kinds}
use Rattle.wasm_module.proofs.Heads.{chosen_by_other, chosen_row}
use Rattle.wasm_module.proofs.head.behind_opcode.Goals as goal

pub returns : goal.returns
returns c =
    let kinds = kinds_in opcodes c.args.byte in
    let more = c.args.here ∷ [] in
    chosen_by_other c.behind_instruction.result c.args.byte 0x0B (Some []) (and_then kinds more)
    (λ e. omega (arith, e, c.if-byte-eq-END.false))
    (chosen_row c.behind_instruction.result (row_kinds c.instruction.result) kinds more c.instruction.ensures
    c.behind_instruction.ensures)
