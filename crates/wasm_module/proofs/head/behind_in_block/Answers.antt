use Rattle.std.proofs.Common.{[], ◌∷◌, Some, arith}
use Rattle.wasm_module.specs.declared.kind.Kind.TheVariants as kind
use Rattle.wasm_module.specs.Opcodes.{kinds_in, opcodes, label_index}
use Rattle.wasm_module.specs.Immediates.{and_then}
use Rattle.wasm_module.proofs.Heads.{chosen_by_third}
use Rattle.wasm_module.proofs.head.behind_in_block.Goals as goal

pub returns : goal.returns
returns c =
    chosen_by_third c.behind_opcode.result c.args.byte 0x0B 0x18 (Some []) (Some (label_index ∷ []))
    (and_then (kinds_in opcodes c.args.byte) (kind.Block ∷ []))
    (λ e. omega (arith, e, c.if-byte-eq-DELEGATE.false)) c.behind_opcode.ensures
