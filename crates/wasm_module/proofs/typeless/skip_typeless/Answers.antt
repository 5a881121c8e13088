use Rattle.std.proofs.Common.{[], ◌∷◌}
use Rattle.wasm_module.specs.declared.kind.Kind.TheVariants as kind
use Rattle.wasm_module.proofs.TypelessInstructions.{passed_none, instructions_of, block_has, expression_has}
use Rattle.wasm_module.proofs.typeless.skip_typeless.Goals as goal

pub returns-in-Block : goal.returns-in-Block
returns-in-Block c =
    instructions_of c.args.kind kind.Block c.args.input.now.now c.skip_instructions.new.input.now c.in-Block.is
    block_has c.skip_instructions.ensures

pub returns-in-Expression : goal.returns-in-Expression
returns-in-Expression c =
    instructions_of c.args.kind kind.Expression c.args.input.now.now
    c.skip_instructions-in-Expression.new.input.now c.in-Expression.is expression_has
    c.skip_instructions-in-Expression.ensures

pub returns-in_default : goal.returns-in_default
returns-in_default c = passed_none (c.args.kind ∷ []) c.args.input.now.now
