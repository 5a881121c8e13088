use Rattle.std.proofs.Common.{◌∙◌, [], ap}
use Rattle.wasm_module.specs.declared.kind.Kind.TheVariants as kind
use Rattle.wasm_module.specs.declared.kind.Immediates.TheVariants as immediates
use Rattle.wasm_module.proofs.Changing.{some_weaker}
use Rattle.wasm_module.proofs.TypelessInstructions.{passed_beginning, bare_at_prefix, passed_at_prefix, shorter_behind_first}
use Rattle.wasm_module.proofs.typeless.behind_instruction.Goals as goal

pub returns-in-Zero-clause-passed : goal.returns-in-Zero-clause-passed
returns-in-Zero-clause-passed c =
    bare_at_prefix c.args.bytes.now c.instruction.result c.in-len1-up.len_at_least c.in-Zero.is
    c.instruction.ensures

pub returns-in-One-MemArg-clause-passed : goal.returns-in-One-MemArg-clause-passed
returns-in-One-MemArg-clause-passed c =
    some_weaker c.behind_mem_arg.result _ _
    (λ rest p. passed_at_prefix c.args.bytes.now c.instruction.result (kind.MemArg c.in-One-MemArg.most) rest.now
    c.in-len1-up.len_at_least (c.in-One-MemArg.is ∙ ap (λ k. immediates.One k) c.in-One-MemArg.field-0-is)
    c.instruction.ensures p)
    c.behind_mem_arg.ensures

pub returns-in-One-MemArg-clause-shorter : goal.returns-in-One-MemArg-clause-shorter
returns-in-One-MemArg-clause-shorter c =
    some_weaker c.behind_mem_arg.result _ _
    (λ rest p. shorter_behind_first (kind.MemArg c.in-One-MemArg.most) c.args.bytes.now rest.now c.in-len1-up.len_at_least p)
    c.behind_mem_arg.ensures

pub returns-in-One : goal.returns-in-One
returns-in-One c =
    record {
      passed = some_weaker c.behind_immediate.result _ _
          (λ rest e. passed_at_prefix c.args.bytes.now c.instruction.result c.in-One.kind rest.now
          c.in-len1-up.len_at_least c.in-One.is c.instruction.ensures
          (passed_beginning c.in-One.kind [] _ rest.now e))
          c.behind_immediate.ensures;
      shorter = some_weaker c.behind_immediate.result _ _
          (λ rest e. shorter_behind_first c.in-One.kind c.args.bytes.now rest.now c.in-len1-up.len_at_least
          (passed_beginning c.in-One.kind [] _ rest.now e))
          c.behind_immediate.ensures;
    }
