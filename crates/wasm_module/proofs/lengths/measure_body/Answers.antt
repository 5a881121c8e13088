use Rattle.std.proofs.Common.{◌∙◌, ◌∷◌, ap, arith, refl}
use Rattle.wasm_module.specs.declared.kind.Kind.TheVariants as kind
use Rattle.wasm_module.proofs.Taking.{u32_shorter}
use Rattle.wasm_module.proofs.TypeLengths.{body_measured}
use Rattle.wasm_module.proofs.lengths.measure_body.Goals as goal

pub overflow_sub-bytes : goal.overflow_sub-bytes
overflow_sub-bytes c =
    let less = u32_shorter c.args.input.now.now c.in-Some.size c.read_u32.new.input.now c.in-Some.ensures in
    omega (arith, less)

pub returns : goal.returns
returns c =
    body_measured c.args.input.now.now c.in-Some.size c.read_u32.new.input.now c.split_at.result.0.now
    c.split_at.result.1.now c.args.lengths.now.items c.push.new.lengths.items
    c.measure_text.new.lengths.items _ c.push-2.new.self c.in-Some.ensures
    (omega (arith, c.if-size-behind.false))
    c.split_at.ensures.front c.split_at.ensures.back refl c.in_ok-push.ensures
    (c.in_ok-push-2.ensures ∙ ap (λ u. kind.Locals ∷ u) c.new-kinds.ensures) c.in_ok-measure_text.ensures
