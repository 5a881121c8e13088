use Rattle.std.proofs.Common.{arith}
use Rattle.wasm_module.specs.Lengths.{IsNot}
use Rattle.wasm_module.specs.Sections.{placed}
use Rattle.wasm_module.proofs.ModuleLengths.{one_passed, content_found, no_content_found}
use Rattle.wasm_module.proofs.lengths.content_of.Goals as goal

pub loop-section-preserved : goal.loop-section-preserved
loop-section-preserved c =
    let s = c.in-Some.section in (
      tt,
      tt,
      one_passed (IsNot c.args.id) c.in-Ok.found c.loop-section.left c.next.new.self
          (placed s.offset s.content_offset s.id s.content.now) c.loop-section.invariant.2
          c.in-Some.ensures.steps (λ e. omega (arith, e, c.if-section-id.false)),
    )

pub returns-then-section-id-clause-found : goal.returns-then-section-id-clause-found
returns-then-section-id-clause-found c =
    let s = c.in-Some.section in
    content_found c.args.id c.args.bytes.now c.in-Ok.found c.loop-section.left c.next.new.self
    (placed s.offset s.content_offset s.id s.content.now)
    (record { is_module = c.in-Ok.ensures.module; places = c.in-Ok.ensures.placed })
    c.loop-section.invariant.2 c.in-Some.ensures.steps (omega (arith, c.if-section-id.true))

pub returns-clause-none : goal.returns-clause-none
returns-clause-none c =
    no_content_found c.args.id c.args.bytes.now c.in-Ok.found c.loop-section.left
    (record { is_module = c.in-Ok.ensures.module; places = c.in-Ok.ensures.placed })
    c.loop-section.invariant.2 c.in_default-next.ensures.steps.0
