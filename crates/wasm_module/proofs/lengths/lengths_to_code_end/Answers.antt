use Rattle.std.proofs.Common.{arith}
use Rattle.wasm_module.specs.Lengths.{IsNot}
use Rattle.wasm_module.specs.NamedTypes.{code_id}
use Rattle.wasm_module.specs.Sections.{placed}
use Rattle.wasm_module.proofs.ModuleLengths.{none_measured, one_measured, code_measured, no_code_measured, section_ordered, passed}
use Rattle.wasm_module.proofs.lengths.lengths_to_code_end.Goals as goal

pub loop-section-init : goal.loop-section-init
loop-section-init c = (tt, tt, rw c.new-lengths.ensures.items (none_measured c.in-Ok.found))

pub measure_section-requires : goal.measure_section-requires
measure_section-requires c =
    let s = c.in-Some.section in
    section_ordered (IsNot code_id) c.args.bytes.now c.in-Ok.found c.loop-section.left c.next.new.self
    (placed s.offset s.content_offset s.id s.content.now)
    (record { is_module = c.in-Ok.ensures.module; places = c.in-Ok.ensures.placed })
    (passed c.in-Ok.found c.loop-section.left c.loop-section.lengths.items c.loop-section.invariant.2)
    c.in-Some.ensures.steps

pub returns-then-section-eq-CODE : goal.returns-then-section-eq-CODE
returns-then-section-eq-CODE c =
    let s = c.in-Some.section in
    code_measured c.args.bytes.now c.in-Ok.found c.loop-section.left c.next.new.self
    (placed s.offset s.content_offset s.id s.content.now) c.loop-section.lengths.items
    c.measure_section.new.lengths.items
    (record { is_module = c.in-Ok.ensures.module; places = c.in-Ok.ensures.placed })
    c.loop-section.invariant.2 c.in-Some.ensures.steps c.in_ok-measure_section.ensures
    (omega (arith, c.if-section-eq-CODE.true))

pub loop-section-preserved : goal.loop-section-preserved
loop-section-preserved c =
    let s = c.in-Some.section in (
      tt,
      tt,
      one_measured c.in-Ok.found c.loop-section.left c.next.new.self
          (placed s.offset s.content_offset s.id s.content.now) c.loop-section.lengths.items
          c.measure_section.new.lengths.items c.loop-section.invariant.2 c.in-Some.ensures.steps
          c.in_ok-measure_section.ensures (λ e. omega (arith, e, c.if-section-eq-CODE.false)),
    )

pub returns : goal.returns
returns c =
    rw c.new.ensures.items (no_code_measured c.args.bytes.now c.in-Ok.found c.loop-section.left
    c.loop-section.lengths.items
    (record { is_module = c.in-Ok.ensures.module; places = c.in-Ok.ensures.placed })
    c.loop-section.invariant.2 c.in_default-next.ensures.steps.0)
