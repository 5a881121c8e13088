use Rattle.wasm_module.specs.Outdated.{Fits}
use Rattle.wasm_module.specs.Sections.{placed}
use Rattle.wasm_module.proofs.ModuleLengths.{one_passed}
use Rattle.wasm_module.proofs.OutdatedSections.{all_fit}
use Rattle.wasm_module.proofs.outdated.first_outdated.Goals as goal

pub loop-section-preserved : goal.loop-section-preserved
loop-section-preserved c =
    let s = c.in-Some.section in (
      tt,
      tt,
      one_passed (Fits c.args.bytes.now c.args.new.now) c.in-Ok.found c.loop-section.left c.next.new.self
          (placed s.offset s.content_offset s.id s.content.now) c.loop-section.invariant.2
          c.in-Some.ensures.steps (c.in_ok-fits.ensures.yes c.if-not-branch.false),
      c.in_ok-fits.ensures.fitting,
    )

pub returns-clause-none : goal.returns-clause-none
returns-clause-none c =
    all_fit c.args.bytes.now c.args.new.now c.in-Ok.found c.loop-section.left
    (record { is_module = c.in-Ok.ensures.module; places = c.in-Ok.ensures.placed })
    c.loop-section.invariant.2 c.in_default-next.ensures.steps.0
