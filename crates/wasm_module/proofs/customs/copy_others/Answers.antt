use Rattle.std.proofs.Common.{rules}
use Rattle.wasm_module.specs.Customs.{none}
use Rattle.wasm_module.proofs.RenamedModules.{section_placed, section_whole, walk_begun, walk_on}
use Rattle.wasm_module.proofs.Descriptions.{Stripped, stripped_push}
use Rattle.wasm_module.proofs.customs.copy_others.Goals as goal

pub loop-section-init : goal.loop-section-init
loop-section-init c = (
  tt,
  tt,
  walk_begun Stripped c.args.bytes.now c.args.found c.extend_from_slice.new.self.items
      c.requires.is_module c.requires.places
      (search (rules, c.in_ok-extend_from_slice.ensures.items, c.new-out.ensures.items)) none,
)

pub section_text-text-requires-clause-ordered : goal.section_text-text-requires-clause-ordered
section_text-text-requires-clause-ordered c =
    let p = section_placed c.loop-section.invariant.2 c.in-Some.ensures.steps in
    p.ordered

pub section_text-text-requires-clause-fits : goal.section_text-text-requires-clause-fits
section_text-text-requires-clause-fits c =
    let p = section_placed c.loop-section.invariant.2 c.in-Some.ensures.steps in
    p.fits

pub copy_other-requires : goal.copy_other-requires
copy_other-requires c =
    section_whole c.loop-section.invariant.2 c.in-Some.ensures.steps c.section_text-text.ensures

pub loop-section-preserved : goal.loop-section-preserved
loop-section-preserved c =
    let w = c.loop-section.invariant.2 in
    let written = c.in_ok-copy_other.ensures in (
      tt,
      tt,
      walk_on w c.in-Some.ensures.steps written.text c.section_text-text.ensures written.parts
          (stripped_push w.texts w.new c.section_text-text.result.now written.text w.done written.is_text),
    )
