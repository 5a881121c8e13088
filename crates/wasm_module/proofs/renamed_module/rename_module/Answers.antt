use Rattle.std.proofs.Common.{rules}
use Rattle.wasm_module.proofs.Rewriting.{error_came}
use Rattle.wasm_module.proofs.RenamedModules.{Renamed, section_placed, section_whole, walk_begun, none_renamed, module_on, module_renamed, module_malformed, module_unknown, module_too_long}
use Rattle.wasm_module.proofs.renamed_module.rename_module.Goals as goal

pub loop-section-init : goal.loop-section-init
loop-section-init c = (
  tt,
  tt,
  walk_begun (Renamed c.args.types.now c.args.new_indices.now c.args.widths c.in-Ok.found)
      c.args.bytes.now c.in-Ok.found c.extend_from_slice.new.self.items c.in-Ok.ensures.module
      c.in-Ok.ensures.placed
      (search (rules, c.in_ok-extend_from_slice.ensures.items, c.new-out.ensures.items))
      (none_renamed c.args.types.now c.args.new_indices.now c.args.widths c.in-Ok.found),
)

pub section_text-text-requires-clause-ordered : goal.section_text-text-requires-clause-ordered
section_text-text-requires-clause-ordered c =
    let p = section_placed c.loop-section.invariant.2 c.in-Some.ensures.steps in
    p.ordered

pub section_text-text-requires-clause-fits : goal.section_text-text-requires-clause-fits
section_text-text-requires-clause-fits c =
    let p = section_placed c.loop-section.invariant.2 c.in-Some.ensures.steps in
    p.fits

pub write_section-requires : goal.write_section-requires
write_section-requires c =
    section_whole c.loop-section.invariant.2 c.in-Some.ensures.steps c.section_text-text.ensures

pub loop-section-preserved : goal.loop-section-preserved
loop-section-preserved c = (
  tt,
  tt,
  module_on c.loop-section.invariant.2 c.in-Some.ensures.steps c.section_text-text.ensures
      c.in_ok-write_section.ensures.written,
)

pub returns-in_err-write_section-clause-malformed : goal.returns-in_err-write_section-clause-malformed
returns-in_err-write_section-clause-malformed c =
    let r = c.from_residual-in_err-write_section in
    λ place e. module_malformed c.in-Ok.ensures.module c.loop-section.invariant.2 c.in-Some.ensures.steps
    (c.in_err-write_section.ensures.malformed place (error_came r.result r.ensures.1 e))

pub returns-in_err-write_section-clause-unknown : goal.returns-in_err-write_section-clause-unknown
returns-in_err-write_section-clause-unknown c =
    let r = c.from_residual-in_err-write_section in
    λ k place e. module_unknown c.in-Ok.ensures.module c.loop-section.invariant.2 c.in-Some.ensures.steps k
    (c.in_err-write_section.ensures.unknown k place (error_came r.result r.ensures.1 e))

pub returns-in_err-write_section-clause-too_long : goal.returns-in_err-write_section-clause-too_long
returns-in_err-write_section-clause-too_long c =
    let r = c.from_residual-in_err-write_section in
    λ e. module_too_long c.in-Ok.ensures.module c.loop-section.invariant.2 c.in-Some.ensures.steps
    c.section_text-text.ensures (c.in_err-write_section.ensures.too_long (error_came r.result r.ensures.1 e))

pub returns-clause-renamed : goal.returns-clause-renamed
returns-clause-renamed c =
    module_renamed c.args.types.now c.args.new_indices.now c.args.widths c.args.bytes.now c.in-Ok.found
    c.loop-section.left c.loop-section.out.items c.in-Ok.ensures.module c.loop-section.invariant.2
    c.in_default.ensures.steps.0
