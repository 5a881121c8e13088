use Rattle.std.proofs.lemmas.Result.{on_ok_weaker}
use Rattle.wasm_module.specs.Sections.{placed}
use Rattle.wasm_module.proofs.ModuleLengths.{section_measured}
use Rattle.wasm_module.proofs.lengths.measure_section.Goals as goal

pub returns : goal.returns
returns c =
    let s = c.args.section in
    on_ok_weaker c.measure_content.result
    (section_measured (placed s.offset s.content_offset s.id s.content.now) c.args.lengths.now.items
    c.push.new.lengths.items c.push-2.new.lengths.items c.measure_content.new.lengths.items
    c.in_ok-push.ensures c.in_ok-push-2.ensures) c.measure_content.ensures
