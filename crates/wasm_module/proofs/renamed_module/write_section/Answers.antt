use Rattle.std.proofs.Common.{arith}
use Rattle.std.proofs.lemmas.Result.{IfOk-weaker}
use Rattle.wasm_module.specs.Changes.{Changes}
use Rattle.wasm_module.specs.RenamedModules.{RenamesAny}
use Rattle.wasm_module.proofs.Changing.{if_some}
use Rattle.wasm_module.proofs.Rewriting.{error_came}
use Rattle.wasm_module.proofs.RenamedSections.{none_is, least_short, types_written, changed_written, kept_written, types_too_long, part_too_long, whole_too_long}
use Rattle.wasm_module.proofs.renamed_module.write_section.Goals as goal

pub returns-then-section-eq-TYPES-clause-written : goal.returns-then-section-eq-TYPES-clause-written
returns-then-section-eq-TYPES-clause-written c =
    IfOk-weaker c.push_section.result _ _
    (λ u a. types_written c.args.types.now c.args.new_indices.now c.args.widths c.args.text.now
    c.args.section.id c.args.section.content.now c.args.out.now.items c.push_section.new.out.items c.requires
    (omega (arith, c.if-section-eq-TYPES.true)) a)
    c.push_section.ensures.written

pub returns-then-section-eq-TYPES-clause-too_long : goal.returns-then-section-eq-TYPES-clause-too_long
returns-then-section-eq-TYPES-clause-too_long c = λ e. types_too_long c.args.types.now c.args.new_indices.now
    c.args.widths c.args.text.now c.args.section.id c.args.section.content.now c.requires
    (omega (arith, c.if-section-eq-TYPES.true)) (c.push_section.ensures.too_long e)

pub returns-in_err-new-clause-too_long : goal.returns-in_err-new-clause-too_long
returns-in_err-new-clause-too_long c =
    let r = c.from_residual in
    λ e. part_too_long c.args.types.now c.args.new_indices.now c.args.widths c.args.text.now c.args.section.id
    c.args.section.content.now c.requires (λ k. omega (arith, k, c.if-section-eq-TYPES.false))
    (c.in_err-new.ensures.too_long (error_came r.result r.ensures.1 e))

pub push_new_section-requires : goal.push_new_section-requires
push_new_section-requires c =
    least_short c.args.text.now c.args.section.id c.args.section.content.now c.args.widths
    c.least_width-least.result c.requires c.least_width-least.ensures

pub returns-in-Some-clause-written : goal.returns-in-Some-clause-written
returns-in-Some-clause-written c =
    let id = c.args.section.id in
    let content = c.args.section.content.now in
    let changed : Changes (RenamesAny id c.args.new_indices.now c.args.widths) content c.in-Some.new.items =
    if_some c.in_ok-new.field-0 c.in-Some.new _ c.in-Some.is c.in_ok-new.ensures.changes in
    IfOk-weaker c.push_new_section.result _ _
    (λ u a. changed_written c.args.types.now c.args.new_indices.now c.args.widths c.args.text.now id content
    c.in-Some.new.items c.args.out.now.items c.push_new_section.new.out.items c.least_width-least.result
    c.requires (λ k. omega (arith, k, c.if-section-eq-TYPES.false)) changed c.least_width-least.ensures a)
    c.push_new_section.ensures.written

pub returns-in-Some-clause-too_long : goal.returns-in-Some-clause-too_long
returns-in-Some-clause-too_long c =
    let id = c.args.section.id in
    let content = c.args.section.content.now in
    let changed : Changes (RenamesAny id c.args.new_indices.now c.args.widths) content c.in-Some.new.items =
    if_some c.in_ok-new.field-0 c.in-Some.new _ c.in-Some.is c.in_ok-new.ensures.changes in
    λ e. whole_too_long c.args.types.now c.args.new_indices.now c.args.widths c.args.text.now id content
    c.in-Some.new.items c.requires (λ k. omega (arith, k, c.if-section-eq-TYPES.false)) changed
    (c.push_new_section.ensures.too_long e)

pub returns-in_ok-extend_from_slice-in-None-clause-written :
    goal.returns-in_ok-extend_from_slice-in-None-clause-written
returns-in_ok-extend_from_slice-in-None-clause-written c =
    let id = c.args.section.id in
    let content = c.args.section.content.now in
    kept_written c.args.types.now c.args.new_indices.now c.args.widths c.args.text.now id content
    c.args.out.now.items c.extend_from_slice.new.self.items c.requires
    (λ k. omega (arith, k, c.if-section-eq-TYPES.false))
    (none_is c.in_ok-new.field-0 _ c.in-None.is c.in_ok-new.ensures.stays)
    c.in_ok-extend_from_slice-in-None.ensures.items
