use Rattle.std.proofs.Common.{◌≡◌, ◌+◌, ◌++◌, nat_eq, true, false, subst}
use Rattle.wasm_module.specs.Changes.{BecomesTooLong}
use Rattle.wasm_module.specs.NameSections.{RenamesNames, name_bytes}
use Rattle.wasm_module.proofs.Rewriting.{error_came}
use Rattle.wasm_module.proofs.WholeTexts.{empty, not_empty}
use Rattle.wasm_module.proofs.NameSections.{section_begun, section_stays, section_changes, section_first, section_unread}
use Rattle.wasm_module.proofs.name_section.rename_subsections.Goals as goal

pub loop-rest-init : goal.loop-rest-init
loop-rest-init c =
    section_begun c.args.new_indices.now c.args.widths c.args.content.now c.args.subsections.now
    c.new-out.result.items c.requires c.new-out.ensures.items

pub loop-rest-preserved : goal.loop-rest-preserved
loop-rest-preserved c =
    let s = c.loop-rest.invariant in
    record {
      size = s.size;
      is_size = s.is_size;
      count = s.count + 1;
      so_far = c.in_ok-rename_subsection.ensures.renamed s.count (s.size ++ name_bytes) c.args.content.now
          s.so_far;
    }

pub returns-in_err-rename_subsection-clause-unread : goal.returns-in_err-rename_subsection-clause-unread
returns-in_err-rename_subsection-clause-unread c =
    let l = c.loop-rest in
    let r = c.from_residual in
    λ e. section_unread c.args.new_indices.now c.args.widths c.args.content.now c.args.subsections.now
    l.unwritten.now l.rest.now l.out.items l.invariant c.requires
    (not_empty l.rest.now c.loop-rest-test.ensures)
    (c.in_err-rename_subsection.ensures.unread (error_came r.result r.ensures.1 e))

pub returns-in_err-rename_subsection-clause-too_long : goal.returns-in_err-rename_subsection-clause-too_long
returns-in_err-rename_subsection-clause-too_long c =
    let l = c.loop-rest in
    let r = c.from_residual in
    λ e. section_first c.args.new_indices.now c.args.widths
    (λ id. BecomesTooLong (RenamesNames id c.args.new_indices.now c.args.widths)) c.args.content.now
    l.unwritten.now l.rest.now l.out.items l.invariant
    (c.in_err-rename_subsection.ensures.too_long (error_came r.result r.ensures.1 e))

pub returns-then-is_empty-clause-stays : goal.returns-then-is_empty-clause-stays
returns-then-is_empty-clause-stays c =
    let l = c.loop-rest in
    section_stays c.args.new_indices.now c.args.widths c.args.content.now l.unwritten.now l.rest.now
    l.out.items
    l.invariant (empty l.rest.now c.loop-rest-test.ensures) (empty l.out.items
    (subst (λ n. true ≡ nat_eq n 0) l.out.ok.0 c.if-is_empty.ensures))

pub returns-clause-changes : goal.returns-clause-changes
returns-clause-changes c =
    let l = c.loop-rest in
    section_changes c.args.new_indices.now c.args.widths c.args.content.now l.unwritten.now l.rest.now
    l.out.items c.extend_from_slice.new.self.items l.invariant (empty l.rest.now c.loop-rest-test.ensures)
    (not_empty l.out.items (subst (λ n. false ≡ nat_eq n 0) l.out.ok.0 c.if-is_empty.ensures))
    c.in_ok-extend_from_slice.ensures.items
