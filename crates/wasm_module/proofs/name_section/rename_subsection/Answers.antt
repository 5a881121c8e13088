use Rattle.std.proofs.Common.{rules, length, slice_index_or, arith}
use Rattle.wasm_module.specs.Changes.{BecomesTooLong}
use Rattle.wasm_module.specs.NameSections.{RenamesNames}
use Rattle.wasm_module.proofs.Rewriting.{error_came}
use Rattle.wasm_module.proofs.TypeMaps.{least_short}
use Rattle.wasm_module.proofs.Taking.{first_apart}
use Rattle.wasm_module.proofs.Changing.{if_some}
use Rattle.wasm_module.proofs.Subsections.{none_holds, unsized_subsection, unread_subsection, begins_in, subsection_stays, subsection_written, subsection_too_long, size_short}
use Rattle.wasm_module.proofs.name_section.rename_subsection.Goals as goal

pub returns-in_default-take_sized-clause-unread : goal.returns-in_default-take_sized-clause-unread
returns-in_default-take_sized-clause-unread c = λ e.
    unsized_subsection (length c.args.new_indices.now) c.args.rest.now.now _ _
    (first_apart c.args.rest.now.now c.in-len1-up.len_at_least) c.in_default-take_sized.ensures.none

pub returns-in_err-new-clause-unread : goal.returns-in_err-new-clause-unread
returns-in_err-new-clause-unread c =
    let r = c.from_residual in
    λ e. unread_subsection (length c.args.new_indices.now) c.args.rest.now.now _ _ c.in-Some.content.now
    c.take_sized.new.input.now (first_apart c.args.rest.now.now c.in-len1-up.len_at_least)
    c.in-Some.ensures.taken (c.in_err-new.ensures.unread (error_came r.result r.ensures.1 e))

pub returns-in_default-2-clause-renamed : goal.returns-in_default-2-clause-renamed
returns-in_default-2-clause-renamed c = λ count header content u.
    subsection_stays c.args.new_indices.now c.args.widths count header content c.args.unwritten.now.now
    c.args.rest.now.now c.args.out.now.items _ _ c.in-Some.content.now c.take_sized.new.input.now
    (first_apart c.args.rest.now.now c.in-len1-up.len_at_least) c.in-Some.ensures.taken
    (none_holds c.in_ok-new.field-0 c.in_default-2.is c.in_ok-new.ensures.stays) u

pub returns-then-len-ge-SIZE_LIMIT-clause-too_long : goal.returns-then-len-ge-SIZE_LIMIT-clause-too_long
returns-then-len-ge-SIZE_LIMIT-clause-too_long c = λ e.
    begins_in (λ id. BecomesTooLong (RenamesNames id c.args.new_indices.now c.args.widths))
    c.args.rest.now.now (slice_index_or c.args.rest.now.now 0 0) _ c.in-Some.content.now
    c.take_sized.new.input.now (first_apart c.args.rest.now.now c.in-len1-up.len_at_least)
    c.in-Some.ensures.taken
    (subsection_too_long (slice_index_or c.args.rest.now.now 0 0) c.args.new_indices.now c.args.widths
    c.in-Some.content.now c.in-Some-2.new.items
    (if_some c.in_ok-new.field-0 c.in-Some-2.new _ c.in-Some-2.is c.in_ok-new.ensures.changes)
    (omega (arith, c.if-len-ge-SIZE_LIMIT.true, c.len.ensures, c.in-Some-2.new.ok.0)))

pub push_u32-requires : goal.push_u32-requires
push_u32-requires c =
    least_short c.args.widths c.least_width.result _ c.least_width.ensures
    (size_short _ c.in-Some.content.now c.take_sized.new.input.now c.in-Some.ensures.taken)

pub returns-clause-renamed : goal.returns-clause-renamed
returns-clause-renamed c = λ count header content u.
    subsection_written c.args.new_indices.now c.args.widths count header content c.args.unwritten.now.now
    c.args.rest.now.now c.args.out.now.items (slice_index_or c.args.rest.now.now 0 0) _ c.in-Some.content.now
    c.take_sized.new.input.now c.in-Some-2.new.items c.extend_from_slice.new.self.items
    c.push_u32.new.out.items
    c.extend_from_slice-2.new.self.items c.least_width.result c.len-2.result
    (first_apart c.args.rest.now.now c.in-len1-up.len_at_least) c.in-Some.ensures.taken
    (if_some c.in_ok-new.field-0 c.in-Some-2.new _ c.in-Some-2.is c.in_ok-new.ensures.changes)
    c.least_width.ensures (omega (arith, c.len-2.ensures, c.in-Some-2.new.ok.0))
    c.in_ok-extend_from_slice.ensures.items c.in_ok-push_u32.ensures
    (search (rules, c.in_ok-extend_from_slice-2.ensures.items, c.deref.ensures.value)) u
