use Rattle.std.proofs.Common.{refl}
use Rattle.wasm_module.proofs.Taking.{first_apart}
use Rattle.wasm_module.proofs.Subsections.{subsection_taken, unsized_subsection, unread_subsection}
use Rattle.wasm_module.proofs.unread_names.skip_subsection.Goals as goal

pub returns-in_err-content-clause-none : goal.returns-in_err-content-clause-none
returns-in_err-content-clause-none c =
    rw c.from_residual.ensures
    (unsized_subsection c.args.count c.args.input.now.now _ _
    (first_apart c.args.input.now.now c.in-len1-up.len_at_least) c.in_err-content.ensures.none)

pub returns-then-not-are_names-clause-none : goal.returns-then-not-are_names-clause-none
returns-then-not-are_names-clause-none c =
    unread_subsection c.args.count c.args.input.now.now _ _ c.in_ok-content.content.now
    c.take_sized.new.input.now (first_apart c.args.input.now.now c.in-len1-up.len_at_least)
    c.in_ok-content.ensures.taken (c.if-not-are_names.ensures.no refl)

pub returns-clause-taken : goal.returns-clause-taken
returns-clause-taken c =
    subsection_taken c.args.count c.args.input.now.now _ _ c.in_ok-content.content.now
    c.take_sized.new.input.now (first_apart c.args.input.now.now c.in-len1-up.len_at_least)
    c.in_ok-content.ensures.taken (c.if-not-are_names.ensures.yes refl)
