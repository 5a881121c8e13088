use Rattle.std.proofs.Common.{◌∙◌, ℕ, List, length, sym, ap, subst, arith}
use Rattle.wasm_module.specs.Renaming.{least_width}
use Rattle.wasm_module.specs.Steps.Scans.{IsRefused}
use Rattle.wasm_module.proofs.Searching.{found_type, found_none, passes_shorter}
use Rattle.wasm_module.proofs.Rewriting.{written_begun, written_fits, written_on, written_stays, written_shorter, written_ended, rename_malformed, names_unknown, is_malformed, failure_is, error_came}
use Rattle.wasm_module.proofs.WholeTexts.{empty, not_empty}
use Rattle.wasm_module.proofs.renaming.rename.Goals as goal

pub loop-stack-init : goal.loop-stack-init
loop-stack-init c =
    written_begun c.args.new_indices.now (least_width c.args.widths) c.args.kinds c.args.input.now.now
    c.new-out.result.items c.new-out.ensures.items

pub returns-in_err-found-clause-malformed : goal.returns-in_err-found-clause-malformed
returns-in_err-found-clause-malformed c =
    let l = c.loop-stack in
    let r = c.from_residual in
    λ place e. let is = is_malformed c.in_err-found.field-0.0 place (failure_is r.result r.ensures.1 e) in
    rename_malformed l.invariant.so_far place
    (subst (λ x. IsRefused l.stack l.input.now x) is c.in_err-found.ensures.refused)

pub overflow_sub-passed : goal.overflow_sub-passed
overflow_sub-passed c =
    let h = found_type c.in-Some.is c.in_ok-found.ensures.passed in
    omega (arith, written_fits c.loop-stack.invariant h)

pub overflow_sub-passed-in-Some : goal.overflow_sub-passed-in-Some
overflow_sub-passed-in-Some c =
    let h = found_type c.in-Some.is c.in_ok-found.ensures.passed in
    omega (arith, written_fits c.loop-stack.invariant h)

pub write_index-requires : goal.write_index-requires
write_index-requires c = let h = found_type c.in-Some.is c.in_ok-found.ensures.passed in h.short

pub returns-in_err-write_index-clause-unknown : goal.returns-in_err-write_index-clause-unknown
returns-in_err-write_index-clause-unknown c =
    let h = found_type c.in-Some.is c.in_ok-found.ensures.passed in
    let r = c.from_residual-in_err-write_index in
    λ k place e. names_unknown c.loop-stack.invariant.so_far h k
    (c.in_err-write_index.ensures.unknown k place (error_came r.result r.ensures.1 e))

pub loop-stack-smaller : goal.loop-stack-smaller
loop-stack-smaller c = passes_shorter (found_type c.in-Some.is c.in_ok-found.ensures.passed)

pub loop-stack-preserved : goal.loop-stack-preserved
loop-stack-preserved c =
    written_on c.loop-stack.invariant (found_type c.in-Some.is c.in_ok-found.ensures.passed)
    c.in_ok-append_prefix.ensures c.in_ok-write_index.ensures.written

pub slice_bounds-extend_from_slice-count : goal.slice_bounds-extend_from_slice-count
slice_bounds-extend_from_slice-count c =
    let h = found_none c.in_ok-found.field-0 c.in_default.not-Some c.in_ok-found.ensures.passed in
    let here = ap (λ (u : List ℕ). length u) c.loop-stack.invariant.here in
    omega (arith, h.fits, here)

pub returns-then-is_empty-clause-stays : goal.returns-then-is_empty-clause-stays
returns-then-is_empty-clause-stays c =
    written_stays c.args.widths c.loop-stack.invariant
    (found_none c.in_ok-found.field-0 c.in_default.not-Some c.in_ok-found.ensures.passed)
    (sym c.as_slice.ensures.value ∙ empty c.as_slice.result.now c.if-is_empty.ensures)

pub returns-then-is_empty-clause-shorter : goal.returns-then-is_empty-clause-shorter
returns-then-is_empty-clause-shorter c =
    written_shorter c.loop-stack.invariant
    (found_none c.in_ok-found.field-0 c.in_default.not-Some c.in_ok-found.ensures.passed)

pub returns-clause-shorter : goal.returns-clause-shorter
returns-clause-shorter c =
    written_shorter c.loop-stack.invariant
    (found_none c.in_ok-found.field-0 c.in_default.not-Some c.in_ok-found.ensures.passed)

pub returns-clause-changes : goal.returns-clause-changes
returns-clause-changes c =
    written_ended c.args.widths c.loop-stack.invariant
    (λ e. not_empty c.as_slice.result.now c.if-is_empty.ensures (c.as_slice.ensures.value ∙ e))
    (found_none c.in_ok-found.field-0 c.in_default.not-Some c.in_ok-found.ensures.passed)
    c.in_ok-extend_from_slice.ensures.items
