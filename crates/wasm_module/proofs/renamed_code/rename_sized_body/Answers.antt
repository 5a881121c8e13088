use Rattle.std.proofs.Common.{◌≤◌, ◌-◌, ◌^◌, ℕ, List, length, sym, subst, arith}
use Rattle.wasm_module.specs.declared.scan.ScanError.TheVariants as scan
use Rattle.wasm_module.specs.Bodies.{body}
use Rattle.wasm_module.specs.Changes.{Changes, BecomesTooLong}
use Rattle.wasm_module.specs.RenamedSections.{RenamesTexts}
use Rattle.wasm_module.specs.Renaming.{least_width, NamesUnknown}
use Rattle.wasm_module.specs.Steps.Changes.{IsSized}
use Rattle.wasm_module.specs.Steps.Renaming.{Appends}
use Rattle.wasm_module.proofs.Changing.{if_none, if_some}
use Rattle.wasm_module.proofs.ChangedCode.{cut_at, size_fits, sized_stays, sized_changes, sized_so, too_long}
use Rattle.wasm_module.proofs.CodeSections.{body_sizeless, body_cut_off, body_malformed}
use Rattle.wasm_module.proofs.Rewriting.{error_came}
use Rattle.wasm_module.proofs.renamed_code.rename_sized_body.Goals as goal

pub returns-in_default-clause-malformed : goal.returns-in_default-clause-malformed
returns-in_default-clause-malformed c =
    λ place e. body_sizeless c.args.input.now.now c.read_u32.new.input.now c.in_default.ensures

pub returns-then-size-behind-clause-malformed : goal.returns-then-size-behind-clause-malformed
returns-then-size-behind-clause-malformed c =
    λ place e. body_cut_off c.args.input.now.now c.in-Some.size c.read_u32.new.input.now c.in-Some.ensures
    (omega (arith, c.if-size-behind.true))

pub returns-in_err-new_body-clause-malformed : goal.returns-in_err-new_body-clause-malformed
returns-in_err-new_body-clause-malformed c =
    let r = c.from_residual in
    λ place e. let no_text = c.in_err-new_body.ensures.malformed place (error_came r.result r.ensures.1 e) in
    body_malformed c.args.input.now.now c.in-Some.size c.read_u32.new.input.now c.split_at.result.0.now
    (scan.Malformed place) c.in-Some.ensures c.split_at.ensures.front (λ names n. no_text n.tokens n.are)

pub returns-in_err-new_body-clause-unknown : goal.returns-in_err-new_body-clause-unknown
returns-in_err-new_body-clause-unknown c =
    let cut = cut_at c.in-Some.ensures (omega (arith, c.if-size-behind.false)) c.split_at.ensures.front
    c.split_at.ensures.back in
    let r = c.from_residual in
    λ k place e. sized_so cut (λ b. NamesUnknown c.args.new_indices.now body b k)
    (c.in_err-new_body.ensures.unknown k place (error_came r.result r.ensures.1 e))

pub returns-in_default-new_body-clause-stays : goal.returns-in_default-new_body-clause-stays
returns-in_default-new_body-clause-stays c =
    let cut = cut_at c.in-Some.ensures (omega (arith, c.if-size-behind.false)) c.split_at.ensures.front
    c.split_at.ensures.back in
    sized_stays cut c.args.widths (RenamesTexts c.args.new_indices.now c.args.widths body)
    (if_none c.in_ok-new_body.new_body _ c.in_default-new_body.not-Some c.in_ok-new_body.ensures.stays)

pub overflow_sub-bytes : goal.overflow_sub-bytes
overflow_sub-bytes c =
    let cut = cut_at c.in-Some.ensures (omega (arith, c.if-size-behind.false)) c.split_at.ensures.front
    c.split_at.ensures.back in
    cut.fits

pub push_sized-requires : goal.push_sized-requires
push_sized-requires c =
    let cut = cut_at c.in-Some.ensures (omega (arith, c.if-size-behind.false)) c.split_at.ensures.front
    c.split_at.ensures.back in
    subst (λ (n : ℕ). n ≤ 5) (sym c.least_width-least.ensures)
    (size_fits cut c.args.widths)

pub returns-in_err-push_sized-clause-too_long : goal.returns-in_err-push_sized-clause-too_long
returns-in_err-push_sized-clause-too_long c =
    let cut = cut_at c.in-Some.ensures (omega (arith, c.if-size-behind.false)) c.split_at.ensures.front
    c.split_at.ensures.back in
    let r = c.from_residual-in_err-push_sized in
    let Texts = RenamesTexts c.args.new_indices.now c.args.widths body in
    let changes = if_some c.in_ok-new_body.new_body c.in-Some-new_body.new_body
    (λ x. Changes Texts c.split_at.result.0.now x.items) c.in-Some-new_body.is
    c.in_ok-new_body.ensures.changes in
    λ e. let long = subst (λ (u : List ℕ). 2 ^ 32 ≤ length u) c.deref.ensures.value
    (c.in_err-push_sized.ensures.too_long (error_came r.result r.ensures.1 e)) in
    sized_so cut (BecomesTooLong Texts)
    (too_long Texts c.split_at.result.0.now c.in-Some-new_body.new_body.items changes long)

pub returns-clause-changes : goal.returns-clause-changes
returns-clause-changes c =
    let cut = cut_at c.in-Some.ensures (omega (arith, c.if-size-behind.false)) c.split_at.ensures.front
    c.split_at.ensures.back in
    let Texts = RenamesTexts c.args.new_indices.now c.args.widths body in
    let changes = if_some c.in_ok-new_body.new_body c.in-Some-new_body.new_body
    (λ x. Changes Texts c.split_at.result.0.now x.items) c.in-Some-new_body.is
    c.in_ok-new_body.ensures.changes in
    let old = c.new-new.result.items in
    let out = c.push_sized.new.out.items in
    let least = least_width c.args.widths (length c.args.input.now.now - length c.read_u32.new.input.now) in
    let written = subst (λ (u : List ℕ). Appends (IsSized least u) old out) c.deref.ensures.value
    (subst (λ (n : ℕ). Appends (IsSized n c.deref.result.now) old out) c.least_width-least.ensures
    c.in_ok-push_sized.ensures.written) in
    sized_changes cut c.args.widths Texts c.in-Some-new_body.new_body.items old out changes
    c.new-new.ensures.items written
