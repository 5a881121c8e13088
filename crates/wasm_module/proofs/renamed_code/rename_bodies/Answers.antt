use Rattle.std.proofs.Common.{◌≡◌, ◌∙◌, ◌+◌, ◌++◌, List, [], ℕ, refl, sym, ap, subst, arith}
use Rattle.wasm_module.specs.declared.scan.ScanError.TheVariants as scan
use Rattle.wasm_module.specs.Bodies.{body}
use Rattle.wasm_module.specs.Changes.{ChangeAll, BecomesTooLong, InSized}
use Rattle.wasm_module.specs.RenamedSections.{RenamesTexts, RenamesBody}
use Rattle.wasm_module.specs.Renaming.{NamesUnknown}
use Rattle.wasm_module.proofs.Changing.{if_none, if_some, changed_none, changed_is, changed_passed, changed_on, passed_before, changed_first, all_stayed, all_changed}
use Rattle.wasm_module.proofs.ChangedCode.{changed_some, begins_with}
use Rattle.wasm_module.proofs.CodeSections.{bodies_malformed}
use Rattle.wasm_module.proofs.Rewriting.{error_came}
use Rattle.wasm_module.proofs.WholeTexts.{empty, not_empty}
use Rattle.wasm_module.specs.Steps.Changes.{KeepsPrefix, ChangesPrefix}
use Rattle.wasm_module.proofs.renamed_code.rename_bodies.Goals.{in-Some+in_ok-append_prefix+in_ok-extend_from_slice, in_default}
use Rattle.wasm_module.proofs.renamed_code.rename_bodies.Goals as goal

pub loop-init : goal.loop-init
loop-init c =
    changed_none (RenamesBody c.args.new_indices.now c.args.widths) [] c.args.input.now.now
    c.args.input.now.now c.new-out.result.items refl c.new-out.ensures.items

pub returns-in_err-new-clause-malformed : goal.returns-in_err-new-clause-malformed
returns-in_err-new-clause-malformed c =
    let l = c.loop in
    let r = c.from_residual in
    λ place e. bodies_malformed c.args.count l.counter c.args.input.now.now l.input.now l.invariant.names
    (scan.Malformed place)
    (begins_with c.args.new_indices.now c.args.widths l.counter c.args.input.now.now l.invariant.texts
    l.input.now l.invariant.new l.invariant.names l.invariant.parts l.invariant.so_far) c.loop-test.true
    (c.in_err-new.ensures.malformed place (error_came r.result r.ensures.1 e))

pub returns-in_err-new-clause-unknown : goal.returns-in_err-new-clause-unknown
returns-in_err-new-clause-unknown c =
    let l = c.loop in
    let r = c.from_residual in
    λ k place e. changed_first (RenamesBody c.args.new_indices.now c.args.widths)
    (InSized (λ b. NamesUnknown c.args.new_indices.now body b k)) c.args.count l.counter
    c.args.input.now.now l.input.now l.unwritten.now l.out.items l.invariant c.loop-test.true
    (c.in_err-new.ensures.unknown k place (error_came r.result r.ensures.1 e))

pub returns-in_err-new-clause-too_long : goal.returns-in_err-new-clause-too_long
returns-in_err-new-clause-too_long c =
    let l = c.loop in
    let r = c.from_residual in
    λ e. changed_first (RenamesBody c.args.new_indices.now c.args.widths)
    (InSized (BecomesTooLong (RenamesTexts c.args.new_indices.now c.args.widths body))) c.args.count
    l.counter c.args.input.now.now l.input.now l.unwritten.now l.out.items l.invariant c.loop-test.true
    (c.in_err-new.ensures.too_long (error_came r.result r.ensures.1 e))

pub loop-preserved : goal.loop-preserved
loop-preserved c =
    let l = c.loop in
    let new_indices = c.args.new_indices.now in
    let w = c.args.widths in
    let R = RenamesBody new_indices w in
    let bytes = c.args.input.now.now in
    let rest = l.input.now in
    let after = c.rename_sized_body.new.input.now in
    let merged = c.match-branch-2 in
    elim c.match-branch-2.branch [
      | in-Some+in_ok-append_prefix+in_ok-extend_from_slice b ↦
          let new = b.in-Some.new.items in
          let changes = if_some c.in_ok-new.field-0 b.in-Some.new (λ x. ChangesPrefix R rest after x.items)
          b.in-Some.is c.in_ok-new.ensures.changes in
          changed_is R (l.counter + 1) bytes after merged.unwritten.now after merged.out.items
          b.extend_from_slice.new.self.items (ap (λ x. x.now) b.unwritten-is)
          (ap (λ v. v.items) b.out-is)
          (changed_on R l.counter [] bytes rest after l.unwritten.now l.out.items new
          b.extend_from_slice.new.self.items l.invariant changes
          (changed_some w (RenamesTexts new_indices w body) rest after new changes)
          (b.in_ok-extend_from_slice.ensures.items
          ∙ ap (λ (u : List ℕ). b.append_prefix.new.out.items ++ u) b.deref.ensures.value
          ∙ ap (λ (u : List ℕ). u ++ new) (passed_before R l.counter [] bytes rest l.unwritten.now l.out.items
          b.append_prefix.new.out.items l.invariant b.in_ok-append_prefix.ensures)))
      | in_default b ↦
          changed_is R (l.counter + 1) bytes after merged.unwritten.now l.unwritten.now merged.out.items
          l.out.items (ap (λ x. x.now) b.unwritten-is) (ap (λ v. v.items) b.out-is)
          (changed_passed R l.counter [] bytes rest after l.unwritten.now l.out.items l.invariant
          (if_none c.in_ok-new.field-0 _ b.in_default.not-Some c.in_ok-new.ensures.stays))
    ]

pub returns-then-is_empty-clause-stays : goal.returns-then-is_empty-clause-stays
returns-then-is_empty-clause-stays c =
    let l = c.loop in
    let R = RenamesBody c.args.new_indices.now c.args.widths in
    let bytes = c.args.input.now.now in
    let all : l.counter ≡ c.args.count = omega (arith, c.loop-test.false, l.auto.counter-end) in
    subst (λ (n : ℕ). KeepsPrefix (ChangeAll R n) bytes l.input.now) all
    (all_stayed R l.counter bytes l.input.now l.unwritten.now l.out.items l.invariant
    (sym c.as_slice.ensures.value ∙ empty c.as_slice.result.now c.if-is_empty.ensures))

pub returns-clause-changes : goal.returns-clause-changes
returns-clause-changes c =
    let l = c.loop in
    let R = RenamesBody c.args.new_indices.now c.args.widths in
    let bytes = c.args.input.now.now in
    let last = c.extend_from_slice-2.new.self.items in
    let all : l.counter ≡ c.args.count = omega (arith, c.loop-test.false, l.auto.counter-end) in
    subst (λ (n : ℕ). ChangesPrefix (ChangeAll R n) bytes l.input.now last) all
    (all_changed R l.counter bytes l.input.now l.unwritten.now l.out.items last l.invariant
    (λ e. not_empty c.as_slice.result.now c.if-is_empty.ensures (c.as_slice.ensures.value ∙ e))
    c.in_ok-extend_from_slice-2.ensures.items)
