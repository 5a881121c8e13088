use Rattle.std.proofs.Common.{ℕ, List, subst, sym}
use Rattle.wasm_module.specs.Lengths.{HasLengthsInCode, HasLengthsToCodeEnd}
use Rattle.wasm_module.specs.Outdated.{Stays}
use Rattle.wasm_module.proofs.OneLength.{in_code_once, to_code_end_once}
use Rattle.wasm_module.proofs.OutdatedSections.{have_others}
use Rattle.wasm_module.proofs.outdated.stays.Goals as goal

pub returns-in_ok-after-in-CodeOffsets-clause-no : goal.returns-in_ok-after-in-CodeOffsets-clause-no
returns-in_ok-after-in-CodeOffsets-clause-no c =
    λ fails h. have_others HasLengthsInCode in_code_once c.args.bytes.now c.args.new.now
    c.as_slice.result.now c.as_slice-in-CodeOffsets.result.now
    (subst (λ (u : List ℕ). HasLengthsInCode c.args.bytes.now u) (sym c.as_slice.ensures.value)
    c.in_ok-before-in-CodeOffsets.ensures)
    (subst (λ (u : List ℕ). HasLengthsInCode c.args.new.now u) (sym c.as_slice-in-CodeOffsets.ensures.value)
    c.in_ok-after-in-CodeOffsets.ensures) (c.are_same.ensures.no fails)
    (subst (λ k. Stays k c.args.bytes.now c.args.new.now) c.in-CodeOffsets.is h)

pub returns-in_ok-after-in-FileOffsets-clause-no : goal.returns-in_ok-after-in-FileOffsets-clause-no
returns-in_ok-after-in-FileOffsets-clause-no c =
    λ fails h. have_others HasLengthsToCodeEnd to_code_end_once c.args.bytes.now c.args.new.now
    c.as_slice-in-FileOffsets.result.now c.as_slice-in-FileOffsets-2.result.now
    (subst (λ (u : List ℕ). HasLengthsToCodeEnd c.args.bytes.now u)
    (sym c.as_slice-in-FileOffsets.ensures.value) c.in_ok-before-in-FileOffsets.ensures)
    (subst (λ (u : List ℕ). HasLengthsToCodeEnd c.args.new.now u)
    (sym c.as_slice-in-FileOffsets-2.ensures.value) c.in_ok-after-in-FileOffsets.ensures)
    (c.are_same-in-FileOffsets.ensures.no fails)
    (subst (λ k. Stays k c.args.bytes.now c.args.new.now) c.in-FileOffsets.is h)
