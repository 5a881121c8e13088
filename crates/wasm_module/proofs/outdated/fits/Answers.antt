use Rattle.std.proofs.Common.{subst, sym, List}
use Rattle.wasm_module.specs.Sections.{placed}
use Rattle.wasm_module.specs.Steps.Outdated.{AllStay}
use Rattle.wasm_module.specs.declared.description_kinds.DescriptionKind.{DescriptionKind}
use Rattle.wasm_module.proofs.OutdatedSections.{fits_of_none, fits_of_kind, known_stays}
use Rattle.wasm_module.proofs.outdated.fits.Goals as goal

pub returns-in_default-clause-yes : goal.returns-in_default-clause-yes
returns-in_default-clause-yes c =
    let s = c.args.section in
    λ _. fits_of_none c.args.bytes.now c.args.new.now (placed s.offset s.content_offset s.id s.content.now)
    c.in_default.ensures.none

pub returns-then-contains-clause-yes : goal.returns-then-contains-clause-yes
returns-then-contains-clause-yes c =
    let s = c.args.section in
    let found = c.if-contains.ensures.cases in
    λ _. fits_of_kind c.args.bytes.now c.args.new.now (placed s.offset s.content_offset s.id s.content.now)
    c.in-Some.kind c.in-Some.ensures.found
    (known_stays c.args.bytes.now c.args.new.now c.as_slice.result.now c.in-Some.kind found.0
    (subst (λ (u : List DescriptionKind). AllStay c.args.bytes.now c.args.new.now u)
    (sym c.as_slice.ensures.value) c.requires) found.1 found.2)

pub returns-clause-yes : goal.returns-clause-yes
returns-clause-yes c =
    let s = c.args.section in
    λ _. fits_of_kind c.args.bytes.now c.args.new.now (placed s.offset s.content_offset s.id s.content.now)
    c.in-Some.kind c.in-Some.ensures.found (c.in_ok-stays.ensures.yes c.if-not-branch.false)
