use Rattle.std.proofs.Common.{Some, None}
use Rattle.wasm_module.specs.Lengths.{HasContent}
use Rattle.wasm_module.proofs.Changing.{if_none, if_some}
use Rattle.wasm_module.proofs.OneLength.{found_once}
use Rattle.wasm_module.proofs.OutdatedSections.{have_others}
use Rattle.wasm_module.proofs.outdated.has_same_content.Goals as goal

pub returns-in-Some-Some-clause-no : goal.returns-in-Some-Some-clause-no
returns-in-Some-Some-clause-no c =
    let b = c.in-Some-Some in
    λ fails. have_others (HasContent c.args.id) (found_once c.args.id) c.args.bytes.now c.args.new.now
    (Some b.before.now) (Some b.after.now)
    (if_some c.in_ok-before.before b.before (λ content. HasContent c.args.id c.args.bytes.now
    (Some content.now)) b.is-0 c.in_ok-before.ensures.found)
    (if_some c.in_ok-after.after b.after (λ content. HasContent c.args.id c.args.new.now
    (Some content.now)) b.is-1 c.in_ok-after.ensures.found)
    (λ e. c.are_same_bytes.ensures.no fails cc)

pub returns-in_default-clause-no : goal.returns-in_default-clause-no
returns-in_default-clause-no c =
    let b = c.in_default in
    λ fails. have_others (HasContent c.args.id) (found_once c.args.id) c.args.bytes.now c.args.new.now
    (Some b.field-0-0.now) None
    (if_some c.in_ok-before.before b.field-0-0 (λ content. HasContent c.args.id c.args.bytes.now
    (Some content.now)) b.is-0 c.in_ok-before.ensures.found)
    (if_none c.in_ok-after.after (HasContent c.args.id c.args.new.now None) (λ x e. cc)
    c.in_ok-after.ensures.none) (λ e. cc)

pub returns-in_default-2-clause-no : goal.returns-in_default-2-clause-no
returns-in_default-2-clause-no c =
    let b = c.in_default in
    λ fails. have_others (HasContent c.args.id) (found_once c.args.id) c.args.bytes.now c.args.new.now
    None (Some b.field-0-1.now)
    (if_none c.in_ok-before.before (HasContent c.args.id c.args.bytes.now None) (λ x e. cc)
    c.in_ok-before.ensures.none)
    (if_some c.in_ok-after.after b.field-0-1 (λ content. HasContent c.args.id c.args.new.now
    (Some content.now)) b.is-1 c.in_ok-after.ensures.found) (λ e. cc)
