use Rattle.wasm_module.proofs.UnreadNames.{none_read, one_read, rest_unread}
use Rattle.wasm_module.proofs.WholeTexts.{not_empty}
use Rattle.wasm_module.proofs.unread_names.are_subsections.Goals as goal

pub loop-rest-init : goal.loop-rest-init
loop-rest-init c = none_read c.args.count c.args.texts.now

pub returns-in_default-clause-no : goal.returns-in_default-clause-no
returns-in_default-clause-no c = λ _.
    rest_unread c.args.count c.args.texts.now c.loop-rest.rest.now c.loop-rest.invariant
    (not_empty c.loop-rest.rest.now c.loop-rest-test.ensures) c.in_default.ensures.none

pub loop-rest-preserved : goal.loop-rest-preserved
loop-rest-preserved c =
    one_read c.args.count c.args.texts.now c.loop-rest.rest.now c.skip_subsection.new.input.now
    c.loop-rest.invariant c.in-Some.ensures.taken
