use Rattle.std.proofs.Common.{rules, refl}
use Rattle.std.proofs.lemmas.Bool.{not-true, not-false}
use Rattle.wasm_module.proofs.NameSections.{as_name}
use Rattle.wasm_module.proofs.UnreadNames.{unread_section, read_section, nameless_section, other_section}
use Rattle.wasm_module.proofs.unread_names.is_unread.Goals as goal

pub returns-in_default-clause-no : goal.returns-in_default-clause-no
returns-in_default-clause-no c = λ _.
    nameless_section c.args.count c.args.id c.args.content.now c.in_default.ensures.none

pub returns-then-not-is_name-clause-no : goal.returns-then-not-is_name-clause-no
returns-then-not-is_name-clause-no c = λ _.
    other_section c.args.count c.args.id c.args.content.now c.in-Some.name.now c.take_sized.new.input.now
    c.in-Some.ensures.taken (c.if-not-is_name.ensures.no refl)

pub returns-clause-yes : goal.returns-clause-yes
returns-clause-yes c = λ holds.
    unread_section c.args.count c.args.id c.args.content.now c.take_sized.new.input.now (search rules)
    (as_name c.in-Some.name.now c.args.content.now c.take_sized.new.input.now c.in-Some.ensures.taken
    (c.if-not-is_name.ensures.yes refl))
    (c.are_subsections.ensures.no (not-true c.are_subsections.result holds))

pub returns-clause-no : goal.returns-clause-no
returns-clause-no c = λ fails.
    read_section c.args.count c.args.id c.args.content.now c.take_sized.new.input.now
    (as_name c.in-Some.name.now c.args.content.now c.take_sized.new.input.now c.in-Some.ensures.taken
    (c.if-not-is_name.ensures.yes refl))
    (c.are_subsections.ensures.yes (not-false c.are_subsections.result fails))
