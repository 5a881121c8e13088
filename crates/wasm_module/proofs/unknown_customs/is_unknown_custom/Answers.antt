use Rattle.std.proofs.Common.{rules}
use Rattle.std.proofs.lemmas.Bool.{not-true}
use Rattle.wasm_module.proofs.UnknownSections.{unknown_of_name, unknown_nameless}
use Rattle.wasm_module.proofs.unknown_customs.is_unknown_custom.Goals as goal

pub returns-in-Some-clause-yes : goal.returns-in-Some-clause-yes
returns-in-Some-clause-yes c = λ holds. unknown_of_name c.args.allowed.now c.args.id c.args.content.now c.in-Some.name.now
    c.take_sized.new.input.now (search rules) c.in-Some.ensures.taken
    (c.is_known_name.ensures.no (not-true c.is_known_name.result holds))

pub returns-in-None-clause-yes : goal.returns-in-None-clause-yes
returns-in-None-clause-yes c = λ _. unknown_nameless c.args.allowed.now c.args.id c.args.content.now (search rules)
    c.in-None.ensures.none
