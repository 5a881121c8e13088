use Rattle.wasm_module.proofs.DescriptionNames.{no_kind_of_name, nameless}
use Rattle.wasm_module.proofs.description_kinds.description_kind.Goals as goal

pub returns-in-Some-clause-none : goal.returns-in-Some-clause-none
returns-in-Some-clause-none c =
    no_kind_of_name c.args.id c.args.content.now c.in-Some.name.now c.take_sized.new.input.now
    c.kind_of_name.result c.in-Some.ensures.taken c.kind_of_name.ensures.none

pub returns-in-None-clause-none : goal.returns-in-None-clause-none
returns-in-None-clause-none c = nameless c.args.id c.args.content.now c.in-None.ensures.none
