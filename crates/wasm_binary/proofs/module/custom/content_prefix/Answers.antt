use Rattle.wasm_binary.proofs.Modules.Around.{no_size_there}
use Rattle.wasm_binary.proofs.Modules.CustomNames.{prefix_there, whole_prefix}
use Rattle.wasm_binary.proofs.module.custom.content_prefix.Goals as goal

pub returns-in_default-clause-none : goal.returns-in_default-clause-none
returns-in_default-clause-none c = no_size_there c.args.bytes.now c.in_default.field-0 c.in_default.ensures

pub returns-then-size-rest-clause-found : goal.returns-then-size-rest-clause-found
returns-then-size-rest-clause-found c =
    whole_prefix c.args.bytes.now c.in-Ok.rest.now c.in-Ok.size c.in-Ok.ensures c.if-size-rest.true

pub returns-clause-found : goal.returns-clause-found
returns-clause-found c = prefix_there c.args.bytes.now c.in-Ok.rest.now c.in-Ok.size c.in-Ok.ensures
