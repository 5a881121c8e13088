use Rattle.std.proofs.Common.{arith}
use Rattle.wasm_binary.proofs.Modules.CustomNames.{name_there, no_name_bad, no_name_short}
use Rattle.wasm_binary.proofs.module.custom.name_in.Goals as goal

pub returns-in_default-clause-none : goal.returns-in_default-clause-none
returns-in_default-clause-none c = no_name_bad c.args.content.now c.in_default.field-0 c.in_default.ensures

pub returns-then-length-rest-clause-none : goal.returns-then-length-rest-clause-none
returns-then-length-rest-clause-none c =
    no_name_short c.args.content.now c.in-Ok.rest.now c.in-Ok.length c.in-Ok.ensures c.if-length-rest.true

pub returns-clause-found : goal.returns-clause-found
returns-clause-found c =
    name_there c.args.content.now c.in-Ok.rest.now c.in-Ok.length c.in-Ok.ensures
    (omega (arith, c.if-length-rest.false))
