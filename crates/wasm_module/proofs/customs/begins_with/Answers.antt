use Rattle.wasm_module.proofs.Descriptions.{begins}
use Rattle.wasm_module.proofs.customs.begins_with.Goals as goal

pub returns-clause-yes : goal.returns-clause-yes
returns-clause-yes c = λ holds. begins c.args.bytes.now c.args.prefix.now c.starts_with.result
    c.starts_with.ensures.value holds
