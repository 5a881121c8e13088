use Rattle.wasm_binary.proofs.Modules.Around.{no_size_there}
use Rattle.wasm_binary.proofs.module.around.size_at.Goals as goal

pub returns-in-Err-clause-none : goal.returns-in-Err-clause-none
returns-in-Err-clause-none c = no_size_there c.args.bytes.now c.in-Err.field-0 c.in-Err.ensures
