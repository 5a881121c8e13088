use Rattle.wasm_normalise.proofs.AlikeModules.{one_result}
use Rattle.wasm_normalise.proofs.laws.one_result_where_alike.Goals as goal

pub returns : goal.returns
returns c = one_result
