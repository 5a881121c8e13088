use Rattle.wasm_module.proofs.StrippedOnce.{stripped_once, renamed_is_stripped, no_types_before}
use Rattle.wasm_module.proofs.laws.one_stripped_module.Goals as goal

pub returns-clause-determined : goal.returns-clause-determined
returns-clause-determined c = stripped_once

pub returns-clause-stays : goal.returns-clause-stays
returns-clause-stays c = renamed_is_stripped

pub returns-clause-types : goal.returns-clause-types
returns-clause-types c = no_types_before
