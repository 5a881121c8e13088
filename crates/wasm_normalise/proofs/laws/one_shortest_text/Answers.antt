use Rattle.wasm_normalise.proofs.ShortestTexts.{shortest_types_once}
use Rattle.wasm_normalise.proofs.laws.one_shortest_text.Goals as goal

pub returns : goal.returns
returns c = λ groups a b h k. shortest_types_once a b groups h.is_text k.is_text h.least k.least
