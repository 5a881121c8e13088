use Rattle.wasm_normalise.proofs.Meanings.{all_equal, name_equal_types}
use Rattle.wasm_normalise.proofs.SecondRound.{has_canonical}
use Rattle.wasm_normalise.proofs.laws.types_keep_their_meaning.Goals as goal

pub returns-clause-all : goal.returns-clause-all
returns-clause-all c = λ options bytes new h. (
  h.has.has.groups,
  h.has.canonical,
  h.has.has.read,
  has_canonical options bytes new h,
  all_equal options bytes new h,
)

pub returns-clause-named : goal.returns-clause-named
returns-clause-named c = name_equal_types
