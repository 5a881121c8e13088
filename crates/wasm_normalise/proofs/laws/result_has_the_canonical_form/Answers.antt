use Rattle.wasm_normalise.proofs.SecondRound.{has_canonical}
use Rattle.wasm_normalise.proofs.laws.result_has_the_canonical_form.Goals as goal

pub returns : goal.returns
returns c = λ options bytes new h. (
  h.has.canonical,
  h.new_indices,
  h.has.has,
  has_canonical options bytes new h,
)
