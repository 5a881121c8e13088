use Rattle.wasm_normalise.proofs.SecondRound.{made_again, second_unchanged, again_after_deleting, unchanged_after_deleting}
use Rattle.wasm_normalise.proofs.laws.second_round.Goals as goal

pub returns-clause-itself : goal.returns-clause-itself
returns-clause-itself c = made_again

pub returns-clause-unchanged : goal.returns-clause-unchanged
returns-clause-unchanged c = second_unchanged

pub returns-clause-itself_after_deleting : goal.returns-clause-itself_after_deleting
returns-clause-itself_after_deleting c = again_after_deleting

pub returns-clause-unchanged_after_deleting : goal.returns-clause-unchanged_after_deleting
returns-clause-unchanged_after_deleting c = unchanged_after_deleting
