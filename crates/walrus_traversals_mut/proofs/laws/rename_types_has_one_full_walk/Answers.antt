use Rattle.walrus_traversals_mut.proofs.RenamedBodies.{renames_has_steps, renames_keeps_nesting, renames_is_function}
use Rattle.walrus_traversals_mut.proofs.laws.rename_types_has_one_full_walk.Goals as goal

pub returns-clause-has_steps : goal.returns-clause-has_steps
returns-clause-has_steps c = renames_has_steps

pub returns-clause-keeps_nesting : goal.returns-clause-keeps_nesting
returns-clause-keeps_nesting c = renames_keeps_nesting

pub returns-clause-is_function : goal.returns-clause-is_function
returns-clause-is_function c = renames_is_function

pub returns-clause-one : goal.returns-clause-one
returns-clause-one c s id n =
    let t = c.nested_sequences_have_a_full_walk.ensures renames_has_steps renames_keeps_nesting s id n in
    (t.0, t.1, λ u k. c.full_walks_are_determined.ensures renames_is_function s u t.0 id k t.1)
