use Rattle.walrus_traversals_mut.proofs.RenamedBodies.{names_kept, body_renamed, rename_once, others_not_renamed}
use Rattle.walrus_traversals_mut.proofs.laws.rename_types_renames_the_body.Goals as goal

pub returns-clause-names : goal.returns-clause-names
returns-clause-names c = names_kept

pub returns-clause-body : goal.returns-clause-body
returns-clause-body c = body_renamed

pub returns-clause-once : goal.returns-clause-once
returns-clause-once c = rename_once

pub returns-clause-others : goal.returns-clause-others
returns-clause-others c = others_not_renamed
