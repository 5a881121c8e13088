use Rattle.std.proofs.Common.{rules}
use Rattle.walrus_traversals_mut.proofs.rename_types.RenameTypesVisitorMut.visit_type_id_mut.Goals as goal

pub returns-clause-ok : goal.returns-clause-ok
returns-clause-ok c = search rules
