use Rattle.std.proofs.Common.{rules}
use Rattle.walrus_traversals_mut.proofs.rename_types.RenameTypes.rename_heap_type.Goals as goal

pub returns-in-Exact : goal.returns-in-Exact
returns-in-Exact c = search rules
