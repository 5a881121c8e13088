use Rattle.std.proofs.Common.{rules}
use Rattle.walrus_sections.proofs.group_error.end_of.Goals as goal

pub returns-then-count-limit : goal.returns-then-count-limit
returns-then-count-limit c = search rules
