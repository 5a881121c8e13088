use Rattle.std.proofs.Common.{◌≡◌, ◌+◌, drop, map}
use Rattle.walrus_ty.specs.Records.{entry_definition}
use Rattle.walrus_sections.specs.FirstError.{first_out_of_range, index_uses_from}
use Rattle.walrus_sections.proofs.group_error.bad_entry.Given as goal

abbrev pub invariant-loop-i : goal.invariant-loop-i
invariant-loop-i l = first_out_of_range l.end (index_uses_from l.start (map entry_definition l.entries)) ≡
    first_out_of_range l.end (index_uses_from (l.start + l.i) (map entry_definition (drop l.i l.entries)))
