use Rattle.std.proofs.Common.{◌≡◌, take}
use Rattle.walrus_ty.specs.Records.{section_of}
use Rattle.walrus_sections.specs.Section.{index_space}
use Rattle.walrus_types.proofs.difference.entries_before.Given as goal

abbrev pub invariant-loop-before : goal.invariant-loop-before
invariant-loop-before l = l.count ≡ (index_space (section_of (take l.before l.groups))).count
