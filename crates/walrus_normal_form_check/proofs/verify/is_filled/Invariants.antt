use Rattle.std.proofs.Common.{◌↔◌, drop}
use Rattle.walrus_ty.specs.Records.{section_of}
use Rattle.walrus_sections.specs.Section.{IsFilled}
use Rattle.walrus_normal_form_check.proofs.verify.is_filled.Given as goal

abbrev pub invariant-loop-group : goal.invariant-loop-group
invariant-loop-group l = IsFilled (section_of (drop l.group-index l.groups)) ↔ IsFilled (section_of l.groups)
