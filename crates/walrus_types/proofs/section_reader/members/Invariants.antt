use Rattle.std.proofs.Common.{◌≡◌, map, take}
use Rattle.walrus_ty.specs.{Definition.rename, Records.entry_definition}
use Rattle.walrus_sections.specs.NormalForm.{image}
use Rattle.walrus_types.specs.Steps.TableReads.{member_definition}
use Rattle.walrus_types.proofs.section_reader.members.Given as goal

abbrev pub invariant-loop-entry : goal.invariant-loop-entry
invariant-loop-entry l = map member_definition l.members.items ≡ map (rename (image l.ids.types))
    (map entry_definition (take l.entry-index l.entries))
