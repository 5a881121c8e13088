use Rattle.std.proofs.Common.{◌≡◌, ◌++◌, map, take, drop}
use Rattle.walrus_ty.specs.Definition.{rename}
use Rattle.walrus_ty.specs.Records.{entry_definition}
use Rattle.walrus_sections.specs.NormalForm.{image}
use Rattle.walrus_normal_form.proofs.rename_group.rename_entries.Given as goal

abbrev pub invariant-loop-at : goal.invariant-loop-at
invariant-loop-at l =
    map entry_definition l.entries ≡
    map (rename (image l.numbers)) (take l.at (map entry_definition l.fn.entries)) ++
    drop l.at (map entry_definition l.fn.entries)
