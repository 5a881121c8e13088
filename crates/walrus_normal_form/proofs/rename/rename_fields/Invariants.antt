use Rattle.std.proofs.Common.{◌≡◌, ◌++◌, map, take, drop}
use Rattle.walrus_sections.specs.NormalForm.{image}
use Rattle.walrus_ty.specs.Value.{rename_field}
use Rattle.walrus_normal_form.proofs.rename.rename_fields.Given as goal

abbrev pub invariant-loop-at : goal.invariant-loop-at
invariant-loop-at l =
    l.fields ≡ map (rename_field (image l.numbers)) (take l.at l.fn.fields) ++ drop l.at l.fn.fields
