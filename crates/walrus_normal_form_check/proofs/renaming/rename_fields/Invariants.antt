use Rattle.std.proofs.Common.{◌≡◌, map, take}
use Rattle.walrus_sections.specs.NormalForm.{image}
use Rattle.walrus_ty.specs.Value.{rename_field}
use Rattle.walrus_normal_form_check.proofs.renaming.rename_fields.Given as goal

abbrev pub invariant-loop-field : goal.invariant-loop-field
invariant-loop-field l = l.all.items ≡ map (rename_field (image l.indices)) (take l.field-index l.fields)
