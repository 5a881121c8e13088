use Rattle.std.proofs.Common.{◌≡◌, map, take}
use Rattle.walrus_sections.specs.NormalForm.{image}
use Rattle.walrus_ty.specs.Value.{rename_val}
use Rattle.walrus_normal_form_check.proofs.renaming.rename_vals.Given as goal

abbrev pub invariant-loop-val : goal.invariant-loop-val
invariant-loop-val l = l.all.items ≡ map (rename_val (image l.indices)) (take l.val-index l.vals)
