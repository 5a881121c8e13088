use Rattle.std.proofs.Common.{◌≡◌, ◌++◌, map, take, drop}
use Rattle.walrus_sections.specs.NormalForm.{image}
use Rattle.walrus_ty.specs.Value.{rename_val}
use Rattle.walrus_normal_form.proofs.rename.rename_vals.Given as goal

abbrev pub invariant-loop-at : goal.invariant-loop-at
invariant-loop-at l =
    l.vals ≡ map (rename_val (image l.numbers)) (take l.at l.fn.vals) ++ drop l.at l.fn.vals
