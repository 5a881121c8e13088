use Rattle.std.proofs.Common.{◌≡◌, drop}
use Rattle.std.specs.Cmp.Lexicographic.{slice_cmp}
use Rattle.walrus_canonical.specs.Steps.Shown.{entry_cmp}
use Rattle.walrus_canonical.proofs.comparing.compare_records.Given as goal

abbrev pub invariant-loop-at : goal.invariant-loop-at
invariant-loop-at l =
    slice_cmp entry_cmp (drop l.at l.entries) (drop l.at l.others) ≡ slice_cmp entry_cmp l.entries l.others
