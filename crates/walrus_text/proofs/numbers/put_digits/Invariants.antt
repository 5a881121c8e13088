use Rattle.std.proofs.Common.{◌≡◌, ◌+◌, ◌≤◌, ◌++◌, length, drop}
use Rattle.std.specs.Prelude.{decimal}
use Rattle.walrus_text.proofs.numbers.put_digits.Given as goal

abbrev pub invariant-loop-left : goal.invariant-loop-left
invariant-loop-left l =
    (l.at ≤ 11) × (length l.bytes ≡ 11)
    × (l.at + length (decimal l.number) ≡ 11 + length (decimal l.left))
    × (decimal l.left ++ drop l.at l.bytes ≡ decimal l.number)

abbrev pub decreases-loop-left : goal.decreases-loop-left
decreases-loop-left l = l.left
