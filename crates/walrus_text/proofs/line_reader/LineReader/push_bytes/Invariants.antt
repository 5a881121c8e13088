use Rattle.std.proofs.Common.{◌≡◌, ℕ, List, ◌++◌, length}
use Rattle.walrus_text.specs.Steps.Bytes.{HasReadBytes}
use Rattle.walrus_text.proofs.line_reader.LineReader.push_bytes.Given as goal

abbrev pub invariant-loop-line : goal.invariant-loop-line
invariant-loop-line l = (taken : List ℕ) × (l.block ≡ taken ++ l.rest)
    × ((bytes : List ℕ) → HasReadBytes l.fn.self bytes → HasReadBytes l.self (bytes ++ taken))

abbrev pub decreases-loop-line : goal.decreases-loop-line
decreases-loop-line l = length l.rest
