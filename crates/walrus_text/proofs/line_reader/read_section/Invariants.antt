use Rattle.std.proofs.Common.{ℕ, ◌≤◌, ◌*◌, List, length}
use Rattle.std.specs.Io.KnownBytes.{Consumes}
use Rattle.walrus_text.specs.Steps.Bytes.{HasReadBytes}
use Rattle.walrus_text.proofs.line_reader.read_section.Given as goal

abbrev pub invariant-loop-turn : goal.invariant-loop-turn
invariant-loop-turn g l = (bytes : List ℕ) × HasReadBytes l.lines bytes
    × Consumes (g.R.Read.remaining l.fn.reader) (g.R.Read.remaining l.reader) bytes
    × (length bytes ≤ l.turn * 8192)
