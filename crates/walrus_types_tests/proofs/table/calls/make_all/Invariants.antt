use denote.Shadow.{shadow}
use denote.Text.{Utf8}
use Rattle.walrus_types_tests.proofs.table.calls.make_all.Given as goal

-- a name is text
abbrev pub invariant-loop-line : goal.invariant-loop-line
invariant-loop-line g l = shadow (Utf8 l.name)
