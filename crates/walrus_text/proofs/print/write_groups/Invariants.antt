use Rattle.std.proofs.Common.{take}
use Rattle.std.specs.Io.KnownBytes.{Appends}
use Rattle.walrus_text.specs.Words.{text_of}
use Rattle.walrus_text.specs.Text.{section_lines}
use Rattle.walrus_text.proofs.print.write_groups.Given as goal

abbrev pub invariant-loop-group : goal.invariant-loop-group
invariant-loop-group g l = Appends (g.W.Write.contents l.fn.out) (g.W.Write.contents l.out)
    (text_of (section_lines (take l.group-index l.groups)))
