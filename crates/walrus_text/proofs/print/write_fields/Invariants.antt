use Rattle.std.proofs.Common.{map, take}
use Rattle.std.specs.Io.KnownBytes.{Appends}
use Rattle.walrus_text.specs.Words.{space_before_each}
use Rattle.walrus_text.specs.Text.{field_word}
use Rattle.walrus_text.proofs.print.write_fields.Given as goal

abbrev pub invariant-loop-field : goal.invariant-loop-field
invariant-loop-field g l = Appends (g.W.Write.contents l.fn.out) (g.W.Write.contents l.out)
    (space_before_each (map field_word (take l.field-index l.fields)))
