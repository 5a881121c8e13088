use Rattle.std.proofs.Common.{map, take}
use Rattle.std.specs.Io.KnownBytes.{Appends}
use Rattle.walrus_text.specs.Words.{space_before_each}
use Rattle.walrus_text.specs.Text.{val_word}
use Rattle.walrus_text.proofs.print.write_values.Given as goal

abbrev pub invariant-loop-value : goal.invariant-loop-value
invariant-loop-value g l = Appends (g.W.Write.contents l.fn.out) (g.W.Write.contents l.out)
    (space_before_each (map val_word (take l.value-index l.values)))
