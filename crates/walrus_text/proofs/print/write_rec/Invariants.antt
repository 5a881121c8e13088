use Rattle.std.proofs.Common.{[], ◌∷◌, map, take}
use Rattle.std.specs.Prelude.{codes}
use Rattle.std.specs.Io.KnownBytes.{Appends}
use Rattle.walrus_text.specs.Words.{text_of}
use Rattle.walrus_text.specs.Text.{entry_words}
use Rattle.walrus_text.proofs.print.write_rec.Given as goal

abbrev pub invariant-loop-entry : goal.invariant-loop-entry
invariant-loop-entry g l = Appends (g.W.Write.contents l.fn.out) (g.W.Write.contents l.out)
    (text_of ((codes "rec" ∷ []) ∷ map entry_words (take l.entry-index l.entries)))
