use Rattle.std.proofs.Common.{length}
use Rattle.walrus_text.specs.Words.{words_of}
use Rattle.walrus_text.specs.Steps.Parts.{PassesOver, IsValWord}
use Rattle.walrus_text.proofs.parse.fault.after_values.Given as goal

abbrev pub invariant-loop-after : goal.invariant-loop-after
invariant-loop-after l = PassesOver IsValWord (words_of l.line) (words_of l.rest)

abbrev pub decreases-loop-after : goal.decreases-loop-after
decreases-loop-after l = length l.rest
