use Rattle.std.proofs.Common.{◌≡◌, ◌++◌, length, map}
use Rattle.walrus_text.specs.Words.{words_of}
use Rattle.walrus_text.specs.Text.{AreIndices, val_word}
use Rattle.std.specs.List.{flat_map}
use Rattle.walrus_ty.specs.Value.{val_names}
use Rattle.walrus_text.proofs.parse.entry.values.Given as goal

abbrev pub invariant-loop-value : goal.invariant-loop-value
invariant-loop-value l = (words_of l.line ≡ map val_word l.values.items ++ words_of l.rest)
    × AreIndices (flat_map val_names l.values.items)

abbrev pub decreases-loop-value : goal.decreases-loop-value
decreases-loop-value l = length l.rest
