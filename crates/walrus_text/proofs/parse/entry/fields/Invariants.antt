use Rattle.std.proofs.Common.{◌≡◌, ◌++◌, length, map}
use Rattle.walrus_text.specs.Words.{words_of}
use Rattle.walrus_text.specs.Text.{AreIndices, field_word}
use Rattle.std.specs.List.{flat_map}
use Rattle.walrus_ty.specs.Value.{field_names}
use Rattle.walrus_text.proofs.parse.entry.fields.Given as goal

abbrev pub invariant-loop-field : goal.invariant-loop-field
invariant-loop-field l = (words_of l.line ≡ map field_word l.fields.items ++ words_of l.rest)
    × AreIndices (flat_map field_names l.fields.items)

abbrev pub decreases-loop-field : goal.decreases-loop-field
decreases-loop-field l = length l.rest
