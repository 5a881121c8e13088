use Rattle.walrus_text.proofs.laws.words_alone_count.Goals as goal
use Rattle.walrus_text.proofs.Lexing.Spacing.{lines_of_same, same_from_lines}

pub returns : goal.returns
returns c = λ t u. (lines_of_same t u, same_from_lines t u)
