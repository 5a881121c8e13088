-- Words of one line, as the parser meets them.
use Rattle.std.specs.Prelude.{ℕ, List, [], ◌∷◌, filter}
use Rattle.walrus_text.specs.Words.{has_items, words_of}

-- the words of one line, where it has any
abbrev pub words_if_any : List ℕ → List (List (List ℕ))
words_if_any line = filter has_items (words_of line ∷ [])
