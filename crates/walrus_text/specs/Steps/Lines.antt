-- The lines of a section one by one: `line_words`, the words of each kind of line.
use Rattle.std.specs.Prelude.{ℕ, List, [], ◌∷◌, codes}
use Rattle.walrus_ty.specs.Definition.{names_of}
use Rattle.walrus_ty.specs.Records.{entry_definition}
use Rattle.walrus_text.specs.declared.parse.line.Line.{Line}
use Rattle.walrus_text.specs.declared.parse.line.Line.TheVariants as line
use Rattle.walrus_text.specs.Text.{entry_words, AreIndices, IsText}

-- the words of a line
abbrev pub line_words : Line → List (List ℕ)
line_words line.Blank = []
line_words line.Begin = codes "rec" ∷ []
line_words line.End = codes "end" ∷ []
line_words (line.Entry e) = entry_words e

-- a line among those that have words
abbrev pub line_words_if_any : Line → List (List (List ℕ))
line_words_if_any line.Blank = []
line_words_if_any line.Begin = (codes "rec" ∷ []) ∷ []
line_words_if_any line.End = (codes "end" ∷ []) ∷ []
line_words_if_any (line.Entry e) = entry_words e ∷ []

-- the numbers in it can stand for types
abbrev pub HasIndices : Line → Type 0
HasIndices line.Blank = Unit {0}
HasIndices line.Begin = Unit {0}
HasIndices line.End = Unit {0}
HasIndices (line.Entry e) = AreIndices (names_of (entry_definition e))

abbrev pub IsLine : List (List ℕ) → Type 0
IsLine words = IsText line_words HasIndices words
