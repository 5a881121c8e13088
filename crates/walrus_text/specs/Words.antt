-- Lines and words of a text, as bytes: what counts in a text that is read, and how a line is
-- written.
-- The text is this crate's own; the WebAssembly specification has none for a type section alone.
use Rattle.std.specs.Prelude.{ℕ, Bool, true, false, List, [], ◌∷◌, ◌++◌, ◌==◌, map, filter, take}
use Rattle.std.specs.List.{flat_map, slice_split}

abbrev pub has_items : {X : Type 0} → List X → Bool
has_items [] = false
has_items (x ∷ xs) = true

-- the words of a line: what stands between spaces
abbrev pub words_of : List ℕ → List (List ℕ)
words_of line = filter has_items (slice_split (λ b. b == 32) line)

-- the words of each of these lines that has any
abbrev pub lines_with_words : List (List ℕ) → List (List (List ℕ))
lines_with_words lines = filter has_items (map words_of lines)

-- the words of each line of a text that has any; a line ends with a line feed, which the last one
-- may lack
abbrev pub lines_of : List ℕ → List (List (List ℕ))
lines_of text = lines_with_words (slice_split (λ b. b == 10) text)

-- these parts of a text without the last one, if that is empty
abbrev pub without_empty_last : List (List ℕ) → List (List ℕ)
without_empty_last [] = []
without_empty_last (part ∷ []) = filter has_items (part ∷ [])
without_empty_last (part ∷ next ∷ parts) = part ∷ without_empty_last (next ∷ parts)

-- all lines of a text, as bytes: no line begins behind the last line feed unless a byte is there
abbrev pub all_lines : List ℕ → List (List ℕ)
all_lines text = without_empty_last (slice_split (λ b. b == 10) text)

-- the words of each of the first lines, so many, that has any
abbrev pub first_lines : ℕ → List ℕ → List (List (List ℕ))
first_lines count text = lines_with_words (take count (all_lines text))

-- words, each with a space before it
abbrev pub space_before_each : List (List ℕ) → List ℕ
space_before_each ws = flat_map (λ w. 32 ∷ w) ws

-- words with one space between them
abbrev pub line_text : List (List ℕ) → List ℕ
line_text [] = []
line_text (w ∷ ws) = w ++ space_before_each ws

-- lines of words, with one space between words and a line feed after each line
abbrev pub text_of : List (List (List ℕ)) → List ℕ
text_of lines = flat_map (λ ws. line_text ws ++ 10 ∷ []) lines
