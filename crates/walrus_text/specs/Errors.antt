-- What a refusal says of a text.
use Rattle.std.specs.Prelude.{ℕ, List, length, Option, Some, None, ◌≡◌, ◌+◌, ◌-◌, ◌⊎◌}
use Rattle.walrus_text.specs.Words.{all_lines, first_lines, lines_of}
use Rattle.walrus_text.specs.Text.{BeginsSection, IsSectionText}
use Rattle.walrus_text.specs.declared.error.TextError.{TextError}
use Rattle.walrus_text.specs.declared.error.TextError.TheVariants as error

-- the line that it names, where it is for a text that is none of a section
abbrev pub bad_line : TextError → Option ℕ
bad_line (error.BadText bad) = Some bad.line
bad_line error.Memory = None
bad_line error.Stream = None

-- the lines before this one begin the text of some section, and with this one they begin none
abbrev pub IsFirstThatFails : List ℕ → ℕ → Type 0
IsFirstThatFails text line = BeginsSection (first_lines (line - 1) text)
    × ¬ BeginsSection (first_lines line text)

-- all lines begin the text of some section, and a group has no end
abbrev pub LacksEnd : List ℕ → Type 0
LacksEnd text = BeginsSection (lines_of text) × ¬ IsSectionText (lines_of text)

-- The first bad line of a text has this number, counted from 1, and lines without words count. If
-- an end is missing, it is the one after the last line.
abbrev pub IsFirstBadLine : List ℕ → ℕ → Type 0
IsFirstBadLine text line =
    IsFirstThatFails text line ⊎ ((line ≡ length (all_lines text) + 1) × LacksEnd text)
