-- `HasReadBytes`: what a line reader knows of the bytes that it was given.
use Rattle.std.specs.Prelude.{ℕ, false, List, ◌++◌, ◌==◌, ◌-◌, ◌^◌, ◌<◌, ◌≤◌, length, take, Option, Some, None, ◌≡◌, All}
use Rattle.std.specs.List.{slice_split}
use Rattle.walrus_text.specs.declared.error.BadLine.{BadLine}
use Rattle.walrus_text.specs.declared.line_reader.LineReader.{LineReader}
use Rattle.walrus_text.specs.declared.section_builder.SectionBuilder.{SectionBuilder}
use Rattle.walrus_text.specs.Words.{all_lines, lines_with_words}
use Rattle.walrus_text.specs.Text.{BeginsSection}
use Rattle.walrus_text.specs.Steps.Builder.{builder_lines, HasBuilderIndices}

-- a counter of 64 bits that stops at its greatest value counts so many
abbrev pub Counts : ℕ → ℕ → Type 0
Counts counter number = number < 2 ^ 64 → counter ≡ number

-- line `number` is the first bad one of these lines
pub record HasBadLine (bad : BadLine) (lines : List (List ℕ)) : Type 0 where
  pub number : ℕ
  pub counted : Counts bad.line number
  pub within : number ≤ length lines
  pub before : BeginsSection (lines_with_words (take (number - 1) lines))
  pub fails : ¬ BeginsSection (lines_with_words (take number lines))

-- these lines are what the builder was built from, or one of them was bad
abbrev pub HasChecked : SectionBuilder → Option BadLine → List (List ℕ) → Type 0
HasChecked section None lines = lines_with_words lines ≡ builder_lines section
HasChecked section (Some bad) lines = HasBadLine bad lines

-- no line feed is among these bytes
abbrev pub IsOneLine : List ℕ → Type 0
IsOneLine bytes = All (λ b. (b == 10) ≡ false) bytes

-- the reader was given these bytes: some lines, which are checked, and the beginning of one more
pub record HasReadBytes (reader : LineReader) (bytes : List ℕ) : Type 0 where
  pub lines : List (List ℕ)
  pub split :
      (rest : List ℕ) → slice_split (λ b. b == 10) (bytes ++ rest)
      ≡ lines ++ slice_split (λ b. b == 10) (reader.line.items ++ rest)
  pub one_line : IsOneLine reader.line.items
  pub counted : Counts reader.lines (length lines)
  pub checked : HasChecked reader.section reader.bad lines
  pub fits : HasBuilderIndices reader.section

-- the reader was given this text, and has checked all lines of it
pub record HasReadText (reader : LineReader) (text : List ℕ) : Type 0 where
  pub counted : Counts reader.lines (length (all_lines text))
  pub checked : HasChecked reader.section reader.bad (all_lines text)
  pub fits : HasBuilderIndices reader.section
