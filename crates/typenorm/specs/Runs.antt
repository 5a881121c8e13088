-- What a run does: `IsNormalised` where its text has a normal form, `IsIllNamedText` where it has
-- none, and `GainsLine` where one line explains how it ended.
use Rattle.std.specs.Prelude.{ℕ, List, [], ◌∷◌, ◌++◌, Option, ◌≡◌, ◌≢◌, All}
use Rattle.walrus_ty.specs.declared.records.GroupAt.{GroupAt}
use Rattle.std.specs.Io.KnownBytes.{Appends}
use Rattle.walrus_sections.specs.NormalForm.{IsNormalForm}
use Rattle.walrus_ty.specs.Records.{section_of}
use Rattle.walrus_sections.specs.Section.{IsWellNamed}
use Rattle.walrus_text.specs.Text.{section_lines, output_text, HasSectionIndices}

-- the lines are those of a section whose numbers can stand for types, but that names what it may
-- not, or has too many entries
abbrev pub IsIllNamedText : List (List (List ℕ)) → Type 0
IsIllNamedText lines =
    (groups : List GroupAt) × HasSectionIndices groups × (lines ≡ section_lines groups) ×
    ¬ IsWellNamed (section_of groups)

-- The lines are a well-named section's, and a writer gained the text of its normal form, with the
-- line of the map. There is one section at most with these lines (`walrus_text::laws::same_lines`).
pub record IsNormalised (lines : List (List (List ℕ))) (old new : Option (List ℕ)) : Type 0 where
  pub section : List GroupAt
  pub fits : HasSectionIndices section
  pub read : lines ≡ section_lines section
  pub well_named : IsWellNamed (section_of section)
  pub output : List GroupAt
  pub map : List ℕ
  pub normal : IsNormalForm (section_of section) (section_of output) map
  pub written : Appends old new (output_text output map)

-- the bytes end with their only line feed
abbrev pub IsLine : List ℕ → Type 0
IsLine bytes = (text : List ℕ) × All (λ b. b ≢ 10) text × (bytes ≡ text ++ 10 ∷ [])

-- a writer gained one line, and nothing else
abbrev pub GainsLine : Option (List ℕ) → Option (List ℕ) → Type 0
GainsLine old new = (line : List ℕ) × IsLine line × Appends old new line
