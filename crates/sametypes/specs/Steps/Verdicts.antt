-- What a verdict says, `IsVerdict`, and the line that says it.
use Rattle.std.specs.Prelude.{ℕ, List, Option, Some, None}
use Rattle.walrus_ty.specs.declared.records.GroupAt.{GroupAt}
use Rattle.walrus_ty.specs.Groups.{Section}
use Rattle.walrus_ty.specs.Records.{section_of}
use Rattle.walrus_sections.specs.Section.{IsWellNamed}
use Rattle.walrus_sections.specs.NormalForm.{IsOutput}
use Rattle.walrus_sections.specs.Moves.{AreJoined}
use Rattle.sametypes.specs.Runs.{HasSection, AreApart, HaveFirstDifference, same_line, difference_line}

-- the bytes have a section that can be read, and this is its normal form
pub record HasNormalForm (bytes : List ℕ) (form : List GroupAt) : Type 0 where
  pub section : List GroupAt
  pub read : HasSection bytes section
  pub well_named : IsWellNamed (section_of section)
  pub normal : IsOutput (section_of section) (section_of form)

-- what a verdict says of two sections: none that they are joined, an index where they differ
abbrev pub IsVerdict : Option ℕ → Section → Section → Type 0
IsVerdict None s t = AreJoined s t
IsVerdict (Some index) s t = AreApart s t × HaveFirstDifference index s t

abbrev pub verdict_line : Option ℕ → List ℕ
verdict_line None = same_line
verdict_line (Some index) = difference_line index
