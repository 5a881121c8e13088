-- The lines that a section was built from, `builder_lines`.
use Rattle.std.specs.Prelude.{ℕ, List, [], ◌∷◌, ◌++◌, map, Option, Some, None, IsSome, codes}
use Rattle.std.specs.List.{AllByRecursion}
use Rattle.walrus_ty.specs.Definition.{names_of}
use Rattle.walrus_ty.specs.Records.{entry_definition}
use Rattle.walrus_ty.specs.declared.records.EntryAt.{EntryAt}
use Rattle.std.specs.declared.vec.Vec.{Vec}
use Rattle.std.specs.declared.alloc.Global.{Global}
use Rattle.walrus_text.specs.declared.section_builder.SectionBuilder.{SectionBuilder}
use Rattle.walrus_text.specs.Text.{entry_words, section_lines, AreIndices, HasGroupIndices}

-- the lines of a recursion group that is open
abbrev pub open_lines : Option (Vec EntryAt Global) → List (List (List ℕ))
open_lines None = []
open_lines (Some entries) = (codes "rec" ∷ []) ∷ map entry_words entries.items

-- the lines that the groups so far and the open one came from
abbrev pub builder_lines : SectionBuilder → List (List (List ℕ))
builder_lines builder = section_lines builder.groups.items ++ open_lines builder.open

-- the numbers in a recursion group that is open can stand for types
abbrev pub HasOpenIndices : Option (Vec EntryAt Global) → Type 0
HasOpenIndices None = Unit {0}
HasOpenIndices (Some entries) =
    AllByRecursion (λ e. AreIndices (names_of (entry_definition e))) entries.items

-- the numbers in the groups so far and the open one can
abbrev pub HasBuilderIndices : SectionBuilder → Type 0
HasBuilderIndices builder =
    AllByRecursion HasGroupIndices builder.groups.items × HasOpenIndices builder.open

-- a recursion group is open
abbrev pub IsInGroup : SectionBuilder → Type 0
IsInGroup builder = IsSome builder.open
