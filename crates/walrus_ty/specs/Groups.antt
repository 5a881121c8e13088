-- The contents of the recursion groups of a type section.
-- WebAssembly core specification, "Types": recursive types (`rectype`: a recursion group).
-- A `Single` is the abbreviation by which a group of one is written without `rec`; here it is told
-- apart from a `Rec` of one.
use Rattle.std.specs.Prelude.{List}
use Rattle.walrus_ty.specs.Definition.{Definition}

pub data Group : Type 0 where
  Single : (definition : Definition) → Group
  Rec : (definitions : List Definition) → Group

abbrev pub Section : Type 0
Section = List Group
