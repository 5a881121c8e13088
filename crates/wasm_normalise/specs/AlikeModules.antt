-- Modules that differ in nothing but their lists of types (`DifferInLists`).
-- WebAssembly core specification, "Modules", types: a type is named by its index, so where the list
-- is another one its names are others.
use Rattle.std.specs.Prelude.{ℕ, List}
use Rattle.wasm_binary.specs.ModuleSections.{HasTypes}
use Rattle.wasm_module.specs.Alike.{Pairing, AreAlike}
use Rattle.walrus_canonical.specs.EqualTypes.{AreEqual}
use Rattle.walrus_canonical.specs.Listing.{AreAmong, IsNeeded}
use Rattle.walrus_sections.specs.Section.{index_space}
use Rattle.walrus_ty.specs.Groups.{Section}
use Rattle.walrus_ty.specs.Records.{section_of}
use Rattle.walrus_ty.specs.declared.records.GroupAt.{GroupAt}
use Rattle.wasm_normalise.specs.CanonicalModules.{AreRoots, IsLeft}
use Rattle.wasm_normalise.specs.declared.options.NormaliseOptions.{NormaliseOptions}

-- both types are needed, and they are equal
abbrev pub BelongTogether : Section → List ℕ → Section → List ℕ → Pairing
BelongTogether section roots other other_roots i j =
    IsNeeded (index_space section) roots i × IsNeeded (index_space other) other_roots j
    × AreEqual (index_space section) (index_space other) i j

-- The bytes are two modules. Each needed type of either is equal to a needed type of the other: all
-- types are needed, or where unused ones are deleted, those that the module uses. And what is left of
-- the modules is the same but for what the type sections contain, for indices at the same place of
-- equal types, and for sizes.
pub record DifferInLists (options : NormaliseOptions) (bytes other : List ℕ) : Type 0 where
  pub groups : List GroupAt
  pub other_groups : List GroupAt
  pub read : HasTypes bytes groups
  pub other_read : HasTypes other other_groups
  pub roots : List ℕ
  pub other_roots : List ℕ
  pub are_roots : AreRoots options.unused bytes (section_of groups) roots
  pub other_are_roots : AreRoots options.unused other (section_of other_groups) other_roots
  pub among : AreAmong (section_of groups) roots (section_of other_groups) other_roots
  pub among_back : AreAmong (section_of other_groups) other_roots (section_of groups) roots
  pub left : List ℕ
  pub other_left : List ℕ
  pub is_left : IsLeft options.descriptions bytes left
  pub other_is_left : IsLeft options.descriptions other other_left
  pub alike :
      AreAlike (BelongTogether (section_of groups) roots (section_of other_groups) other_roots)
      (index_space (section_of groups)).count (index_space (section_of other_groups)).count left other_left
