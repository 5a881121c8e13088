-- What the types of a module mean after its indices were written again.
-- WebAssembly core specification, "Modules", indices: a type is named by its place in the type
-- section. Which types are equal is said by walrus_canonical.
use Rattle.std.specs.Prelude.{◌≡◌, ℕ, List, length, Some, slice_get}
use Rattle.wasm_binary.specs.ModuleSections.{HasTypes}
use Rattle.wasm_module.specs.NamedTypes.{NamesOutside}
use Rattle.wasm_module.specs.Renaming.{NewIndices, new_index}
use Rattle.walrus_sections.specs.Section.{index_space}
use Rattle.walrus_ty.specs.Groups.{Section}
use Rattle.walrus_ty.specs.Records.{section_of}
use Rattle.walrus_ty.specs.declared.records.GroupAt.{GroupAt}
use Rattle.walrus_canonical.specs.EqualTypes.{AreEqual}

-- each type that has a new index is equal to the type there
abbrev pub AreAllEqual : Section → Section → NewIndices → Type 0
AreAllEqual section other new_indices =
    (i j : ℕ) → new_index new_indices i ≡ Some j
    → AreEqual (index_space section) (index_space other) i j

-- as many types of the one section as of the other, and those at the same place are equal
pub record AreEqualInTurn (section other : Section) (types others : List ℕ) : Type 0 where
  pub as_many : length others ≡ length types
  pub equal :
      (place i j : ℕ) → slice_get types place ≡ Some i → slice_get others place ≡ Some j
      → AreEqual (index_space section) (index_space other) i j

-- Both are modules. The types that they name outside their type sections, from left to right, are
-- equal types.
pub record NameEqualTypes (bytes new : List ℕ) : Type 0 where
  pub groups : List GroupAt
  pub new_groups : List GroupAt
  pub read : HasTypes bytes groups
  pub new_read : HasTypes new new_groups
  pub names : List ℕ
  pub new_names : List ℕ
  pub named : NamesOutside bytes names
  pub new_named : NamesOutside new new_names
  pub equal : AreEqualInTurn (section_of groups) (section_of new_groups) names new_names
