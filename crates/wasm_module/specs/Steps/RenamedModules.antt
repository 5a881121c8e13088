-- What is written of a module section by section.
use Rattle.std.specs.Prelude.{◌≡◌, ℕ, List, ◌∷◌, ◌++◌, length}
use Rattle.wasm_binary.specs.Modules.{section, IsSection}
use Rattle.wasm_module.specs.declared.renaming.Widths.{Widths}
use Rattle.wasm_module.specs.Changes.{IsMalformed}
use Rattle.wasm_module.specs.RenamedModules.{RenamesAny}
use Rattle.wasm_module.specs.RenamedSections.{NamesUnknownIn}
use Rattle.wasm_module.specs.Renaming.{NewIndices, IsTextOf}

-- all bytes of a section
abbrev pub IsWhole : List ℕ → ℕ → List ℕ → Type 0
IsWhole text id content = IsSection text (section id content)

-- a section with this content, whose size has this many bytes at least
pub record IsSectionOf (least : ℕ) (text : List ℕ) (id : ℕ) (content : List ℕ) : Type 0 where
  pub size : List ℕ
  pub is_size : IsTextOf 0x80 least size (length content)
  pub parts : text ≡ id ∷ (size ++ content)

-- the content is one of no section of this id, and it is not that of the type section
pub record IsMalformedSection (id : ℕ) (content : List ℕ) : Type 0 where
  pub other : id ≡ 1 → ⊥
  pub malformed : IsMalformed (RenamesAny id) content

-- the content names type k, which has no new index, and it is not that of the type section
pub record SectionNamesUnknown (new_indices : NewIndices) (widths : Widths) (k id : ℕ)
    (content : List ℕ) : Type 0 where
  pub other : id ≡ 1 → ⊥
  pub unknown : NamesUnknownIn id new_indices widths k content
