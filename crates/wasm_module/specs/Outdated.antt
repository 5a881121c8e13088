-- Custom sections that describe other bytes of their module, and no longer fit where the module is
-- written again.
-- WebAssembly core specification, "Binary Format", "Custom Section". The names are conventions of
-- tools.
use Rattle.std.specs.Prelude.{◌≡◌, ℕ, List, ◌∷◌, ◌++◌}
use Rattle.std.specs.List.{All}
use Rattle.wasm_module.specs.declared.description_kinds.DescriptionKind.{DescriptionKind}
use Rattle.wasm_module.specs.declared.description_kinds.DescriptionKind.TheVariants as kind
use Rattle.wasm_module.specs.declared.renaming.Widths.{Widths}
use Rattle.wasm_module.specs.Customs.{IsDescriptionOf, HasSections}
use Rattle.wasm_module.specs.Lengths.{HasContent, HasLengthsInCode, HasLengthsToCodeEnd}
use Rattle.wasm_module.specs.NamedTypes.{code_id}
use Rattle.wasm_module.specs.RenamedModules.{RenamesModule}
use Rattle.wasm_module.specs.Renaming.{NewIndices}
use Rattle.wasm_module.specs.Sections.{PlacedSection}

-- ---- what changes of a module

-- the module becomes `new` by some types, new indices and widths
pub record IsWrittenAgain (bytes new : List ℕ) : Type 0 where
  pub types : List ℕ
  pub new_indices : NewIndices
  pub widths : Widths
  pub renames : RenamesModule types new_indices widths bytes new

abbrev pub data_id : ℕ
data_id = 11

-- both modules have the same of what `Has` says
pub record HaveSame {A : Type 0} (Has : List ℕ → A → Type 0) (bytes new : List ℕ) : Type 0 where
  pub same : A
  pub before : Has bytes same
  pub after : Has new same

-- what sections of this kind describe stays
abbrev pub Stays : DescriptionKind → List ℕ → List ℕ → Type 0
Stays kind.CodeOffsets bytes new = HaveSame HasLengthsInCode bytes new
Stays kind.FileOffsets bytes new = HaveSame HasLengthsToCodeEnd bytes new
Stays kind.CodeAndData bytes new =
    HaveSame (HasContent code_id) bytes new × HaveSame (HasContent data_id) bytes new
Stays kind.AllBytes bytes new = new ≡ bytes

-- ---- which sections no longer fit

-- whatever the section describes stays
abbrev pub Fits : List ℕ → List ℕ → PlacedSection → Type 0
Fits bytes new s =
    (kind : DescriptionKind) → IsDescriptionOf kind s.framed → Stays kind bytes new

-- what the section describes changes
pub record IsOutdated (bytes new : List ℕ) (s : PlacedSection) : Type 0 where
  pub kind : DescriptionKind
  pub describes : IsDescriptionOf kind s.framed
  pub changes : Stays kind bytes new → ⊥

-- all sections of the module fit where it becomes `new`
pub record AllFit (bytes new : List ℕ) : Type 0 where
  pub sections : List PlacedSection
  pub has : HasSections bytes sections
  pub fit : All (Fits bytes new) sections

-- where the module becomes `new`, its first section that no longer fits begins at this place
pub record HasOutdatedAt (bytes new : List ℕ) (offset : ℕ) : Type 0 where
  pub before : List PlacedSection
  pub first : PlacedSection
  pub behind : List PlacedSection
  pub has : HasSections bytes (before ++ first ∷ behind)
  pub fit : All (Fits bytes new) before
  pub is_outdated : IsOutdated bytes new first
  pub place : first.offset ≡ offset
