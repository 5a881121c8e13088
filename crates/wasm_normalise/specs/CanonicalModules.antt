-- Modules with their type sections in canonical form (`IsCanonicalModule`), and what stops that.
-- WebAssembly core specification, "Binary Format", "Type Section" and modules. The canonical form is
-- that of walrus_canonical.
use Rattle.std.specs.Prelude.{◌≡◌, ℕ, ◌≤◌, ◌⊎◌, List, length}
use Rattle.wasm_binary.specs.Faults.{HasNoText}
use Rattle.wasm_binary.specs.Grammar.{IsTypes}
use Rattle.wasm_binary.specs.ModuleSections.{HasTypes, HasBadTypesBy}
use Rattle.wasm_module.specs.Customs.{IsStripped}
use Rattle.wasm_module.specs.Outdated.{AllFit, HasOutdatedAt}
use Rattle.wasm_module.specs.NamedTypes.{NamesOutside}
use Rattle.wasm_module.specs.Renaming.{NewIndices}
use Rattle.wasm_module.specs.RenamedModules.{RenamesModule, CanNotBeRenamed, ModuleNamesUnknown, ModuleBecomesTooLong}
use Rattle.walrus_sections.specs.FirstError.{IsFirstError}
use Rattle.walrus_sections.specs.Section.{IsWellNamed, index_space}
use Rattle.walrus_sections.specs.declared.error.ReadError.{ReadError}
use Rattle.walrus_sections.specs.declared.error.ReadError.TheVariants as read
use Rattle.walrus_ty.specs.Groups.{Section}
use Rattle.walrus_ty.specs.Records.{section_of}
use Rattle.walrus_ty.specs.declared.records.GroupAt.{GroupAt}
use Rattle.walrus_canonical.specs.Listing.{IsCanonical, all_indices}
use Rattle.walrus_canonical.specs.Roots.{IsFirstUnknown}
use Rattle.wasm_normalise.specs.declared.error.NormaliseModuleError.{NormaliseModuleError}
use Rattle.wasm_normalise.specs.declared.error.NormaliseModuleError.TheVariants as error
use Rattle.wasm_normalise.specs.declared.options.Descriptions.{Descriptions}
use Rattle.wasm_normalise.specs.declared.options.Descriptions.TheVariants as descriptions
use Rattle.wasm_normalise.specs.declared.options.NormaliseOptions.{NormaliseOptions}
use Rattle.wasm_normalise.specs.declared.options.UnusedTypes.{UnusedTypes}
use Rattle.wasm_normalise.specs.declared.options.UnusedTypes.TheVariants as kinds

-- The types of a module that are wanted for themselves: all of them, or where unused types are
-- deleted, those that the module names outside its type section.
abbrev pub AreRoots : UnusedTypes → List ℕ → Section → List ℕ → Type 0
AreRoots kinds.Kept bytes section roots = roots ≡ all_indices section
AreRoots kinds.Deleted bytes section roots = NamesOutside bytes roots

-- The bytes are a module whose types have this canonical form, with the new index of each. It has
-- the types that the roots need.
pub record HasCanonicalForm (unused : UnusedTypes) (bytes : List ℕ) (canonical : List GroupAt)
    (new_indices : NewIndices) : Type 0 where
  pub groups : List GroupAt
  pub read : HasTypes bytes groups
  pub well_named : IsWellNamed (section_of groups)
  pub roots : List ℕ
  pub are_roots : AreRoots unused bytes (section_of groups) roots
  pub is_canonical : IsCanonical (section_of groups) roots (section_of canonical) new_indices

-- the bytes are a text of these groups, and none is shorter
pub record IsShortest (bytes : List ℕ) (groups : List GroupAt) : Type 0 where
  pub is_text : IsTypes bytes groups
  pub least : (others : List ℕ) → IsTypes others groups → length bytes ≤ length others

-- `types` is the content of a type section with the canonical form of a module's types
pub record HasCanonicalTypes (unused : UnusedTypes) (bytes types : List ℕ)
    (new_indices : NewIndices) : Type 0 where
  pub canonical : List GroupAt
  pub has : HasCanonicalForm unused bytes canonical new_indices
  pub written : IsShortest types canonical

-- The module that is written again: all of it, or what is left without the sections that describe
-- other bytes.
abbrev pub IsLeft : Descriptions → List ℕ → List ℕ → Type 0
IsLeft descriptions.Kept bytes left = left ≡ bytes
IsLeft descriptions.Stripped bytes left = IsStripped bytes left

-- The bytes are a module, and `new` is what is left of it with its type section in canonical form:
-- each index of a type is the new one.
pub record IsCanonicalModule (options : NormaliseOptions) (bytes new : List ℕ) : Type 0 where
  pub types : List ℕ
  pub new_indices : NewIndices
  pub has : HasCanonicalTypes options.unused bytes types new_indices
  pub left : List ℕ
  pub is_left : IsLeft options.descriptions bytes left
  pub renamed : RenamesModule types new_indices options.widths left new

-- all bytes stay, or at least all that its custom sections describe
abbrev pub DescriptionsFit : List ℕ → List ℕ → Type 0
DescriptionsFit bytes new = (new ≡ bytes) ⊎ AllFit bytes new

-- ---- what is refused

-- the bytes are a module whose type section has this first error
pub record HasFirstError (bytes : List ℕ) (e : ReadError) : Type 0 where
  pub groups : List GroupAt
  pub read : HasTypes bytes groups
  pub first : IsFirstError (section_of groups) e

-- What an error says of the type section, or of bytes that are no module. Refused memory says
-- nothing, and no other error can come.
abbrev pub HasTypesError : List ℕ → NormaliseModuleError → Type 0
HasTypesError bytes (error.Types e) = HasBadTypesBy bytes e
HasTypesError bytes (error.BadIndex entry index end) =
    HasFirstError bytes (read.BadIndex entry index end)
HasTypesError bytes error.TooMany = HasFirstError bytes read.TooMany
HasTypesError bytes (error.Malformed place) = ⊥
HasTypesError bytes (error.UnknownType index count place) = ⊥
HasTypesError bytes error.TooLong = ⊥
HasTypesError bytes (error.Outdated offset) = ⊥
HasTypesError bytes error.Memory = Unit {0}

-- the bytes are a module of this many types
pub record HasCount (bytes : List ℕ) (count : ℕ) : Type 0 where
  pub groups : List GroupAt
  pub read : HasTypes bytes groups
  pub same : count ≡ (index_space (section_of groups)).count

-- no types are the ones that the module names, since a section is malformed
abbrev pub NamesNoTypes : List ℕ → Type 0
NamesNoTypes bytes = (names : List ℕ) → NamesOutside bytes names → ⊥

-- of the types that the module names outside its type section, one is the first that it does not
-- have
pub record HasUnknownRoot (bytes : List ℕ) : Type 0 where
  pub groups : List GroupAt
  pub roots : List ℕ
  pub read : HasTypes bytes groups
  pub named : NamesOutside bytes roots
  pub index : ℕ
  pub unknown : IsFirstUnknown (index_space (section_of groups)).count roots index

-- no roots say which types are used
abbrev pub HasNoKnownRoots : List ℕ → Type 0
HasNoKnownRoots bytes = NamesNoTypes bytes ⊎ HasUnknownRoot bytes

-- A section other than the type section is malformed, or it names a type that has no new index.
-- This is found where unused types are deleted, or in what is left of the module.
pub data IsStoppedByFault (options : NormaliseOptions) (bytes : List ℕ) : Type 0 where
  unread :
      options.unused ≡ kinds.Deleted → HasNoKnownRoots bytes → IsStoppedByFault options bytes
  malformed :
      (left : List ℕ) → IsLeft options.descriptions bytes left → CanNotBeRenamed left
      → IsStoppedByFault options bytes
  unknown :
      (types left : List ℕ) (new_indices : NewIndices) (k : ℕ)
      → HasCanonicalTypes options.unused bytes types new_indices
      → IsLeft options.descriptions bytes left
      → ModuleNamesUnknown types new_indices options.widths k left
      → IsStoppedByFault options bytes

-- Its canonical form has no text, since a list in it is too long to be counted; or a section or a
-- function body becomes too long.
pub data BecomesTooLong (options : NormaliseOptions) (bytes : List ℕ) : Type 0 where
  no_text :
      (canonical : List GroupAt) (new_indices : NewIndices)
      → HasCanonicalForm options.unused bytes canonical new_indices
      → HasNoText IsTypes canonical → BecomesTooLong options bytes
  renamed :
      (types left : List ℕ) (new_indices : NewIndices)
      → HasCanonicalTypes options.unused bytes types new_indices
      → IsLeft options.descriptions bytes left
      → ModuleBecomesTooLong types new_indices options.widths left → BecomesTooLong options bytes

-- Sections that describe other bytes are kept, and the first one that no longer fits where the
-- module is in canonical form begins at this place.
pub record BecomesOutdated (options : NormaliseOptions) (offset : ℕ) (bytes : List ℕ) :
    Type 0 where
  pub new : List ℕ
  pub is_canonical : IsCanonicalModule options bytes new
  pub are_kept : options.descriptions ≡ descriptions.Kept
  pub differs : new ≡ bytes → ⊥
  pub has : HasOutdatedAt bytes new offset

-- What an error says of bytes of which no such module is made. Refused memory says nothing.
abbrev pub IsRefusedBy : NormaliseOptions → List ℕ → NormaliseModuleError → Type 0
IsRefusedBy options bytes (error.Types e) = HasBadTypesBy bytes e
IsRefusedBy options bytes (error.BadIndex entry index end) =
    HasFirstError bytes (read.BadIndex entry index end)
IsRefusedBy options bytes error.TooMany = HasFirstError bytes read.TooMany
IsRefusedBy options bytes (error.Malformed place) =
    IsStoppedByFault options bytes × CanNotBeRenamed bytes
IsRefusedBy options bytes (error.UnknownType index count place) =
    IsStoppedByFault options bytes × HasCount bytes count
IsRefusedBy options bytes error.TooLong = BecomesTooLong options bytes
IsRefusedBy options bytes (error.Outdated offset) = BecomesOutdated options offset bytes
IsRefusedBy options bytes error.Memory = Unit {0}
