-- Modules with another type section, and with other indices of types everywhere else.
-- WebAssembly core specification, "Binary Format", modules and sections.
use Rattle.std.specs.Prelude.{◌≡◌, ℕ, ◌^◌, ◌≤◌, List, [], ◌∷◌, ◌++◌, length, map, Some}
use Rattle.std.specs.List.{range_with_len}
use Rattle.wasm_binary.specs.Leb128.{IsU32}
use Rattle.wasm_binary.specs.Modules.{Section, ids, IsModule, header}
use Rattle.wasm_module.specs.declared.renaming.Widths.{Widths}
use Rattle.wasm_module.specs.Changes.{ChangesSized, ChangeAll, BecomesTooLong, InSized, FirstIn}
use Rattle.wasm_module.specs.NameSections.{RenamesCustom, CustomBecomesTooLong}
use Rattle.wasm_module.specs.RenamedSections.{RenamesContent, NamesUnknownIn, BodyBecomesTooLong}
use Rattle.wasm_module.specs.Renaming.{NewIndices, IsTextOf}

-- the content of a section of this id, which is not the type section
pub data RenamesAny (id : ℕ) (new_indices : NewIndices) (widths : Widths) :
    List ℕ → List ℕ → List ℕ → Type 0 where
  custom :
      (content new names : List ℕ) → id ≡ 0 → RenamesCustom new_indices widths content new names
      → RenamesAny id new_indices widths content new names
  other :
      (content new names : List ℕ) → (id ≡ 0 → ⊥)
      → RenamesContent id new_indices widths content new names
      → RenamesAny id new_indices widths content new names

-- A section. The type section gets the content `types`, with the shortest size.
pub data RenamesSection (types : List ℕ) (new_indices : NewIndices) (widths : Widths) :
    List ℕ → List ℕ → List ℕ → Type 0 where
  type_section :
      (size content new_size : List ℕ) → IsU32 size (length content)
      → IsTextOf 0x80 0 new_size (length types)
      → RenamesSection types new_indices widths (1 ∷ (size ++ content)) (1 ∷ (new_size ++ types)) []
  other :
      (id : ℕ) (text new names : List ℕ) → (id ≡ 1 → ⊥)
      → ChangesSized widths (RenamesAny id new_indices widths) text new names
      → RenamesSection types new_indices widths (id ∷ text) (id ∷ new) names

-- The bytes are a module, and `new` is the same module with these types and indices.
pub record RenamesModule (types : List ℕ) (new_indices : NewIndices) (widths : Widths)
    (bytes new : List ℕ) : Type 0 where
  pub sections : List Section
  pub is_module : IsModule bytes sections
  pub texts : List ℕ
  pub new_texts : List ℕ
  pub names : List ℕ
  pub parts : bytes ≡ header ++ texts
  pub new_parts : new ≡ header ++ new_texts
  pub renames :
      ChangeAll (RenamesSection types new_indices widths) (length sections) texts new_texts names

-- both are modules, with sections of the same ids in the same order
pub record HaveSameIds (bytes new : List ℕ) : Type 0 where
  pub sections : List Section
  pub new_sections : List Section
  pub before : IsModule bytes sections
  pub after : IsModule new new_sections
  pub same : ids new_sections ≡ ids sections

-- ---- what is refused

-- no types, new indices and widths make another module of the bytes
abbrev pub CanNotBeRenamed : List ℕ → Type 0
CanNotBeRenamed bytes =
    (types : List ℕ) (new_indices : NewIndices) (widths : Widths) (new : List ℕ)
    → RenamesModule types new_indices widths bytes new → ⊥

-- The bytes are a module, and one of its sections begins as `F` says. The ones before it become
-- others.
pub record FirstSectionIn (types : List ℕ) (new_indices : NewIndices) (widths : Widths)
    (F : List ℕ → Type 0) (bytes : List ℕ) : Type 0 where
  pub sections : List Section
  pub is_module : IsModule bytes sections
  pub texts : List ℕ
  pub parts : bytes ≡ header ++ texts
  pub first : FirstIn (RenamesSection types new_indices widths) F (length sections) texts

-- a section of another id than that of the type section begins the bytes, and has such a content
pub data InContent (F : ℕ → List ℕ → Type 0) : List ℕ → Type 0 where
  in_section :
      (id : ℕ) (bytes : List ℕ) → (id ≡ 1 → ⊥) → InSized (F id) bytes → InContent F (id ∷ bytes)

-- the module names type k outside custom sections, and behind types that have a new index: k has none
abbrev pub ModuleNamesUnknown : List ℕ → NewIndices → Widths → ℕ → List ℕ → Type 0
ModuleNamesUnknown types new_indices widths k =
    FirstSectionIn types new_indices widths (InContent (λ id. NamesUnknownIn id new_indices widths k))

-- new indices with which each of this many types stays where it is
abbrev pub kept_indices : ℕ → NewIndices
kept_indices count = map (λ n. Some n) (range_with_len 0 count)

-- a part of the content that has a size of its own becomes too long
pub data PartBecomesTooLong (new_indices : NewIndices) (widths : Widths) (id : ℕ) :
    List ℕ → Type 0 where
  custom :
      (content : List ℕ) → id ≡ 0 → CustomBecomesTooLong new_indices widths content
      → PartBecomesTooLong new_indices widths id content
  other :
      (content : List ℕ) → (id ≡ 0 → ⊥) → BodyBecomesTooLong id new_indices widths content
      → PartBecomesTooLong new_indices widths id content

-- the section with which the bytes begin, or a part of it, becomes too long
pub data SectionBecomesTooLong (types : List ℕ) (new_indices : NewIndices) (widths : Widths) :
    List ℕ → Type 0 where
  type_section :
      (bytes : List ℕ) → 2 ^ 32 ≤ length types
      → SectionBecomesTooLong types new_indices widths (1 ∷ bytes)
  whole :
      (bytes : List ℕ)
      → InContent (λ id. BecomesTooLong (RenamesAny id new_indices widths)) bytes
      → SectionBecomesTooLong types new_indices widths bytes
  part :
      (bytes : List ℕ) → InContent (PartBecomesTooLong new_indices widths) bytes
      → SectionBecomesTooLong types new_indices widths bytes

-- a section of the module, or a part of one, becomes too long
abbrev pub ModuleBecomesTooLong : List ℕ → NewIndices → Widths → List ℕ → Type 0
ModuleBecomesTooLong types new_indices widths =
    FirstSectionIn types new_indices widths (SectionBecomesTooLong types new_indices widths)
