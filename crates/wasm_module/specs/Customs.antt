-- Custom sections that describe other bytes of their module, and modules without these.
-- WebAssembly core specification, "Binary Format", "Custom Section". The names are conventions of
-- tools.
use Rattle.std.specs.Prelude.{◌≡◌, ℕ, List, [], ◌∷◌, ◌++◌, length, drop, codes}
use Rattle.std.specs.List.{All}
use Rattle.wasm_binary.specs.Leb128.{IsU32}
use Rattle.wasm_binary.specs.Modules.{Section, IsSection, IsModule, header}
use Rattle.wasm_module.specs.declared.description_kinds.DescriptionKind.{DescriptionKind}
use Rattle.wasm_module.specs.declared.description_kinds.DescriptionKind.TheVariants as kind
use Rattle.wasm_module.specs.Sections.{PlacedSection, ArePlaced, framing}

-- ---- names

-- Sections of these names describe this: debug data and annotations of code, such as branch hints,
-- have places in the code section; source maps have places in the file up to the end of the code;
-- linking data and relocations describe the contents of code and data; a signature is of all bytes.
pub data IsNameOf : DescriptionKind → List ℕ → Type 0 where
  external_debug_info : IsNameOf kind.CodeOffsets (codes "external_debug_info")
  debug : (rest : List ℕ) → IsNameOf kind.CodeOffsets (codes ".debug_" ++ rest)
  code_metadata : (rest : List ℕ) → IsNameOf kind.CodeOffsets (codes "metadata.code." ++ rest)
  source_mapping_url : IsNameOf kind.FileOffsets (codes "sourceMappingURL")
  linking : IsNameOf kind.CodeAndData (codes "linking")
  relocations : (rest : List ℕ) → IsNameOf kind.CodeAndData (codes "reloc." ++ rest)
  signature : IsNameOf kind.AllBytes (codes "signature")

-- sections of this name describe other bytes of their module
pub record IsDescriptionName (name : List ℕ) : Type 0 where
  pub kind : DescriptionKind
  pub is_name : IsNameOf kind name

-- ---- sections

-- the content of a custom section of this name
pub record HasName (name content : List ℕ) : Type 0 where
  pub size : List ℕ
  pub follows : List ℕ
  pub is_size : IsU32 size (length name)
  pub parts : content ≡ size ++ (name ++ follows)

-- a custom section that describes this
pub record IsDescriptionOf (kind : DescriptionKind) (s : Section) : Type 0 where
  pub is_custom : s.id ≡ 0
  pub name : List ℕ
  pub has_name : HasName name s.content
  pub is_name : IsNameOf kind name

-- a custom section that describes other bytes of its module
pub record IsDescription (s : Section) : Type 0 where
  pub kind : DescriptionKind
  pub describes : IsDescriptionOf kind s

-- ---- modules without them

-- the text of a section, and what is left of it: nothing of one that describes other bytes
pub data IsStrippedSection : List ℕ → List ℕ → Type 0 where
  left_out :
      (text : List ℕ) (s : Section) → IsSection text s → IsDescription s
      → IsStrippedSection text []
  kept :
      (text : List ℕ) (s : Section) → IsSection text s → (IsDescription s → ⊥)
      → IsStrippedSection text text

-- the text of sections one after another, and what is left of it
pub data AreStripped : List ℕ → List ℕ → Type 0 where
  none : AreStripped [] []
  next :
      (text new texts new_texts : List ℕ) → IsStrippedSection text new
      → AreStripped texts new_texts → AreStripped (text ++ texts) (new ++ new_texts)

-- the bytes are a module, and `new` is the same without sections that describe other bytes
pub record IsStripped (bytes new : List ℕ) : Type 0 where
  pub sections : List Section
  pub is_module : IsModule bytes sections
  pub texts : List ℕ
  pub new_texts : List ℕ
  pub parts : bytes ≡ header ++ texts
  pub new_parts : new ≡ header ++ new_texts
  pub are : AreStripped texts new_texts

-- ---- where the first section of a kind is

-- the bytes are a module of these sections, at these places
pub record HasSections (bytes : List ℕ) (sections : List PlacedSection) : Type 0 where
  pub is_module : IsModule bytes (framing sections)
  pub places : ArePlaced (length header) (drop (length header) bytes) sections

-- no section of the module is such a one
pub record HasNone (Is : Section → Type 0) (bytes : List ℕ) : Type 0 where
  pub sections : List PlacedSection
  pub has : HasSections bytes sections
  pub none : All (λ s. Is s.framed → ⊥) sections

-- the first such section of the module begins at this place
pub record HasFirstAt (Is : Section → Type 0) (bytes : List ℕ) (offset : ℕ) : Type 0 where
  pub before : List PlacedSection
  pub first : PlacedSection
  pub behind : List PlacedSection
  pub has : HasSections bytes (before ++ first ∷ behind)
  pub none_before : All (λ s. Is s.framed → ⊥) before
  pub is : Is first.framed
  pub place : first.offset ≡ offset
