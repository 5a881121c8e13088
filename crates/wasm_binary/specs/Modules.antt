-- The framing of a module: its header, and its sections by id and content. The contents are not
-- judged: neither of a custom section that it begins with a name, nor of another what it has to be.
-- WebAssembly core specification, "Binary Format", modules and sections.
use Rattle.std.specs.Prelude.{◌≡◌, ℕ, ◌+◌, ◌<◌, List, [], ◌∷◌, ◌++◌, length, map}
use Rattle.std.specs.List.{All}
use Rattle.wasm_binary.specs.Leb128.{IsU32}
use Rattle.wasm_binary.specs.Grammar.{AreItems}

-- ---- sections

pub record Section : Type 0 where
  pub id : ℕ
  pub content : List ℕ

abbrev pub section : ℕ → List ℕ → Section
section id content = record { id = id; content = content }

abbrev pub ids : List Section → List ℕ
ids sections = map (λ (s : Section). s.id) sections

-- the id, the size of the content, and the content
pub data IsSection : List ℕ → Section → Type 0 where
  sized :
      (id : ℕ) (size content : List ℕ) → IsU32 size (length content)
      → IsSection (id ∷ (size ++ content)) (section id content)

-- ---- their order

-- Which place a section of this id has among the others. Custom sections, of id 0, have none.
pub data IsPlace : ℕ → ℕ → Type 0 where
  type_section : IsPlace 1 1
  import_section : IsPlace 2 2
  function_section : IsPlace 3 3
  table_section : IsPlace 4 4
  memory_section : IsPlace 5 5
  tag_section : IsPlace 13 6
  global_section : IsPlace 6 7
  export_section : IsPlace 7 8
  start_section : IsPlace 8 9
  element_section : IsPlace 9 10
  data_count_section : IsPlace 12 11
  code_section : IsPlace 10 12
  data_section : IsPlace 11 13

-- Behind the place `last`, sections of these ids: custom ones anywhere, and each other one at a
-- later place than those before it, so that none is there twice.
pub data AreInOrder : ℕ → List ℕ → Type 0 where
  no_more : (last : ℕ) → AreInOrder last []
  custom : (last : ℕ) (others : List ℕ) → AreInOrder last others → AreInOrder last (0 ∷ others)
  later :
      (last id place : ℕ) (others : List ℕ)
      → IsPlace id place → last < place → AreInOrder place others
      → AreInOrder last (id ∷ others)

-- ---- modules

abbrev pub magic : List ℕ
magic = 0x00 ∷ 0x61 ∷ 0x73 ∷ 0x6D ∷ []

abbrev pub version : List ℕ
version = 0x01 ∷ 0x00 ∷ 0x00 ∷ 0x00 ∷ []

abbrev pub header : List ℕ
header = magic ++ version

pub data IsModule : List ℕ → List Section → Type 0 where
  framed :
      (texts : List ℕ) (sections : List Section)
      → AreItems IsSection texts sections → AreInOrder 0 (ids sections)
      → IsModule (header ++ texts) sections

-- the bytes are no module
abbrev pub IsNoModule : List ℕ → Type 0
IsNoModule bytes = (sections : List Section) → IsModule bytes sections → ⊥

-- no module begins with these bytes
abbrev pub BeginsNoModule : List ℕ → Type 0
BeginsNoModule prefix = (more : List ℕ) → IsNoModule (prefix ++ more)

-- ---- the type section

-- The bytes before a type section, and those behind it: the header with some sections, and further
-- sections, between which it is in its order.
pub data AreAroundTypes : List ℕ → List ℕ → Type 0 where
  around :
      (texts back : List ℕ) (before after : List Section)
      → AreItems IsSection texts before → AreItems IsSection back after
      → AreInOrder 0 (ids before ++ 1 ∷ ids after)
      → AreAroundTypes (header ++ texts) back

-- The bytes are a module, and the content of its type section begins at `start` and ends before
-- `stop`.
pub record IsTypeSectionAt (bytes : List ℕ) (start stop : ℕ) : Type 0 where
  pub prefix : List ℕ
  pub size : List ℕ
  pub content : List ℕ
  pub back : List ℕ
  pub around_it : AreAroundTypes prefix back
  pub sized : IsU32 size (length content)
  pub parts : bytes ≡ (prefix ++ 1 ∷ size) ++ (content ++ back)
  pub starts : start ≡ length (prefix ++ 1 ∷ size)
  pub stops : stop ≡ start + length content

-- it is another section than a type section
abbrev pub IsOther : Section → Type 0
IsOther s = s.id ≡ 1 → ⊥

-- the bytes are a module that has no type section
pub record HasNoTypeSection (bytes : List ℕ) : Type 0 where
  pub sections : List Section
  pub is_module : IsModule bytes sections
  pub others : All IsOther sections
