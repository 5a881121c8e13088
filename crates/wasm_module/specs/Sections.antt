-- The sections of a module with their places.
-- WebAssembly core specification, "Binary Format", modules and sections.
use Rattle.std.specs.Prelude.{ℕ, ◌+◌, List, [], ◌∷◌, ◌++◌, length, map}
use Rattle.wasm_binary.specs.Leb128.{IsU32}
use Rattle.wasm_binary.specs.Modules.{Section, section}

-- a section, and the places of its id and of its content, counted from the module's first byte
pub record PlacedSection : Type 0 where
  pub offset : ℕ
  pub content_offset : ℕ
  pub framed : Section

abbrev pub placed : ℕ → ℕ → ℕ → List ℕ → PlacedSection
placed offset content_offset id content =
    record { offset = offset; content_offset = content_offset; framed = section id content }

-- the sections without their places
abbrev pub framing : List PlacedSection → List Section
framing sections = map (λ (s : PlacedSection). s.framed) sections

-- Texts of sections one after another. The first of them begins at this offset.
pub data ArePlaced : ℕ → List ℕ → List PlacedSection → Type 0 where
  none : (offset : ℕ) → ArePlaced offset [] []
  next :
      (offset id : ℕ) (size content others : List ℕ) (sections : List PlacedSection)
      → IsU32 size (length content)
      → ArePlaced (offset + 1 + length size + length content) others sections
      → ArePlaced offset (id ∷ (size ++ (content ++ others)))
      (placed offset (offset + 1 + length size) id content ∷ sections)
