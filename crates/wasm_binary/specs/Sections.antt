-- The beginning of a section, its id and the size of its content, and where sections end.
-- WebAssembly core specification, "Binary Format", sections.
use Rattle.std.specs.Prelude.{◌≡◌, ℕ, ◌≤◌, ◌<◌, List, ◌∷◌, ◌++◌, length, take}
use Rattle.wasm_binary.specs.Leb128.{IsU32}
use Rattle.wasm_binary.specs.Modules.{Section, IsModule, IsNoModule}

-- the bytes begin with this id
abbrev pub IsSectionHead : ℕ → List ℕ → Type 0
IsSectionHead id bytes = (others : List ℕ) × (bytes ≡ id ∷ others)

-- the bytes begin with this size
abbrev pub IsSizeAt : ℕ → List ℕ → Type 0
IsSizeAt size bytes = (text others : List ℕ) × IsU32 text size × (bytes ≡ text ++ others)

-- Behind this offset no section ends up to the place: with no such end the bytes before it are a
-- module.
abbrev pub NoneEndsBetween : ℕ → ℕ → List ℕ → Type 0
NoneEndsBetween offset place bytes =
    (end : ℕ) → offset < end → end ≤ place → IsNoModule (take end bytes)

-- up to the place there is no whole header
abbrev pub HasNoHeaderBy : ℕ → List ℕ → Type 0
HasNoHeaderBy place bytes = (end : ℕ) → end ≤ place → IsNoModule (take end bytes)

-- the bytes are a module, which ends by the place
abbrev pub EndsBy : ℕ → List ℕ → Type 0
EndsBy place bytes = (sections : List Section) × IsModule bytes sections × (length bytes ≤ place)
