-- Custom sections and their names.
-- WebAssembly core specification, "Binary Format", "Custom Section".
use Rattle.std.specs.Prelude.{◌≡◌, ℕ, List, ◌∷◌, ◌++◌, length, take}
use Rattle.wasm_binary.specs.Leb128.{IsU32}

-- the content of a custom section of this name: how many bytes the name has, the name, and others
pub record IsNamed (name content : List ℕ) : Type 0 where
  pub size : List ℕ
  pub follows : List ℕ
  pub is_size : IsU32 size (length name)
  pub parts : content ≡ size ++ (name ++ follows)

-- the bytes begin with a custom section of this name, which may be cut off behind the name
pub record BeginsCustom (name bytes : List ℕ) : Type 0 where
  pub size : List ℕ
  pub count : ℕ
  pub rest : List ℕ
  pub is_size : IsU32 size count
  pub parts : bytes ≡ 0 ∷ (size ++ rest)
  pub is_named : IsNamed name (take count rest)
