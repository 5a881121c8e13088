-- The content of a section as far as it is there.
use Rattle.std.specs.Prelude.{◌≡◌, ℕ, List, ◌++◌, take}
use Rattle.wasm_binary.specs.Leb128.{IsU32}

-- the bytes begin with a size, and this is what there is of as many bytes behind it
pub record IsContentPrefix (content bytes : List ℕ) : Type 0 where
  pub size : List ℕ
  pub count : ℕ
  pub rest : List ℕ
  pub is_size : IsU32 size count
  pub parts : bytes ≡ size ++ rest
  pub prefix : content ≡ take count rest
