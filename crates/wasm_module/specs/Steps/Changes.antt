-- Texts in front of bytes that become others, and sizes that are written again.
use Rattle.std.specs.Prelude.{◌≡◌, ℕ, List, [], ◌++◌, length}
use Rattle.wasm_module.specs.Changes.{Change, Changes, ChangeAll}
use Rattle.wasm_module.specs.Renaming.{IsTextOf}

-- a text that names no type was taken from the front of bytes, and it stays
pub record KeepsPrefix (R : Change) (bytes rest : List ℕ) : Type 0 where
  pub text : List ℕ
  pub parts : bytes ≡ text ++ rest
  pub stays : R text text []

-- a text that names types was taken from the front of bytes, and it becomes `new`
pub record ChangesPrefix (R : Change) (bytes rest new : List ℕ) : Type 0 where
  pub text : List ℕ
  pub parts : bytes ≡ text ++ rest
  pub changes : Changes R text new

-- the content with its size before it, which has this many bytes at least
pub record IsSized (least : ℕ) (content text : List ℕ) : Type 0 where
  pub size : List ℕ
  pub is_size : IsTextOf 0x80 least size (length content)
  pub parts : text ≡ size ++ content

-- The bytes begin with a header and this many texts, up to `rest`, that become others. What they
-- become is the end of `out` and the beginning of `unwritten`. Nothing is in `out` while no type was
-- named.
pub record IsChangedUpTo (R : Change) (count : ℕ) (header bytes rest unwritten out : List ℕ) : Type 0 where
  pub texts : List ℕ
  pub new : List ℕ
  pub names : List ℕ
  pub passed : List ℕ
  pub so_far : ChangeAll R count texts new names
  pub parts : bytes ≡ header ++ (texts ++ rest)
  pub not_written : unwritten ≡ passed ++ rest
  pub written : header ++ new ≡ out ++ passed
  pub untouched : out ≡ [] → unwritten ≡ bytes
  pub nameless : out ≡ [] → names ≡ []
  pub naming : names ≡ [] → out ≡ []
