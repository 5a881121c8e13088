-- New indices by which what was written again stays.
use Rattle.std.specs.Prelude.{◌≡◌, ℕ, Some}
use Rattle.wasm_module.specs.Renaming.{NewIndices, new_index}

-- each new index of the first ones is its own new index
abbrev pub AreOwn : NewIndices → NewIndices → Type 0
AreOwn first again =
    (k n : ℕ) → new_index first k ≡ Some n → new_index again n ≡ Some n
