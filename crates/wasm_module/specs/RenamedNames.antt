-- The types that a module names outside its type section, before and after it was renamed.
use Rattle.std.specs.Prelude.{◌≡◌, ℕ, List, Some, map}
use Rattle.wasm_module.specs.NamedTypes.{NamesOutside}
use Rattle.wasm_module.specs.Renaming.{NewIndices, new_index}

-- Both are modules of sections that may have their contents, and the types that the second one
-- names are the new ones of those that the first one names.
pub record NamesFollow (new_indices : NewIndices) (bytes new : List ℕ) : Type 0 where
  pub names : List ℕ
  pub new_names : List ℕ
  pub before : NamesOutside bytes names
  pub after : NamesOutside new new_names
  pub mapped : map (λ k. new_index new_indices k) names ≡ map (λ k. Some k) new_names
