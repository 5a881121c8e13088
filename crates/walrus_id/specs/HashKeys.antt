-- What the hash of a set begins with. Of no part of the WebAssembly specification.
use Rattle.std.specs.Prelude.{◌≡◌, ℕ, ◌++◌, refl}
use Rattle.std.specs.Coded.{Coded, code_by, coded_ℕ}
use Rattle.std.specs.Hash as fed
use Rattle.std.specs.Hash.FoldHasher as folding
use Rattle.std.specs.List.{fold}
use Rattle.std.specs.declared.hash.FoldHasher.{FoldHasher}

-- keys are seen as the hasher that was fed them
abbrev pub InitialHasher : Type 0
InitialHasher = FoldHasher

-- std's hasher, fed nothing
abbrev pub fixed_hasher : InitialHasher
fixed_hasher = folding.initial

-- std's hasher, fed the one key and then the other
abbrev pub hasher_with_keys : ℕ → ℕ → InitialHasher
hasher_with_keys first second = fold folding.write folding.initial (fed.u64 first ++ fed.u64 second)

-- keys that some two numbers give
abbrev pub IsKeyed : InitialHasher → Type 0
IsKeyed keys = (first second : ℕ) × (keys ≡ hasher_with_keys first second)

-- keys are stored as the number that the hasher holds
abbrev pub keys_code : Coded InitialHasher
keys_code = code_by ℕ coded_ℕ (λ keys. keys.state) (λ n. record { state = n }) (λ _. refl)
