-- Bytes that begin with others.
use Rattle.std.specs.Prelude.{◌≡◌, ℕ, List, ◌++◌}

abbrev pub BeginsWith : List ℕ → List ℕ → Type 0
BeginsWith prefix bytes = (rest : List ℕ) × (bytes ≡ prefix ++ rest)
