-- What a program prints about itself.
use Rattle.std.specs.Prelude.{ℕ, List, [], ◌∷◌, ◌++◌, codes}

-- the name of a program and the version, with a line feed
abbrev pub version_line : List ℕ → List ℕ
version_line program = program ++ (codes " 0.1.0" ++ 10 ∷ [])
