-- Where instructions stand in a binary.
use Rattle.std.specs.Prelude.{ℕ}

-- the number of the default location, which no instruction of a binary has
abbrev pub no_location : ℕ
no_location = 0xffff_ffff
