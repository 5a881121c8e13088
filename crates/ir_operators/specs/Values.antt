-- The text of constants.
use Rattle.std.specs.Prelude.{ℕ, zero, suc, ◌+◌, ◌/◌, ◌%◌, List, [], ◌∷◌, ◌++◌, codes, decimal, nat_lt, if◌then◌else◌}
use Rattle.std.specs.Fmt.{signed_decimal}
use Rattle.ir_operators.specs.declared.value.Value.{Value}
use Rattle.ir_operators.specs.declared.value.Value.TheVariants as value

-- a hexadecimal digit as a character, the letters in lower case
abbrev pub hex_digit : ℕ → ℕ
hex_digit d = if nat_lt d 10 then 48 + d else 87 + d

-- the last hexadecimal digits of n, so many, from left to right
abbrev pub hex_digits : ℕ → ℕ → List ℕ
hex_digits zero n = []
hex_digits (suc count) n = hex_digits count (n / 16) ++ hex_digit (n % 16) ∷ []

-- integers in decimal, a vector as an unsigned one; floats as `0x` and all their bits in
-- hexadecimal
abbrev pub value_text : Value → List ℕ
value_text (value.I32 n) = signed_decimal n
value_text (value.I64 n) = signed_decimal n
value_text (value.F32 bits) = codes "0x" ++ hex_digits 8 bits
value_text (value.F64 bits) = codes "0x" ++ hex_digits 16 bits
value_text (value.V128 n) = decimal n
