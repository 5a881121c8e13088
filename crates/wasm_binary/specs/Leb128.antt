-- The texts of integers: `u32`, and `s33` where it isn't negative.
-- WebAssembly core specification, "Binary Format", integers: uN and sN. For 2^N stands `limit`, so
-- that for 2^(N-7) stands `limit / 0x80`.
use Rattle.std.specs.Prelude.{ℕ, ◌+◌, ◌-◌, ◌*◌, ◌/◌, ◌^◌, ◌<◌, ◌≤◌, List, [], ◌∷◌}

-- A byte below 0x80 is the last one, and stands for itself; it has to be below `end` too. A byte
-- from 0x80 on has the low seven bits, and the bytes after it are a text of the others.
pub data IsInteger (end : ℕ) : ℕ → List ℕ → ℕ → Type 0 where
  last :
      (limit byte : ℕ) → byte < 0x80 → byte < end → byte < limit
      → IsInteger end limit (byte ∷ []) byte
  more :
      (limit byte high : ℕ) (bytes : List ℕ)
      → 0x80 ≤ byte → byte < 0x100 → 0x80 < limit → IsInteger end (limit / 0x80) bytes high
      → IsInteger end limit (byte ∷ bytes) (high * 0x80 + (byte - 0x80))

abbrev pub IsU32 : List ℕ → ℕ → Type 0
IsU32 = IsInteger 0x80 (2 ^ 32)

-- The bit 0x40 of the last byte is the sign, and clear: no index is negative.
abbrev pub IsS33 : List ℕ → ℕ → Type 0
IsS33 = IsInteger 0x40 (2 ^ 32)
