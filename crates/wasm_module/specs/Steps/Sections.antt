-- Taking sections from the front of bytes.
use Rattle.std.specs.Prelude.{◌≡◌, ℕ, zero, suc, ◌+◌, ◌-◌, List, [], ◌∷◌, length, take, drop, Option, Some, None, Result, Ok, Err, nat_le, cond}
use Rattle.wasm_binary.specs.declared.error.Fault.{Fault}
use Rattle.wasm_binary.specs.Steps.Reading.{u32_at}
use Rattle.wasm_module.specs.Sections.{PlacedSection, placed}

-- what a function returned, seen by view, is this
abbrev pub Shows : {X Y : Type 0} → (X → Y) → Option X → Option Y → Type 0
Shows view (Some x) y = y ≡ Some (view x)
Shows view None y = y ≡ None

-- the section whose size was read, and the bytes after it
abbrev pub sized_at : ℕ → ℕ → ℕ → Result (ℕ × List ℕ) Fault → Option (PlacedSection × List ℕ)
sized_at offset behind id (Ok n) =
    cond (nat_le n.0 (length n.1))
    (Some (placed offset (offset + 1 + (behind - length n.1)) id (take n.0 n.1), drop n.0 n.1)) None
sized_at offset behind id (Err f) = None

-- the section with which the bytes begin, and the bytes after it
unfoldable pub first_at : ℕ → List ℕ → Option (PlacedSection × List ℕ)
first_at offset [] = None
first_at offset (id ∷ bytes) = sized_at offset (length bytes) id (u32_at bytes)

abbrev pub and_then :
    {A : Type 0} → Option (PlacedSection × List ℕ) → (PlacedSection → List ℕ → List A) → List A
and_then (Some x) f = f x.0 x.1
and_then None f = []

-- the sections with which the bytes begin, this many at most
unfoldable pub sections_at : ℕ → ℕ → List ℕ → List PlacedSection
sections_at zero offset bytes = []
sections_at (suc more) offset bytes =
    and_then (first_at offset bytes)
    (λ s rest. s ∷ sections_at more (s.content_offset + length s.framed.content) rest)
