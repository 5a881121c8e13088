-- The tables of the code, entry by entry.
use Rattle.std.specs.Prelude.{◌≡◌, ℕ, zero, suc, List, [], ◌∷◌, Option, Some, None}
use Rattle.wasm_module.specs.declared.kind.Kind.{Kind}
use Rattle.wasm_module.specs.declared.kind.Immediates.{Immediates}
use Rattle.wasm_module.specs.declared.kind.Immediates.TheVariants as immediates
use Rattle.wasm_module.specs.Opcodes.{Row, kinds_in}

abbrev pub row_kinds : Immediates → Option (List Kind)
row_kinds immediates.NoInstruction = None
row_kinds immediates.Zero = Some []
row_kinds (immediates.One a) = Some (a ∷ [])
row_kinds (immediates.Two a b) = Some (a ∷ b ∷ [])
row_kinds (immediates.Three a b c) = Some (a ∷ b ∷ c ∷ [])
row_kinds (immediates.Four a b c d) = Some (a ∷ b ∷ c ∷ d ∷ [])

-- what the table has for this opcode
unfoldable pub entry_at : List Immediates → ℕ → Option (List Kind)
entry_at [] n = None
entry_at (entry ∷ table) zero = row_kinds entry
entry_at (entry ∷ table) (suc n) = entry_at table n

-- the table has what the rows say, for each opcode
abbrev pub IsTableOf : List Row → List Immediates → Type 0
IsTableOf rows table = (n : ℕ) → entry_at table n ≡ kinds_in rows n
