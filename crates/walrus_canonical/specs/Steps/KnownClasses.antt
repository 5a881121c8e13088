-- The classes that were read, by their records.
-- Of this crate's own.
use Rattle.std.specs.Prelude.{ℕ, Bool, List, Option}
use Rattle.std.specs.Cmp.Lexicographic.{pointwise}
use Rattle.std.specs.Map.{lookup}
use Rattle.walrus_ty.specs.contracts.records.EntryAtPartialEq.TheImpl as equality
use Rattle.walrus_ty.specs.declared.records.EntryAt.{EntryAt}

abbrev pub same_keys : List EntryAt → List EntryAt → Bool
same_keys = pointwise (equality.ghosts).eq

abbrev pub are_same : List EntryAt → List EntryAt → Bool
are_same es fs = pointwise (equality.ghosts).eq es fs

-- the place of the class that the map has for these records
abbrev pub place_of : List (List EntryAt × ℕ) → List EntryAt → Option ℕ
place_of known entries = lookup (are_same entries) known
