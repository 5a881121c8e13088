-- How indices are renamed.
-- Of this crate's own.
use Rattle.std.specs.Prelude.{ℕ, ◌+◌, ◌-◌, ◌%◌, nat_lt, List, slice_index_or, if◌then◌else◌}
use Rattle.walrus_canonical.specs.declared.renaming.Renaming.{Renaming}

-- An index below the bound becomes what the list has for it, or stays where the list is too short.
-- The others are moved, so that the bound becomes `first`.
abbrev pub renamed : ℕ → List ℕ → ℕ → ℕ → ℕ
renamed bound list first index =
    if nat_lt index bound then slice_index_or list index index else (index - bound + first) % 4294967296

abbrev pub index_map : Renaming → ℕ → ℕ
index_map r = renamed r.bound r.list.now r.first
