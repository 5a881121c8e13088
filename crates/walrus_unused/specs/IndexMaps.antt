-- Maps from the indices of a section to those of another one.
-- WebAssembly core specification, "Modules", indices: a type is named by its place in the type
-- section. That a section is read and written again is of this crate's own.
use Rattle.std.specs.Prelude.{ℕ, List, Option, None, slice_get, slice_index_or}
use Rattle.std.specs.Option.{option_and_then}

-- the new index of an old one, where a list has it at its place
abbrev pub new_index : List (Option ℕ) → ℕ → Option ℕ
new_index new old = slice_index_or new old None

-- both maps in turn: from an old index to the id that it stands for, and from that to its index
abbrev pub index_through : List ℕ → (ℕ → Option ℕ) → ℕ → Option ℕ
index_through ids index old = option_and_then index (slice_get ids old)
