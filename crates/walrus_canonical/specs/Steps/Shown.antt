-- How groups that can be written are compared: an index from `own_base` on stands for a member of
-- the group itself, and such indices are behind all others, by the places of the members.
-- Of this crate's own.
use Rattle.std.specs.Prelude.{ℕ, ◌+◌, ◌-◌, nat_lt, List, length, map, if◌then◌else◌}
use Rattle.std.specs.declared.cmp.Ordering.{Ordering}
use Rattle.std.specs.Cmp.Lexicographic.{slice_cmp}
use Rattle.walrus_ty.specs.declared.records.EntryAt.{EntryAt}
use Rattle.walrus_ty.specs.declared.ty.value.Val.{Val}
use Rattle.walrus_ty.specs.declared.ty.value.Field.{Field}
use Rattle.walrus_ty.specs.Definition.{Definition, rename, definition_cmp}
use Rattle.walrus_ty.specs.Records.{entry_definition}
use Rattle.walrus_ty.specs.Value.{rename_val, rename_field, val_cmp, field_cmp}

-- from here on the indices of a group of so many records stand for its own members
abbrev pub own_base : ℕ → ℕ
own_base count = 4294967295 - count

abbrev pub shown : ℕ → ℕ → ℕ
shown base index = if nat_lt index base then index else index - base + 4294967296

abbrev pub shown_definitions : List Definition → List Definition
shown_definitions ds = map (rename (shown (own_base (length ds)))) ds

abbrev pub shown_val_cmp : ℕ → ℕ → Val ℕ → Val ℕ → Ordering
shown_val_cmp base other v w = val_cmp (rename_val (shown base) v) (rename_val (shown other) w)

abbrev pub shown_field_cmp : ℕ → ℕ → Field ℕ → Field ℕ → Ordering
shown_field_cmp base other f g =
    field_cmp (rename_field (shown base) f) (rename_field (shown other) g)

abbrev pub shown_entry_cmp : ℕ → ℕ → EntryAt → EntryAt → Ordering
shown_entry_cmp base other d e =
    definition_cmp (rename (shown base) (entry_definition d)) (rename (shown other) (entry_definition e))

-- the order of definitions, groups as words in a dictionary
abbrev pub definitions_cmp : List Definition → List Definition → Ordering
definitions_cmp ds es = slice_cmp definition_cmp ds es

-- the order of records as they are
abbrev pub entry_cmp : EntryAt → EntryAt → Ordering
entry_cmp d e = definition_cmp (entry_definition d) (entry_definition e)
