-- Renaming by a look-up that may lack a name, as where ids stand for indices or indices for ids.
-- WebAssembly core specification, "Modules", indices: a type is named by its index. Names by id,
-- and the look-ups between both, are of this crate's own.
use Rattle.std.specs.Prelude.{ℕ, List, Option, find, is_none, unwrap_or}
use Rattle.walrus_ty.specs.declared.error.NoIndex.{NoIndex}
use Rattle.walrus_ty.specs.declared.error.FromRecordError.{FromRecordError}
use Rattle.walrus_ty.specs.declared.error.FromRecordError.TheVariants as from_record
use Rattle.walrus_ty.specs.declared.error.ToRecordError.{ToRecordError}
use Rattle.walrus_ty.specs.declared.error.ToRecordError.TheVariants as to_record

-- the first of these names that the look-up lacks
abbrev pub first_missing : (ℕ → Option ℕ) → List ℕ → Option ℕ
first_missing look_up names = find (λ name. is_none (look_up name)) names

-- what the look-up has for a name, and 0 for one that it lacks
abbrev pub value_or_zero : (ℕ → Option ℕ) → ℕ → ℕ
value_or_zero look_up name = unwrap_or (look_up name) 0

-- P of the index, if the error is that it is unknown
abbrev pub IfUnknownIndex : FromRecordError → (ℕ → Type 0) → Type 0
IfUnknownIndex (from_record.UnknownIndex index) P = P index
IfUnknownIndex from_record.Memory P = Unit {0}

-- P of the error, if it is that an id has no index
abbrev pub IfNoIndex : ToRecordError → (NoIndex → Type 0) → Type 0
IfNoIndex (to_record.NoIndex e) P = P e
IfNoIndex to_record.Memory P = Unit {0}
