-- Groups that are written one after the other, and the indices that their ids get.
-- Of this crate's own working; it serves the writing of a table as a type section. WebAssembly core
-- specification, "Modules", types.
use Rattle.std.specs.Prelude.{◌≡◌, ℕ, true, false, [], ◌∷◌, ◌<◌, List, map, slice_get, Option, Some, None}
use Rattle.walrus_ty.specs.Definition.{Definition, names_of}
use Rattle.walrus_sections.specs.SlotMap.{TypeGroup}
use Rattle.walrus_ty.specs.Records.{section_of}
use Rattle.walrus_types.specs.declared.table.rec_group.RecGroup.{RecGroup}
use Rattle.walrus_ty.specs.declared.records.GroupAt.{GroupAt}
use Rattle.walrus_types.specs.declared.error.EmitError.{EmitError}
use Rattle.walrus_types.specs.declared.error.EmitError.TheVariants as emit
use Rattle.walrus_ty.specs.declared.error.ToRecordError.{ToRecordError}
use Rattle.walrus_ty.specs.declared.error.ToRecordError.TheVariants as to_record
use Rattle.walrus_ty.specs.declared.error.NoIndex.TheVariants.{OfType, OfFunc, OfGlobal}
use Rattle.walrus_ty.specs.Indices.{IndexMap, Indexes}
use Rattle.walrus_ty.specs.Lookups.{first_missing}
use Rattle.walrus_sections.specs.Refusal.{NameUse}
use Rattle.walrus_sections.specs.WritingOrders.{ids_in, with_indices, written_group}
use Rattle.walrus_sections.specs.MissingNames.{IsMissingIn}

-- the id of a group that isn't explicit, which has one; none for an explicit group
abbrev pub IsLone : Option ℕ → RecGroup → Type 0
IsLone None g = g.is_explicit ≡ true
IsLone (Some i) g = (g.is_explicit ≡ false) × (g.types ≡ i ∷ [])

-- the groups are written one after the other: each id gets the next index, and each name has one by
-- the end of its group
pub record AreWritten (definition : ℕ → Definition) (ws : List TypeGroup) (out : List GroupAt)
    (x : IndexMap) : Type 0 where
  pub indexes : Indexes (ids_in ws) x
  pub section : section_of out ≡ map (written_group (with_indices x.index definition)) ws
  pub complete : (name : NameUse) → ¬ (IsMissingIn definition ws name)

-- each name in these types has an index
abbrev pub AllIndexed : (ℕ → Option ℕ) → (ℕ → Definition) → List ℕ → Type 0
AllIndexed index definition ids =
    (u i : ℕ) → slice_get ids u ≡ Some i → first_missing index (names_of (definition i)) ≡ None

-- i is the first of these types that has a name without an index, and k is its first such name
pub record IsFirstUnindexed (index : ℕ → Option ℕ) (definition : ℕ → Definition) (ids : List ℕ)
    (i k : ℕ) : Type 0 where
  pub place : ℕ
  pub member : slice_get ids place ≡ Some i
  pub name : first_missing index (names_of (definition i)) ≡ Some k
  pub earlier :
      (v j : ℕ) → v < place → slice_get ids v ≡ Some j →
      first_missing index (names_of (definition j)) ≡ None

-- the error is that memory was refused, or that a type names one without an index, and then P holds
-- of both ids
abbrev pub IsMemoryOrMissing : EmitError → (ℕ → ℕ → Type 0) → Type 0
IsMemoryOrMissing (emit.NoIndex from to) P = P from to
IsMemoryOrMissing emit.TooMany P = ⊥
IsMemoryOrMissing emit.Memory P = Unit {0}

-- the error is that memory was refused, or that a type has no index
abbrev pub RefusesType : ToRecordError → Type 0
RefusesType (to_record.NoIndex (OfType to)) = Unit {0}
RefusesType (to_record.NoIndex (OfFunc func)) = ⊥
RefusesType (to_record.NoIndex (OfGlobal global)) = ⊥
RefusesType to_record.Memory = Unit {0}

-- the error of a record that can't be written, as one of emission
abbrev pub emit_error : ℕ → ToRecordError → EmitError
emit_error from (to_record.NoIndex (OfType to)) = emit.NoIndex from to
emit_error from (to_record.NoIndex (OfFunc func)) = emit.Memory
emit_error from (to_record.NoIndex (OfGlobal global)) = emit.Memory
emit_error from to_record.Memory = emit.Memory
