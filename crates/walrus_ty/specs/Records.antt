-- The contents of section records: what they define, without where their lists lie in memory.
-- WebAssembly core specification, "Types": composite types, sub types and recursive types, which
-- name types by index.
use Rattle.std.specs.Prelude.{List, map}
use Rattle.walrus_ty.specs.declared.records.CompAt.{CompAt}
use Rattle.walrus_ty.specs.declared.records.CompAt.TheVariants as comp
use Rattle.walrus_ty.specs.declared.records.EntryAt.{EntryAt}
use Rattle.walrus_ty.specs.declared.records.GroupAt.{GroupAt}
use Rattle.walrus_ty.specs.declared.records.GroupAt.TheVariants as group
use Rattle.walrus_ty.specs.Definition.{Composite, Function, Struct, Array, Definition}
use Rattle.walrus_ty.specs.Groups.{Group, Single, Rec, Section}

abbrev pub comp_composite : CompAt → Composite
comp_composite (comp.Function params results) = Function params results
comp_composite (comp.Struct fields) = Struct fields
comp_composite (comp.Array field) = Array field

abbrev pub entry_definition : EntryAt → Definition
entry_definition e =
    record { composite = comp_composite e.comp; is_final = e.is_final; supertype = e.supertype }

abbrev pub group_of : GroupAt → Group
group_of (group.Single e) = Single (entry_definition e)
group_of (group.Rec es) = Rec (map entry_definition es)

abbrev pub section_of : List GroupAt → Section
section_of gs = map group_of gs
