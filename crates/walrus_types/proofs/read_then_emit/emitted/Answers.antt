use Rattle.std.proofs.Common.{◌≤◌, ◌^◌, sym, ap, subst, arith, Err}
use Rattle.walrus_ty.specs.{Indices.type_indices, Records.section_of}
use Rattle.walrus_sections.specs.NormalForm.{IsNormalForm}
use Rattle.walrus_types.specs.TableEmission.{MissesFirst, written_types}
use Rattle.walrus_types.proofs.read_then_emit.emitted.Goals as goal

pub indices_of-requires : goal.indices_of-requires
indices_of-requires c = c.read_table_is_written.ensures.indexed c.requires.0 c.args.types.now c.args.ids.now
    c.in-Ok.section.items (type_indices c.in-Ok.indices) c.requires.1 c.in-Ok.ensures.written

pub returns-in_ok-map-in-Ok : goal.returns-in_ok-map-in-Ok
returns-in_ok-map-in-Ok c = λ s read.
    subst (IsNormalForm s (section_of c.in-Ok.section.items)) (sym c.in_ok-map-in-Ok.ensures)
    (c.read_table_is_written.ensures.normal s c.args.types.now c.args.ids.now c.in-Ok.section.items
    (type_indices c.in-Ok.indices) read c.in-Ok.ensures.written)

pub unreachable-requires : goal.unreachable-requires
unreachable-requires c =
    let first : MissesFirst c.args.types.now c.in-Err-NoIndex.field-0-0 c.in-Err-NoIndex.field-0-1 =
    rw c.in-Err-NoIndex.field-0-is at c.in-Err-NoIndex.ensures.missing in
    c.read_table_can_be_written.ensures.named c.requires.0 c.args.types.now c.args.ids.now first.0 c.requires.1
    first.1.is

pub unreachable-requires-in-Err-TooMany : goal.unreachable-requires-in-Err-TooMany
unreachable-requires-in-Err-TooMany c =
    let few = c.read_table_can_be_written.ensures.few c.requires.0 c.args.types.now c.args.ids.now c.requires.1
    in
    let many : 2 ^ 32 ≤ written_types c.args.types.now =
    c.in-Err-TooMany.ensures.too_many.0 (ap Err c.in-Err-TooMany.field-0-is) in
    omega (arith, few, many)
