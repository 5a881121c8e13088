use Rattle.std.proofs.Common.{[], length, arith}
use Rattle.wasm_module.specs.NameSections.RenamesNames.{type_names, field_names, others}
use Rattle.wasm_module.proofs.Subsections.{ok_none, ok_some, type_names_change, field_names_change, type_map, field_map}
use Rattle.wasm_module.proofs.name_section.rename_names.Goals as goal

pub returns-then-id-eq-TYPE_NAMES-clause-stays : goal.returns-then-id-eq-TYPE_NAMES-clause-stays
returns-then-id-eq-TYPE_NAMES-clause-stays c =
    ok_none (type_names c.args.content.now c.args.content.now [] (omega (arith, c.if-id-eq-TYPE_NAMES.true)))
    c.rename_map.result c.rename_map.ensures.stays

pub returns-then-id-eq-TYPE_NAMES-clause-changes : goal.returns-then-id-eq-TYPE_NAMES-clause-changes
returns-then-id-eq-TYPE_NAMES-clause-changes c =
    ok_some (λ bytes h. type_names_change c.args.id c.args.new_indices.now c.args.widths c.args.content.now
    bytes.items (omega (arith, c.if-id-eq-TYPE_NAMES.true)) h) c.rename_map.result
    c.rename_map.ensures.changes

pub returns-then-id-eq-TYPE_NAMES-clause-unread : goal.returns-then-id-eq-TYPE_NAMES-clause-unread
returns-then-id-eq-TYPE_NAMES-clause-unread c = λ e are.
    c.rename_map.ensures.unread e
    (type_map (length c.args.new_indices.now) c.args.id c.args.content.now
    (omega (arith, c.if-id-eq-TYPE_NAMES.true)) are)

pub returns-then-id-eq-FIELD_NAMES-clause-stays : goal.returns-then-id-eq-FIELD_NAMES-clause-stays
returns-then-id-eq-FIELD_NAMES-clause-stays c =
    let r = c.rename_map-then-id-eq-FIELD_NAMES in
    ok_none (field_names c.args.content.now c.args.content.now [] (omega
    (arith, c.if-id-eq-FIELD_NAMES.true)))
    r.result r.ensures.stays

pub returns-then-id-eq-FIELD_NAMES-clause-changes : goal.returns-then-id-eq-FIELD_NAMES-clause-changes
returns-then-id-eq-FIELD_NAMES-clause-changes c =
    let r = c.rename_map-then-id-eq-FIELD_NAMES in
    ok_some (λ bytes h. field_names_change c.args.id c.args.new_indices.now c.args.widths c.args.content.now
    bytes.items (omega (arith, c.if-id-eq-FIELD_NAMES.true)) h) r.result r.ensures.changes

pub returns-then-id-eq-FIELD_NAMES-clause-unread : goal.returns-then-id-eq-FIELD_NAMES-clause-unread
returns-then-id-eq-FIELD_NAMES-clause-unread c = λ e are.
    c.rename_map-then-id-eq-FIELD_NAMES.ensures.unread e
    (field_map (length c.args.new_indices.now) c.args.id c.args.content.now
    (omega (arith, c.if-id-eq-FIELD_NAMES.true)) are)

pub returns-clause-stays : goal.returns-clause-stays
returns-clause-stays c =
    others c.args.content.now (λ e. omega (arith, e, c.if-id-eq-TYPE_NAMES.false))
    (λ e. omega (arith, e, c.if-id-eq-FIELD_NAMES.false))
