use Rattle.std.proofs.Common.{arith}
use Rattle.wasm_module.specs.NameSections.AreNames.{type_names, field_names, others}
use Rattle.wasm_module.proofs.unread_names.are_names.Goals as goal

pub returns-then-id-eq-TYPE_NAMES-clause-yes : goal.returns-then-id-eq-TYPE_NAMES-clause-yes
returns-then-id-eq-TYPE_NAMES-clause-yes c = λ holds.
    type_names c.args.content.now (omega (arith, c.if-id-eq-TYPE_NAMES.true)) (c.is_map.ensures.yes holds)

pub returns-then-id-eq-FIELD_NAMES-clause-yes : goal.returns-then-id-eq-FIELD_NAMES-clause-yes
returns-then-id-eq-FIELD_NAMES-clause-yes c = λ holds.
    field_names c.args.content.now (omega (arith, c.if-id-eq-FIELD_NAMES.true))
    (c.is_map-then-id-eq-FIELD_NAMES.ensures.yes holds)

pub returns-clause-yes : goal.returns-clause-yes
returns-clause-yes c = λ _.
    others c.args.content.now (λ e. omega (arith, e, c.if-id-eq-TYPE_NAMES.false))
    (λ e. omega (arith, e, c.if-id-eq-FIELD_NAMES.false))
