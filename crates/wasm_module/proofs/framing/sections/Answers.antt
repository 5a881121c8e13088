use Rattle.std.proofs.lemmas.List.{take_rest}
use Rattle.wasm_module.proofs.Taking.{is_module, taken_module, taken_places}
use Rattle.wasm_module.proofs.framing.sections.Goals as goal

pub returns-clause-module : goal.returns-clause-module
returns-clause-module c =
    let e = c.in_ok-type_section.ensures in
    taken_module c.args.bytes.now _ (take_rest c.args.bytes.now 8)
    (is_module (λ r. r.start) (λ r. r.end) c.args.bytes.now c.in_ok-type_section.field-0 e.found e.none)

pub returns-clause-placed : goal.returns-clause-placed
returns-clause-placed c =
    let e = c.in_ok-type_section.ensures in
    taken_places c.args.bytes.now _ (take_rest c.args.bytes.now 8)
    (is_module (λ r. r.start) (λ r. r.end) c.args.bytes.now c.in_ok-type_section.field-0 e.found e.none)
