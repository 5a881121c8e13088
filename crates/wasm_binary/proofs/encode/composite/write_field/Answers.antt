use Rattle.wasm_binary.specs.Grammar.{field}
use Rattle.wasm_binary.specs.Steps.Writing.{storage_text}
use Rattle.wasm_binary.proofs.encode.composite.write_field.Goals as goal

pub returns-clause-text : goal.returns-clause-text
returns-clause-text c =
    field (storage_text c.args.field.element_type) c.args.field.element_type c.args.field.mutable
    c.in_ok-write_storage.ensures.text
