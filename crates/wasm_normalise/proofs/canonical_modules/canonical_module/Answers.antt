use Rattle.wasm_normalise.proofs.canonical_modules.canonical_module.Goals as goal

pub returns-in-Err-Fault-clause-refused : goal.returns-in-Err-Fault-clause-refused
returns-in-Err-Fault-clause-refused c =
    c.error_of_fault.ensures c.args.options (rw c.in-Err-Fault.field-0-is at c.in-Err-Fault.ensures.refused)

pub returns-in-Err-Other-clause-refused : goal.returns-in-Err-Other-clause-refused
returns-in-Err-Other-clause-refused c = rw c.in-Err-Other.field-0-is at c.in-Err-Other.ensures.refused
