use Rattle.std.proofs.Common.{[]}
use Rattle.wasm_module.specs.RenamedSections.{RenamesBody}
use Rattle.wasm_module.specs.Steps.Changes.{IsChangedUpTo}
use Rattle.wasm_module.proofs.renamed_code.rename_bodies.Given as goal

abbrev pub invariant-loop : goal.invariant-loop
invariant-loop l =
    IsChangedUpTo (RenamesBody l.fn.new_indices l.fn.widths) l.counter [] l.fn.input.now l.input.now
    l.unwritten l.out.items
