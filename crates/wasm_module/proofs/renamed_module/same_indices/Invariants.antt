use Rattle.std.proofs.Common.{◌≡◌}
use Rattle.wasm_module.specs.RenamedModules.{kept_indices}
use Rattle.wasm_module.proofs.renamed_module.same_indices.Given as goal

abbrev pub invariant-loop-index : goal.invariant-loop-index
invariant-loop-index l = l.same.items ≡ kept_indices l.index
