use Rattle.wasm_module.proofs.leb128.+skip_integer.Given as goal

abbrev pub decreases-skip_integer : goal.decreases-skip_integer
decreases-skip_integer l = l.limit
