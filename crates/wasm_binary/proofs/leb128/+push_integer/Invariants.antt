use Rattle.wasm_binary.proofs.leb128.+push_integer.Given as goal

abbrev pub decreases-push_integer : goal.decreases-push_integer
decreases-push_integer l = l.number
