use Rattle.wasm_binary.proofs.leb128.+read_integer.Given as goal

abbrev pub decreases-read_integer : goal.decreases-read_integer
decreases-read_integer l = l.limit
