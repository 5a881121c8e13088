use Rattle.wasm_module.proofs.leb128.+skip_signed.Given as goal

abbrev pub decreases-skip_signed : goal.decreases-skip_signed
decreases-skip_signed l = l.limit
