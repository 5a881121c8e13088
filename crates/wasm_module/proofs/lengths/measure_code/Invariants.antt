use Rattle.wasm_module.specs.Steps.Lengths.{TakesBodies}
use Rattle.wasm_module.proofs.lengths.measure_code.Given as goal

abbrev pub invariant-loop : goal.invariant-loop
invariant-loop l =
    TakesBodies l.counter l.initial.rest l.rest l.fn.lengths.items l.lengths.items
