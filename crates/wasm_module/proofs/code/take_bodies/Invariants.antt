use Rattle.wasm_module.specs.Steps.Contents.{BeginsWithBodies}
use Rattle.wasm_module.proofs.code.take_bodies.Given as goal

abbrev pub invariant-loop : goal.invariant-loop
invariant-loop l = BeginsWithBodies l.counter l.fn.input.now l.input.now l.named.items
