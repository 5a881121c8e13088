use Rattle.wasm_module.specs.NameSections.{IsIndexedName}
use Rattle.wasm_module.proofs.NameMaps.{VecUpTo}
use Rattle.wasm_module.proofs.name_maps.skip_name_map.Given as goal

abbrev pub invariant-loop : goal.invariant-loop
invariant-loop l = VecUpTo IsIndexedName l.fn.input.now l.count l.counter l.input.now
