use Rattle.wasm_module.specs.NameSections.{IsKnownEntry}
use Rattle.wasm_module.specs.Steps.NameSections.{IsFollowing}
use Rattle.wasm_module.proofs.NameMaps.{VecUpTo}
use Rattle.wasm_module.proofs.name_maps.skip_map.Given as goal

abbrev pub invariant-loop : goal.invariant-loop
invariant-loop l =
    VecUpTo (IsKnownEntry (IsFollowing l.fn.follows) l.fn.count) l.fn.input.now l.entries l.counter l.input.now
