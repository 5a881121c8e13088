use Rattle.wasm_module.proofs.TypeMaps.{IsWrittenUpTo}
use Rattle.wasm_module.proofs.name_maps.write_map.Given as goal

abbrev pub invariant-loop-new_index : goal.invariant-loop-new_index
invariant-loop-new_index l =
    IsWrittenUpTo l.widths l.least l.kept.entries l.new_index-iterator l.out.items
