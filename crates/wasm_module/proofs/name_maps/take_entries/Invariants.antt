use Rattle.wasm_module.specs.Steps.NameSections.{IsFollowing, TakesEntries}
use Rattle.wasm_module.proofs.name_maps.take_entries.Given as goal

abbrev pub invariant-loop : goal.invariant-loop
invariant-loop l =
    TakesEntries (IsFollowing l.fn.follows) l.fn.new_indices l.counter l.kept.entries l.fn.input.now
    l.input.now
