use Rattle.std.proofs.Common.{◌≡◌, ◌-◌}
use Rattle.wasm_binary.specs.Steps.Reading.{items_at}
use Rattle.wasm_binary.proofs.Lists.{with_prefix}
use Rattle.wasm_binary.proofs.decode.list.read_items.Given as goal

abbrev pub invariant-loop : goal.invariant-loop
invariant-loop g l = with_prefix l.items.items (items_at g.T.Decode.reading (l.count - l.counter) l.input.now)
    ≡ items_at g.T.Decode.reading l.count l.fn.input.now
