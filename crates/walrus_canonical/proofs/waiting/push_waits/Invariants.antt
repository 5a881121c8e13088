use Rattle.std.proofs.Common.{◌≡◌, ◌++◌, take}
use Rattle.std.specs.List.{flat_map}
use Rattle.walrus_canonical.specs.Steps.Waits.{wait_at}
use Rattle.walrus_canonical.proofs.waiting.push_waits.Given as goal

abbrev pub invariant-loop-name : goal.invariant-loop-name
invariant-loop-name l =
    l.waits.items ≡
    l.fn.waits.items ++ flat_map (wait_at l.base l.waiting) (take l.name-index l.names)
