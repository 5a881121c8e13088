use Rattle.std.specs.Prelude.{◌≡◌, ◌++◌, map, All}
use Rattle.std.specs.List.{flat_map}
use Rattle.std.specs.String.{string_bytes}
use Rattle.std.specs.Vec.Iter.{into_iter_items, into_iter_len}
use Rattle.command_line.specs.Arguments.{value_bytes}
use Rattle.command_line.proofs.Requests.{IsTaken}
use Rattle.command_line.proofs.arguments.requested.Given as goal

abbrev pub decreases-loop-argument : goal.decreases-loop-argument
decreases-loop-argument l = into_iter_len l.left

abbrev pub invariant-loop-argument : goal.invariant-loop-argument
invariant-loop-argument l =
    IsTaken record { own = l.own; valued = l.with_value } (map string_bytes (into_iter_items l.fn.arguments))
    (map string_bytes l.names.items) (map string_bytes l.options.items) (map value_bytes l.values.items)
    (map string_bytes (into_iter_items l.left))
