use Rattle.std.specs.Prelude.{◌≡◌, ◌++◌, map}
use Rattle.std.specs.String.{string_bytes}
use Rattle.std.specs.Vec.Iter.{into_iter_items}
use Rattle.command_line.specs.Arguments.{file_name}
use Rattle.command_line.proofs.arguments.with_names.Given as goal

abbrev pub invariant-loop-argument : goal.invariant-loop-argument
invariant-loop-argument l =
    map string_bytes l.all.items
    ++ map file_name (map string_bytes (into_iter_items l.argument-iterator))
    ≡ map string_bytes l.fn.names.items ++ map file_name (map string_bytes (into_iter_items l.fn.left))
