use Rattle.std.proofs.Common.{◌≡◌, bytes_eq, drop}
use Rattle.std.specs.List.{list_any}
use Rattle.std.specs.String.{string_bytes}
use Rattle.command_line.proofs.arguments.has_option.Given as goal

abbrev pub invariant-loop-given : goal.invariant-loop-given
invariant-loop-given l =
    list_any (λ o. bytes_eq (string_bytes o) l.fn.option) (drop l.given-index l.options)
    ≡ list_any (λ o. bytes_eq (string_bytes o) l.fn.option) l.options
