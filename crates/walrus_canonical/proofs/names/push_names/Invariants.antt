use Rattle.std.proofs.Common.{◌≡◌, ◌++◌, take}
use Rattle.std.specs.List.{flat_map}
use Rattle.walrus_ty.specs.Definition.{names_of}
use Rattle.walrus_ty.specs.Records.{entry_definition}
use Rattle.walrus_canonical.proofs.names.push_names.Given as goal

abbrev pub invariant-loop-entry : goal.invariant-loop-entry
invariant-loop-entry l =
    l.names.items ≡
    l.fn.names.items ++ flat_map (λ e. names_of (entry_definition e)) (take l.entry-index l.entries)
