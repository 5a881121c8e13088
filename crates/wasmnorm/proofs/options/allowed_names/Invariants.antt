use Rattle.std.specs.Prelude.{◌≡◌, ◌++◌, codes, drop, map}
use Rattle.wasmnorm.specs.Runs.{values_of}
use Rattle.wasmnorm.proofs.options.allowed_names.Given as goal

abbrev pub invariant-loop-given : goal.invariant-loop-given
invariant-loop-given l =
    map (λ name. name.now) l.names.items ++ values_of (codes "--allow") (drop l.given-index l.values)
    ≡ values_of (codes "--allow") l.fn.values
