use Rattle.std.proofs.Common.{ap}
use Rattle.std.specs.Prelude.{option_copied}
use Rattle.walrus_ty.specs.Records.{section_of}
use Rattle.walrus_canonical.proofs.Needs.NeedsMarked.{all_are_indices, all_marked_at_once}
use Rattle.walrus_canonical.proofs.needed.needed_indices.Goals as goal

pub returns-in_ok-vec-in-None-clause-known : goal.returns-in_ok-vec-in-None-clause-known
returns-in_ok-vec-in-None-clause-known c =
    all_are_indices (section_of c.args.groups.now) (option_copied c.args.roots)
    (ap option_copied c.in-None.is)

pub returns-in_ok-vec-in-None-clause-needed : goal.returns-in_ok-vec-in-None-clause-needed
returns-in_ok-vec-in-None-clause-needed c =
    all_marked_at_once (section_of c.args.groups.now) (option_copied c.args.roots) c.args.count _
    c.requires.well_named (ap option_copied c.in-None.is) c.requires.one_each
    (c.in_ok-vec-in-None.ensures.items_if_clones_equal (λ y e. e))

pub returns-in-Some-clause-known : goal.returns-in-Some-clause-known
returns-in-Some-clause-known c = rw c.in-Some.is c.needed_by.ensures.known
