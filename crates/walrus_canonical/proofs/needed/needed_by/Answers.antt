use Rattle.walrus_ty.specs.Records.{section_of}
use Rattle.walrus_canonical.proofs.Needs.NeedsMarked.{roots_marked}
use Rattle.walrus_canonical.proofs.needed.needed_by.Goals as goal

pub returns-clause-needed : goal.returns-clause-needed
returns-clause-needed c =
    c.in_ok-mark_groups.ensures c.args.roots.now
    (roots_marked (section_of c.args.groups.now) c.args.roots.now c.args.count _ _ c.requires.one_each
    (c.in_ok-needed.ensures.items_if_clones_equal (λ y e. e)) c.in_ok-mark_roots.ensures.ok
    c.in_ok-mark_roots.ensures.known)
