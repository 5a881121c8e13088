use Rattle.std.proofs.Common.{refl}
use Rattle.walrus_traversals_mut.proofs.Mapped.{walk_maps}
use Rattle.walrus_traversals_mut.proofs.laws.field_maps_map_the_body.Goals as goal

pub returns-clause-visitor : goal.returns-clause-visitor
returns-clause-visitor g c v f m s t start w = (walk_maps g.V.VisitorMut.step v f m (v, s) t start refl w).2

pub returns-clause-body : goal.returns-clause-body
returns-clause-body g c v f m s t start w =
    let r = walk_maps g.V.VisitorMut.step v f m (v, s) t start refl w in (r.0, r.1, r.3)
