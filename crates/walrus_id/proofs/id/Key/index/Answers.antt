use Rattle.walrus_id.proofs.id.Key.index.Goals as goal

pub returns : goal.returns
returns g c = c.place.ensures
