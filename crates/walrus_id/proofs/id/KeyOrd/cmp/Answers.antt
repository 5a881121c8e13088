use Rattle.walrus_id.proofs.id.KeyOrd.cmp.Goals as goal

pub returns : goal.returns
returns g c = cc
