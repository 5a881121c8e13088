use Rattle.walrus_arena.proofs.CallLemmas.{fresh_ids}
use Rattle.walrus_arena.proofs.laws.ids_are_given_out_once.Goals as goal

pub returns : goal.returns
returns g c = fresh_ids
