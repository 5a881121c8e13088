use Rattle.walrus_arena.proofs.SetLemmas.{found_iff}
use Rattle.walrus_arena.proofs.laws.find_gives_a_live_equal_item.Goals as goal

pub returns : goal.returns
returns g c = found_iff g.T.PartialEq.eq
