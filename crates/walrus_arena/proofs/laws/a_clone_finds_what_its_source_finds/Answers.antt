use Rattle.walrus_arena.proofs.SetLemmas.{clone_finds}
use Rattle.walrus_arena.proofs.laws.a_clone_finds_what_its_source_finds.Goals as goal

pub returns : goal.returns
returns g c = λ old new is equal value. clone_finds g.met.T.Eq.laws equal value old new is
