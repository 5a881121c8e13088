use Rattle.walrus_arena.proofs.CallLemmas.{put_dead}
use Rattle.walrus_arena.proofs.laws.calls.alloc_dead.Goals as goal

pub returns-clause-ok : goal.returns-clause-ok
returns-clause-ok g c = put_dead _ _ c.args.value c.alloc_dead.result c.alloc_dead.ensures.id
    c.alloc_dead.ensures.ok
