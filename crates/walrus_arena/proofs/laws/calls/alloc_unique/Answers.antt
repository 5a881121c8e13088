use Rattle.walrus_arena.proofs.CallLemmas.{put_apart, stayed}
use Rattle.walrus_arena.proofs.laws.calls.alloc_unique.Goals as goal

pub returns-clause-ok : goal.returns-clause-ok
returns-clause-ok g c = put_apart _ _ c.args.value c.alloc_unique.result c.alloc_unique.ensures.id
    c.alloc_unique.ensures.ok

pub returns-clause-err : goal.returns-clause-err
returns-clause-err g c = stayed _ _ c.alloc_unique.result c.alloc_unique.ensures.err
