use Rattle.walrus_arena.proofs.CallLemmas.{put_all_apart}
use Rattle.walrus_arena.proofs.laws.calls.alloc_all_of_set.Goals as goal

pub returns-clause-ok : goal.returns-clause-ok
returns-clause-ok g c = put_all_apart _ _ (λ all. all.items) c.args.values.items c.alloc_all.result
    c.alloc_all.ensures.ids c.alloc_all.ensures.ok
