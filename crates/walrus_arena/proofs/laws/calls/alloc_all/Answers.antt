use Rattle.walrus_arena.proofs.CallLemmas.{allocated_all}
use Rattle.walrus_arena.proofs.laws.calls.alloc_all.Goals as goal

pub returns-clause-ok : goal.returns-clause-ok
returns-clause-ok g c = allocated_all (λ all. all.items) _ _ c.args.values.items c.args.values.len
    c.alloc_all.result c.args.values.ok.0 c.alloc_all.ensures.ids c.alloc_all.ensures.ok
