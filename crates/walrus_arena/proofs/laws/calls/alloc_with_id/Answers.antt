use Rattle.walrus_arena.proofs.CallLemmas.{allocated_by, refused}
use Rattle.walrus_arena.proofs.laws.calls.alloc_with_id.Goals as goal

pub returns-clause-ok : goal.returns-clause-ok
returns-clause-ok g c = allocated_by _ _ _ c.alloc_with_id.result c.alloc_with_id.ensures.id
    c.alloc_with_id.ensures.ok

pub returns-clause-err : goal.returns-clause-err
returns-clause-err g c = refused _ _ c.alloc_with_id.result c.alloc_with_id.ensures.err
