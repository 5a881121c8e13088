use Rattle.walrus_arena.proofs.CallLemmas.{allocated, refused}
use Rattle.walrus_arena.proofs.laws.calls.alloc.Goals as goal

pub returns-clause-ok : goal.returns-clause-ok
returns-clause-ok g c = allocated _ _ c.args.value c.alloc.result c.alloc.ensures.id c.alloc.ensures.ok

pub returns-clause-err : goal.returns-clause-err
returns-clause-err g c = refused _ _ c.alloc.result c.alloc.ensures.err
