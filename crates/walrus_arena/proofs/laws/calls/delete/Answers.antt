use Rattle.walrus_arena.proofs.CallLemmas.{deleted, refused}
use Rattle.walrus_arena.proofs.laws.calls.delete.Goals as goal

pub returns-clause-ok : goal.returns-clause-ok
returns-clause-ok g c = deleted _ _ c.args.id c.delete.result c.delete.ensures.ok

pub returns-clause-err : goal.returns-clause-err
returns-clause-err g c = refused _ _ c.delete.result c.delete.ensures.err
