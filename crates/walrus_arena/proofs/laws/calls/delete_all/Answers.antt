use Rattle.walrus_arena.proofs.CallLemmas.{deleted_all, refused}
use Rattle.walrus_arena.proofs.laws.calls.delete_all.Goals as goal

pub returns-clause-ok : goal.returns-clause-ok
returns-clause-ok g c = deleted_all _ _ c.args.ids.now c.delete_all.result c.delete_all.ensures.ok

pub returns-clause-err : goal.returns-clause-err
returns-clause-err g c = refused _ _ c.delete_all.result c.delete_all.ensures.err
