use Rattle.std.proofs.Common.{◌∷◌, ◌++◌, [], List, ap, ◌∙◌}
use Rattle.std.proofs.lemmas.Result.{err_from_is_err_and}
use Rattle.walrus_traversals.specs.declared.traversals.stack.Work.{Work}
use Rattle.walrus_traversals.specs.declared.traversals.stack.Work.TheVariants.{Enter}
use Rattle.walrus_traversals.proofs.Walks.Turns.{started, next_knows, turned, turned_less, turned_stops}
use Rattle.walrus_traversals.proofs.traversals.dfs_in_order.Goals as goal

pub loop-work-init : goal.loop-work-init
loop-work-init g c =
    started _ _ _ _ _
    (c.in_default.ensures.ok ∙ ap (λ (l : List Work). l ++ Enter c.args.start ∷ []) c.new-stack.ensures.items)
    c.requires.nested

pub do_work-requires : goal.do_work-requires
do_work-requires g c = next_knows _ _ _ _ _ _ _ _ c.in-Some.ensures.items c.loop-work.invariant

pub loop-work-smaller : goal.loop-work-smaller
loop-work-smaller g c =
    turned_less _ _ _ _ _ _ _ _ _ _ c.in-Some.ensures.items c.loop-work.invariant c.in_ok-do_work.ensures.ok

pub loop-work-preserved : goal.loop-work-preserved
loop-work-preserved g c =
    turned _ _ _ _ _ _ _ _ _ _ c.in-Some.ensures.items c.loop-work.invariant c.in_ok-do_work.ensures.ok

pub returns-in_err-do_work-clause-err : goal.returns-in_err-do_work-clause-err
returns-in_err-do_work-clause-err g c =
    let p = err_from_is_err_and c.from_residual.result c.from_residual.ensures.1 in
    rw p.1 (turned_stops _ _ _ _ _ _ _ _ _ c.in-Some.ensures.items c.loop-work.invariant
    c.in_err-do_work.ensures.err)
