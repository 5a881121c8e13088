use Rattle.std.proofs.Common.{◌≡◌, List, [], ◌∷◌, ◌++◌, ℕ, ap, sym, reverse, refl, ◌∙◌, length, arith}
use Rattle.std.proofs.lemmas.Result.{err_from_is_err_and}
use Rattle.walrus_ir.specs.Calls.{Full, Partial}
use Rattle.walrus_traversals_mut.proofs.Stacks.{popped, none_left}
use Rattle.walrus_traversals_mut.proofs.Depths.{stack_falls}
use Rattle.walrus_traversals_mut.proofs.Kept.{block_keeps}
use Rattle.walrus_traversals_mut.proofs.Composing.{begin, go_on, ended, refused, pending_is, top_known, not_begun, nested_now, nested_then}
use Rattle.walrus_traversals_mut.proofs.traversals_mut.dfs_pre_order_mut.Goals as goal

pub returns-in-Err-clause-err : goal.returns-in-Err-clause-err
returns-in-Err-clause-err g c =
    not_begun g.V.VisitorMut.step (c.args.visitor.now, c.args.func.now.body) c.args.start

pub loop-seq-init : goal.loop-seq-init
loop-seq-init g c =
    let e : reverse c.push.new.self.items ≡ c.args.start ∷ [] =
    ap reverse (c.in_default.ensures.items ∙ ap (λ (l : List ℕ). l ++ c.args.start ∷ [])
    c.new-stack.ensures.items) in
    (pending_is g.V.VisitorMut.step _ _ _ _ _ (sym e) (begin g.V.VisitorMut.step _ _ c.requires), refl)

pub visit_block-requires : goal.visit_block-requires
visit_block-requires g c =
    let e = popped c.loop-seq.stack.items c.pop.new.self.items c.in-Some.seq c.in-Some.ensures.items in
    top_known g.V.VisitorMut.step _ _ _ _ _
    (pending_is g.V.VisitorMut.step _ _ _ _ _ e c.loop-seq.invariant.0)

pub returns-in_err-visit_block-clause-err : goal.returns-in_err-visit_block-clause-err
returns-in_err-visit_block-clause-err g c =
    let e = popped c.loop-seq.stack.items c.pop.new.self.items c.in-Some.seq c.in-Some.ensures.items in
    let p = err_from_is_err_and c.from_residual.result c.from_residual.ensures.1 in
    rw p.1 (refused g.V.VisitorMut.step _ _ _ _ _ _
    (pending_is g.V.VisitorMut.step _ _ _ _ _ e c.loop-seq.invariant.0) c.in_err-visit_block.ensures.err)

pub returns-in_err-visit_block-clause-nested : goal.returns-in_err-visit_block-clause-nested
returns-in_err-visit_block-clause-nested g c =
    nested_then g.V.VisitorMut.step _ _ _ _ _ _ Partial c.requires c.loop-seq.invariant.0
    c.in_err-visit_block.ensures.err

pub loop-seq-smaller : goal.loop-seq-smaller
loop-seq-smaller g c =
    let e = popped c.loop-seq.stack.items c.pop.new.self.items c.in-Some.seq c.in-Some.ensures.items in
    let p = pending_is g.V.VisitorMut.step _ _ _ _ _ e c.loop-seq.invariant.0 in
    stack_falls _ _ _ _ _ _ e c.in_ok-visit_block.ensures.pushed
    (block_keeps g.V.VisitorMut.step _ _ _ Full c.in_ok-visit_block.ensures.ok) p.within.0

pub loop-seq-preserved : goal.loop-seq-preserved
loop-seq-preserved g c =
    let e = popped c.loop-seq.stack.items c.pop.new.self.items c.in-Some.seq c.in-Some.ensures.items in
    let p = pending_is g.V.VisitorMut.step _ _ _ _ _ e c.loop-seq.invariant.0 in (
      pending_is g.V.VisitorMut.step _ _ _ _ _ (sym c.in_ok-visit_block.ensures.pushed)
          (go_on g.V.VisitorMut.step _ _ _ _ _ _ p c.in_ok-visit_block.ensures.ok),
      c.visit_block.ensures.args ∙ c.loop-seq.invariant.1,
    )

pub returns-clause-ok : goal.returns-clause-ok
returns-clause-ok g c =
    let z : length c.loop-seq.stack.items ≡ 0 = omega (arith, c.in_default-pop.ensures.cases.0) in
    ended g.V.VisitorMut.step _ _ _
    (pending_is g.V.VisitorMut.step _ _ _ _ _ (none_left c.loop-seq.stack.items z) c.loop-seq.invariant.0)

pub returns-clause-nested : goal.returns-clause-nested
returns-clause-nested g c = nested_now g.V.VisitorMut.step _ _ _ _ c.requires c.loop-seq.invariant.0
