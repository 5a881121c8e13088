use Rattle.std.proofs.Common.{◌≡◌, ◌<◌, length, arith, refl, sym}
use Rattle.std.proofs.lemmas.Option.{get_or_from_slice_get}
use Rattle.std.proofs.lemmas.Result.{err_from_is_err_and}
use Rattle.walrus_ir.proofs.Calls.{clauses_whole, done_more, done_begun, done_all}
use Rattle.walrus_traversals_mut.proofs.fields_mut.visit_catches.Goals as goal

pub index_mut-requires : goal.index_mut-requires
index_mut-requires g c = omega (arith, c.loop-i.invariant.size)

pub returns-in_err-visit_catch-clause-err : goal.returns-in_err-visit_catch-clause-err
returns-in_err-visit_catch-clause-err g c =
    let inv = c.loop-i.invariant in
    let lt : c.loop-i.i < length c.loop-i.clauses = omega (arith, inv.size) in
    let here = sym (get_or_from_slice_get c.loop-i.clauses c.loop-i.i _ c.index_mut.result.now
    c.index_mut.ensures.value) in
    let p = err_from_is_err_and c.from_residual.result c.from_residual.ensures.1 in
    rw p.1 (done_begun _ _ _ _ _ _ _ _ _ _ _ clauses_whole inv lt here c.in_err-visit_catch.ensures.err)

pub loop-i-preserved : goal.loop-i-preserved
loop-i-preserved g c =
    let inv = c.loop-i.invariant in
    let lt : c.loop-i.i < length c.loop-i.clauses = omega (arith, inv.size) in
    let here = sym (get_or_from_slice_get c.loop-i.clauses c.loop-i.i _ c.index_mut.result.now
    c.index_mut.ensures.value) in
    done_more _ _ _ _ _ _ _ _ _ _ _ inv lt here c.in_ok-visit_catch.ensures.ok refl

pub returns-clause-ok : goal.returns-clause-ok
returns-clause-ok g c =
    let inv = c.loop-i.invariant in
    let e : c.loop-i.i ≡ length c.loop-i.clauses = omega (arith, inv.size) in
    done_all _ _ _ _ _ _ _ _ inv e
