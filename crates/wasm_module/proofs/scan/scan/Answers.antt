use Rattle.std.proofs.lemmas.Result.{err_from_is_err_and}
use Rattle.wasm_module.proofs.Scanning.{begun}
use Rattle.wasm_module.proofs.Searching.{found_type, found_none, passes_shorter, refused_behind, noted, ended}
use Rattle.wasm_module.proofs.scan.scan.Goals as goal

pub loop-stack-init : goal.loop-stack-init
loop-stack-init c = rw c.new-named.ensures.items (begun _ _)

pub returns-in_err-found-clause-refused : goal.returns-in_err-found-clause-refused
returns-in_err-found-clause-refused c =
    let p = err_from_is_err_and c.from_residual.result c.from_residual.ensures.1 in
    rw (p.1, p.2)
    (refused_behind c.in_err-found.field-0.0 c.loop-stack.invariant.reads c.in_err-found.ensures.refused)

pub loop-stack-smaller : goal.loop-stack-smaller
loop-stack-smaller c = passes_shorter (found_type c.in-Some.is c.in_ok-found.ensures.passed)

pub loop-stack-preserved : goal.loop-stack-preserved
loop-stack-preserved c =
    noted c.loop-stack.invariant (found_type c.in-Some.is c.in_ok-found.ensures.passed) c.in_ok-note.ensures

pub returns-clause-found : goal.returns-clause-found
returns-clause-found c =
    ended c.loop-stack.invariant
    (found_none c.in_ok-found.field-0 c.in_default.not-Some c.in_ok-found.ensures.passed)
