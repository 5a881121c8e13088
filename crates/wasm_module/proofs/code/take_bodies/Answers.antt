use Rattle.std.proofs.Common.{rules}
use Rattle.std.proofs.lemmas.Result.{err_from_is_err_and}
use Rattle.wasm_module.proofs.CodeSections.{no_bodies, bodies_on, bodies_malformed}
use Rattle.wasm_module.proofs.code.take_bodies.Goals as goal

pub loop-init : goal.loop-init
loop-init c = rw c.new-named.ensures.items (no_bodies c.args.input.now.now)

pub returns-in_err-types-clause-refused : goal.returns-in_err-types-clause-refused
returns-in_err-types-clause-refused c =
    let p = err_from_is_err_and c.from_residual.result c.from_residual.ensures.1 in
    rw (p.1, p.2) (bodies_malformed c.args.count c.loop.counter c.args.input.now.now c.loop.input.now
    c.loop.named.items c.in_err-types.field-0.0 c.loop.invariant c.loop-test.true
    c.in_err-types.ensures.refused)

pub loop-preserved : goal.loop-preserved
loop-preserved c =
    bodies_on c.loop.counter c.args.input.now.now c.loop.input.now c.take_body.new.input.now
    c.loop.named.items c.in_ok-types.types.items c.extend_from_slice.new.self.items c.loop.invariant
    c.in_ok-types.ensures.found
    (search (rules, c.in_ok-extend_from_slice.ensures.items, c.deref.ensures.value))
