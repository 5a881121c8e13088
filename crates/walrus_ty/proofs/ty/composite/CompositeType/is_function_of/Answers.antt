use Rattle.walrus_ty.proofs.Equality.Types.{results_test, params_test}
use Rattle.walrus_ty.proofs.ty.composite.CompositeType.is_function_of.Goals as goal

pub returns-then-eq : goal.returns-then-eq
returns-then-eq c = results_test c.args.self.now c.in-Function.f c.args.params.now c.args.results.now
    c.eq.result c.eq-then-eq.result c.in-Function.is (rw c.params.ensures at c.eq.ensures) c.if-eq.true
    (rw c.results.ensures at c.eq-then-eq.ensures)

pub returns-else-eq : goal.returns-else-eq
returns-else-eq c = params_test c.args.self.now c.in-Function.f c.args.params.now c.args.results.now
    c.eq.result c.in-Function.is (rw c.params.ensures at c.eq.ensures) c.if-eq.false
