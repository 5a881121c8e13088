use Rattle.std.proofs.Common.{rules, refl}
use Rattle.walrus_functions.specs.Building.{seq_id, function_of}
use Rattle.walrus_passes.specs.Conversions.Reaches.{at_start, after}
use Rattle.walrus_passes.proofs.Conversions.{converted-more, converted-if_err}
use Rattle.walrus_passes.proofs.converting_adapters.convert_each.Goals as goal

pub loop-i-init : goal.loop-i-init
loop-i-init g c = record { same = (refl, refl); known = c.requires.known; reached = at_start; so_far = refl }

pub returns-in_err-convert-clause-err : goal.returns-in_err-convert-clause-err
returns-in_err-convert-clause-err g c =
    let before = c.loop-i.invariant in
    converted-if_err (goal.F-step g) (seq_id c.args.body.now) c.args.locals.now _
    (c.loop-i.convert, function_of c.loop-i.body) (c.convert.new.self, function_of c.convert.new.arg2)
    c.in_err-convert.field-0.0 c.loop-i.i c.index-locals-i.result c.from_residual.result c.loop-i-test.true
    c.index-locals-i.is
    before.so_far (record {
      given = _;
      left = _;
      met = c.in_err-convert.ensures;
      id = before.same.0;
      before = refl;
      after = refl;
    }) (search rules)

pub loop-i-preserved : goal.loop-i-preserved
loop-i-preserved g c =
    let before = c.loop-i.invariant in
    record {
      same = search rules;
      known = search rules;
      reached =
          after _ _ _ _ c.loop-i.i _ before.reached before.known c.loop-i-test.true c.in_ok-convert.ensures;
      so_far = converted-more (goal.F-step g) (seq_id c.args.body.now) c.args.locals.now _
          (c.loop-i.convert, function_of c.loop-i.body) _ c.loop-i.i
          c.index-locals-i.result c.loop-i-test.true c.index-locals-i.is before.so_far (record {
            given = _;
            left = _;
            met = c.in_ok-convert.ensures;
            id = before.same.0;
            before = refl;
            after = refl;
          });
    }
