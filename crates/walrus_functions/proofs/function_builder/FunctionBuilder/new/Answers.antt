use Rattle.std.proofs.Common.{rules, ◌≡◌}
use Rattle.walrus_functions.proofs.BeginningLemmas.{holds-stays}
use Rattle.walrus_functions.proofs.function_builder.FunctionBuilder.new.Goals as goal

pub returns-clause-ok : goal.returns-clause-ok
returns-clause-ok c =
    let is : c.builder-2.inside.ty ≡ c.in_ok-ty.ty = search rules in
    record {
      between = c.add.new.self;
      entry_ty = c.in_ok-entry_ty.entry_ty;
      ty = rw is c.in_ok-ty.ensures.ok;
      ty_holds = rw is (holds-stays c.add.new.self c.add_entry_ty.new.self _ _ c.in_ok-ty.ty
          c.in_ok-entry_ty.entry_ty c.in_ok-ty.ensures.holds c.in_ok-entry_ty.ensures.ok);
      entry = search rules;
      entry_holds = search rules;
      body = search rules;
    }
