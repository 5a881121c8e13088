use Rattle.std.proofs.Common.{sym}
use Rattle.wasmnorm.specs.Judged.{refused, before_types}
use Rattle.wasmnorm.proofs.fault.first_of_module.Goals as goal

pub returns-then-not-is_of_types-clause-explains : goal.returns-then-not-is_of_types-clause-explains
returns-then-not-is_of_types-clause-explains c = λ options why. refused c.args.error why

pub returns-in-Some-clause-explains : goal.returns-in-Some-clause-explains
returns-in-Some-clause-explains c = λ options why.
    before_types c.args.error c.in-Some.offset (sym c.if-not-is_of_types.ensures) why c.in-Some.ensures

pub returns-in-None-clause-explains : goal.returns-in-None-clause-explains
returns-in-None-clause-explains c = λ options why. refused c.args.error why
