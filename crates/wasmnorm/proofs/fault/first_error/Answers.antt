use Rattle.wasmnorm.specs.Judged.{refused, whole, before_break}
use Rattle.wasmnorm.proofs.fault.first_error.Goals as goal

pub returns-in_default : goal.returns-in_default
returns-in_default c = λ why. whole (c.first_of_module.ensures.explains c.args.options why)

pub returns-in-Some-error_of_sections : goal.returns-in-Some-error_of_sections
returns-in-Some-error_of_sections c = λ why.
    before_break c.in-Some.prefix.now c.in-Some.ensures
    (c.first_of_module-in-Some-error_of_sections.ensures.of_sections
    c.in-Some-error_of_sections.ensures.of_sections)
    (c.first_of_module-in-Some-error_of_sections.ensures.explains c.args.options
    c.in-Some-error_of_sections.ensures.refused)

pub returns-in-None : goal.returns-in-None
returns-in-None c = λ why. whole (refused c.args.error why)
