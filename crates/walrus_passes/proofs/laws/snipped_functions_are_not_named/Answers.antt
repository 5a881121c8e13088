use Rattle.std.proofs.Common.{sym, ap, ◌∙◌}
use Rattle.walrus_passes.specs.ChangedCalls.{named_function, snipped}
use Rattle.walrus_passes.proofs.ChangedCalls.{is-image, snipped-names_none}
use Rattle.walrus_passes.proofs.laws.snipped_functions_are_not_named.Goals as goal

pub returns : goal.returns
returns c = λ funcs old new snips seq item func there here named listed.
    let image = is-image (snipped funcs) old new seq item snips there here in
    snipped-names_none funcs image.0 func (sym (ap named_function image.1) ∙ named) listed
