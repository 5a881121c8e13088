use Rattle.std.proofs.Common.{◌≡◌, ◌⊎◌, subst}
use Rattle.walrus_ty.specs.Records.{section_of}
use Rattle.walrus_sections.specs.FirstError.{IsFirstError}
use Rattle.walrus_sections.specs.declared.error.ReadError.TheVariants.{Memory}
use Rattle.typenorm.proofs.Failures.{explains_refused, explains_text, if_err_and}
use Rattle.typenorm.proofs.normalise_text.Goals as goal

pub returns-in_err-groups-clause-failed : goal.returns-in_err-groups-clause-failed
returns-in_err-groups-clause-failed g c =
    let error = c.in_err-groups.field-0.0 in
    let refused = subst (λ groups. (error ≡ Memory) ⊎ IsFirstError (section_of groups) error)
    c.as_slice.ensures.value c.in_err-groups.ensures.refused in
    if_err_and c.from_residual-in_err-groups.result _ _ (λ failure is.
    explains_refused c.first_error_decides.ensures.not_both (g.R.Read.remaining c.args.reader.now)
    c.in_ok-section.section.items error c.in_ok-section.ensures.fits c.in_ok-section.ensures.read
    refused failure is)
    c.from_residual-in_err-groups.ensures.1

pub returns-in_err-section-clause-failed : goal.returns-in_err-section-clause-failed
returns-in_err-section-clause-failed g c =
    if_err_and c.from_residual.result _ _ (λ failure is.
    explains_text (g.R.Read.remaining c.args.reader.now) c.in_err-section.field-0.0
    c.in_err-section.ensures.refused failure is) c.from_residual.ensures.1
