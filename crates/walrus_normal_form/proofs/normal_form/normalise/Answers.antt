use Rattle.std.proofs.Common.{ℕ, List, IfOk, subst, suc}
use Rattle.std.specs.List.{swap}
use Rattle.walrus_ty.specs.declared.records.GroupAt.{GroupAt}
use Rattle.walrus_ty.specs.Groups.{Section}
use Rattle.walrus_ty.specs.Records.{section_of}
use Rattle.walrus_sections.specs.Moves.{IsRenumberedSwap}
use Rattle.walrus_sections.specs.NormalForm.{IsNormalForm}
use Rattle.walrus_sections.specs.Section.{IsWellNamed}
use Rattle.walrus_normal_form.proofs.normal_form.normalise.Goals as goal

pub returns-clause-swapped_well_named : goal.returns-clause-swapped_well_named
returns-clause-swapped_well_named c =
    subst (λ (groups : List GroupAt). IfOk c.normalise_owned.result (λ r. (t : Section) (i : ℕ) →
    IsRenumberedSwap (section_of groups) t i → IsWellNamed t)) c.in_ok-copy.ensures
    c.normalise_owned.ensures.swapped_well_named

pub returns-clause-swapped : goal.returns-clause-swapped
returns-clause-swapped c =
    subst (λ (groups : List GroupAt). IfOk c.normalise_owned.result (λ r. (t : Section) (i : ℕ) →
    IsRenumberedSwap (section_of groups) t i → IsNormalForm t (section_of r.0.items) (swap r.1.items i (suc i))))
    c.in_ok-copy.ensures c.normalise_owned.ensures.swapped
