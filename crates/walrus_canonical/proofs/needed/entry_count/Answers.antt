use Rattle.std.proofs.Common.{◌≡◌, subst}
use Rattle.walrus_ty.specs.Records.{section_of}
use Rattle.walrus_sections.specs.declared.error.ReadError.{ReadError}
use Rattle.walrus_sections.specs.FirstError.{IsFirstError}
use Rattle.walrus_canonical.proofs.Needs.CheckedGroups.{first_refused, if_err_from, one_checked}
use Rattle.walrus_canonical.proofs.needed.entry_count.Goals as goal

pub loop-group-preserved : goal.loop-group-preserved
loop-group-preserved c =
    one_checked c.args.groups.now c.loop-group.group-index c.loop-group.start c.in_ok-start.start
    c.group-item.result c.loop-group-test.true c.group-item.is c.loop-group.invariant
    c.in_ok-start.ensures.ok c.in_ok-start.ensures.end

pub returns-in_err-start-clause-refused : goal.returns-in_err-start-clause-refused
returns-in_err-start-clause-refused c =
    let P : ReadError → Type 0 = λ e. IsFirstError (section_of c.args.groups.now) e in
    let fact : P c.in_err-start.field-0.0 =
    first_refused c.args.groups.now c.loop-group.group-index c.loop-group.start c.group-item.result
    c.in_err-start.field-0.0 c.loop-group-test.true c.group-item.is c.loop-group.invariant
    c.in_err-start.ensures.err in
    if_err_from P c.from_residual.result c.from_residual.ensures.1 (λ y q.
    (let back : c.in_err-start.field-0.0 ≡ y = cc in subst P back fact))
