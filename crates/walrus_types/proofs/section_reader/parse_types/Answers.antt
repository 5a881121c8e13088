use Rattle.std.proofs.Common.{◌≡◌, ◌⊎◌, subst, arith}
use Rattle.walrus_sections.specs.declared.error.ReadError.{ReadError, TheVariants.Memory}
use Rattle.walrus_sections.specs.FirstError.{IsFirstError}
use Rattle.walrus_ty.specs.Records.{section_of}
use Rattle.walrus_types.proofs.Reading.ReaderCalls.{first_error, if_err_from}
use Rattle.walrus_types.proofs.section_reader.parse_types.Goals as goal

pub loop-group-init : goal.loop-group-init
loop-group-init c = record {
  read = c.with_hash_keys-reader.ensures.section;
  keys = c.with_hash_keys-reader.ensures.keys;
}

pub returns-in_err-push_group-clause-err : goal.returns-in_err-push_group-clause-err
returns-in_err-push_group-clause-err c =
    let P : ReadError → Type 0 = λ e. (e ≡ Memory) ⊎ IsFirstError (section_of c.args.groups.now) e in
    let fact : P c.in_err-push_group.field-0.0 =
    first_error c.args.groups.now c.loop-group.group-index c.group-item.result c.loop-group.reader.table
    c.loop-group.reader.ids c.in_err-push_group.field-0.0 (omega arith) c.group-item.is
    c.loop-group.invariant.read c.in_err-push_group.ensures.refusal in
    if_err_from P c.from_residual.result c.from_residual.ensures.1 (λ y q.
    (let back : c.in_err-push_group.field-0.0 ≡ y = cc in subst P back fact))
