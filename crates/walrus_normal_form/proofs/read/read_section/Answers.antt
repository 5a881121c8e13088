use Rattle.std.proofs.Common.{◌≡◌, ◌⊎◌, ◌∙◌, sym, subst}
use Rattle.std.proofs.lemmas.List.{nil_from_length}
use Rattle.std.specs.Vec.Iter.{into_iter_items}
use Rattle.walrus_sections.specs.declared.error.ReadError.{ReadError}
use Rattle.walrus_sections.specs.declared.error.ReadError.TheVariants.{Memory}
use Rattle.walrus_sections.specs.FirstError.{IsFirstError}
use Rattle.walrus_ty.specs.Records.{section_of}
use Rattle.walrus_normal_form.proofs.Reading.OwnedGroups.{all_read, one_more, refused_first, if_err_from}
use Rattle.walrus_normal_form.proofs.read.read_section.Goals as goal

pub loop-group-preserved : goal.loop-group-preserved
loop-group-preserved c =
    one_more c.args.groups.items (into_iter_items c.loop-group.group-iterator) c.loop-group.reader.slots.items
    c.loop-group.reader.groups.items c.loop-group.reader.lone.entries c.loop-group.invariant
    (into_iter_items c.next.new.self) c.in-Some.group c.push_group.new.self.slots.items
    c.push_group.new.self.groups.items c.push_group.new.self.lone.entries c.in-Some.ensures.steps.0
    c.in_ok-push_group.ensures.ok

pub returns-in_err-push_group-clause-err : goal.returns-in_err-push_group-clause-err
returns-in_err-push_group-clause-err c =
    let P : ReadError → Type 0 = λ e. (e ≡ Memory) ⊎ IsFirstError (section_of c.args.groups.items) e in
    let fact : P c.in_err-push_group.field-0.0 =
    refused_first c.args.groups.items (into_iter_items c.loop-group.group-iterator)
    c.loop-group.reader.slots.items c.loop-group.reader.groups.items c.loop-group.reader.lone.entries
    c.loop-group.invariant (into_iter_items c.next.new.self) c.in-Some.group c.in_err-push_group.field-0.0
    c.in-Some.ensures.steps.0 c.in_err-push_group.ensures.err in
    if_err_from P c.from_residual.result c.from_residual.ensures.1 (λ y q.
    (let back : c.in_err-push_group.field-0.0 ≡ y = cc in subst P back fact))

pub returns-clause-ok : goal.returns-clause-ok
returns-clause-ok c =
    let none = nil_from_length (into_iter_items c.loop-group.group-iterator)
    (sym c.loop-group.group-iterator.rest.ok.0 ∙ c.in-None.ensures.steps.0) in
    c.finish.ensures (section_of c.args.groups.items)
    (all_read c.args.groups.items (into_iter_items c.loop-group.group-iterator)
    c.loop-group.reader.slots.items c.loop-group.reader.groups.items c.loop-group.reader.lone.entries
    c.loop-group.invariant none)
