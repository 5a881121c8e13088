use Rattle.std.proofs.Common.{sym}
use Rattle.walrus_ty.specs.Records.{section_of}
use Rattle.walrus_sections.specs.NormalForm.{identity}
use Rattle.walrus_normal_form.proofs.normal_form.normalise_owned.Goals as goal

pub returns-clause-swapped_well_named : goal.returns-clause-swapped_well_named
returns-clause-swapped_well_named c = λ t i swap. c.swap_keeps_output.ensures.well_named
    (section_of c.args.groups.items) t i c.in_ok-read.ensures.ok.well_named swap

pub returns-clause-swapped : goal.returns-clause-swapped
returns-clause-swapped c = λ t i swap.
    let s = section_of c.args.groups.items in
    let read = c.in_ok-read.ensures.ok in
    c.swap_keeps_output.ensures.output s t (section_of c.in_ok-normal.normal.items) c.in_ok-normal.map.items i
    read.well_named swap (c.in_ok-normal.ensures s read)

pub returns-clause-stays : goal.returns-clause-stays
returns-clause-stays c = λ itself.
    let s = section_of c.args.groups.items in
    let read = c.in_ok-read.ensures.ok in
    c.contents_tell_records.ensures.section c.in_ok-normal.normal.items c.args.groups.items
    (sym (c.one_normal_form.ensures.section s s (section_of c.in_ok-normal.normal.items) (identity s)
    c.in_ok-normal.map.items read.well_named itself (c.in_ok-normal.ensures s read)))
