use Rattle.std.proofs.Common.{List, subst, sym, ℕ}
use Rattle.walrus_ty.specs.Records.{section_of}
use Rattle.walrus_sections.specs.NormalForm.{identity}
use Rattle.walrus_types.specs.ReaderState.{IsReadInto}
use Rattle.walrus_types.proofs.read_then_emit.normalise_by_table.Goals as goal

pub returns-clause-swapped_well_named : goal.returns-clause-swapped_well_named
returns-clause-swapped_well_named c = λ t i swap. c.swap_keeps_output.ensures.well_named
    (section_of c.args.groups.now) t i c.in_ok-types.ensures.ok.well_named swap

pub returns-clause-swapped : goal.returns-clause-swapped
returns-clause-swapped c = λ t i swap.
    let s = section_of c.args.groups.now in
    let read = c.in_ok-types.ensures.ok in
    let normal = c.in_ok-normal.ensures s (subst (λ (ids : List ℕ). IsReadInto s c.in_ok-types.types ids)
    (sym c.as_slice.ensures.value) read) in
    c.swap_keeps_output.ensures.output s t (section_of c.in_ok-normal.normal.items) c.in_ok-normal.map.items i
    read.well_named swap normal

pub returns-clause-stays : goal.returns-clause-stays
returns-clause-stays c = λ itself.
    let s = section_of c.args.groups.now in
    let read = c.in_ok-types.ensures.ok in
    let normal = c.in_ok-normal.ensures s (subst (λ (ids : List ℕ). IsReadInto s c.in_ok-types.types ids)
    (sym c.as_slice.ensures.value) read) in
    c.contents_tell_records.ensures.section c.in_ok-normal.normal.items c.args.groups.now
    (sym (c.one_normal_form.ensures.section s s (section_of c.in_ok-normal.normal.items) (identity s)
    c.in_ok-normal.map.items read.well_named itself normal))

pub returns-clause-only_section : goal.returns-clause-only_section
returns-clause-only_section c = λ n m form.
    let s = section_of c.args.groups.now in
    let read = c.in_ok-types.ensures.ok in
    let normal = c.in_ok-normal.ensures s (subst (λ (ids : List ℕ). IsReadInto s c.in_ok-types.types ids)
    (sym c.as_slice.ensures.value) read) in
    c.one_normal_form.ensures.section s n (section_of c.in_ok-normal.normal.items) m c.in_ok-normal.map.items
    read.well_named form normal

pub returns-clause-only_map : goal.returns-clause-only_map
returns-clause-only_map c = λ n m form.
    let s = section_of c.args.groups.now in
    let read = c.in_ok-types.ensures.ok in
    let normal = c.in_ok-normal.ensures s (subst (λ (ids : List ℕ). IsReadInto s c.in_ok-types.types ids)
    (sym c.as_slice.ensures.value) read) in
    c.one_normal_form.ensures.map s n (section_of c.in_ok-normal.normal.items) m c.in_ok-normal.map.items
    read.well_named form normal
