use Rattle.walrus_ty.specs.Records.{section_of}
use Rattle.std.specs.Prelude.{option_copied}
use Rattle.walrus_canonical.specs.Roots.{roots_or_all}
use Rattle.walrus_canonical.proofs.canonical_form.canonicalise.Goals as goal

pub returns-clause-known : goal.returns-clause-known
returns-clause-known c = rw c.as_slice-2.ensures.value at c.in_ok-needed.ensures.known

pub returns-clause-canonical : goal.returns-clause-canonical
returns-clause-canonical c =
    let section = section_of c.args.groups.items in
    let roots = roots_or_all section (option_copied c.args.roots) in
    let well = rw c.as_slice.ensures.value at c.in_ok-count.ensures.well_named in
    let known = rw c.as_slice-2.ensures.value at c.in_ok-needed.ensures.known in
    let needs = rw c.as_slice-2.ensures.value at c.in_ok-needed.ensures.needed in
    let are = c.in_ok-read.ensures roots well (rw c.as_slice-3.ensures.value needs) in
    c.in_ok-canonical.ensures section roots well known (rw c.as_slice-4.ensures.value needs)
    (rw (c.as_slice-4.ensures.value, ← c.as_slice-3.ensures.value) are)
