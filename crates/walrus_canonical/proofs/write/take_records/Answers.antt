use Rattle.std.proofs.Common.{ap, arith}
use Rattle.std.proofs.Math.Seq.{map-set_same}
use Rattle.std.proofs.lemmas.Option.{slice_get_within}
use Rattle.walrus_canonical.specs.declared.classes.Class.{Class}
use Rattle.walrus_canonical.proofs.Reading.ClassRecords.{set_elsewhere}
use Rattle.walrus_canonical.proofs.write.take_records.Goals as goal

pub returns-then-place-len-clause-firsts : goal.returns-then-place-len-clause-firsts
returns-then-place-len-clause-firsts c =
    map-set_same (λ (k : Class). k.first) c.args.classes.now.items c.args.place _ c.index_mut.result.now
    (ap (λ (k : Class). k.first) c.index_mut.ensures.value)

pub returns-then-place-len-clause-others : goal.returns-then-place-len-clause-others
returns-then-place-len-clause-others c other apart =
    set_elsewhere c.args.classes.now.items c.args.place other _ apart

pub returns-else-place-len-clause-records : goal.returns-else-place-len-clause-records
returns-else-place-len-clause-records c k is = absurd (
    let low = slice_get_within c.args.classes.now.items c.args.place k is in omega arith)
