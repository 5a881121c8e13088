use Rattle.std.proofs.Common.{◌≡◌, arith, None}
use Rattle.std.proofs.lemmas.Option.{slice_get_within}
use Rattle.walrus_ty.specs.{Definition.names_of, Indices.type_index, Lookups.first_missing, Records.entry_definition}
use Rattle.walrus_types.specs.TableEmission.{definition_at}
use Rattle.walrus_sections.specs.WritingOrders.{with_indices}
use Rattle.walrus_types.proofs.Emission.WrittenEntries.{done_more, each_more}
use Rattle.walrus_types.proofs.emit.write.entries_of.Goals as goal

pub loop-id-preserved : goal.loop-id-preserved
loop-id-preserved c =
    let index = type_index c.args.indices.now in
    let def = definition_at c.args.table.now.types.slots in
    let ids = c.args.ids.now in
    record {
      done = rw c.in_ok-push.ensures.items (done_more entry_definition (with_indices index def)
          c.loop-id.entries.items ids c.loop-id.id-index c.id-item.result c.in_ok-entry_of.field-0
          c.loop-id-test.true c.id-item.is c.loop-id.invariant.done c.in_ok-entry_of.ensures.renamed);
      complete = each_more (λ i. first_missing index (names_of (def i)) ≡ None) ids c.loop-id.id-index
          c.id-item.result c.id-item.is c.loop-id.invariant.complete c.in_ok-entry_of.ensures.complete;
    }

pub returns-clause-complete : goal.returns-clause-complete
returns-clause-complete c u i h = c.loop-id.invariant.complete u i
    (omega (arith, slice_get_within c.args.ids.now u i h, c.loop-id-test.false)) h
