use Rattle.std.proofs.Common.{ap, ◌∙◌, arith, map, slice_set, option_map, sym}
use Rattle.std.proofs.lemmas.List.{length-map, map-set}
use Rattle.std.proofs.lemmas.List.Edits.{map_over_more}
use Rattle.std.proofs.lemmas.Option.{get_or_from_slice_get, slice_get-map}
use Rattle.walrus_ty.specs.Definition.{rename}
use Rattle.walrus_ty.specs.Records.{entry_definition}
use Rattle.walrus_canonical.specs.Steps.Renamings.{index_map}
use Rattle.walrus_canonical.proofs.renaming.rename_entries.Goals as goal

pub loop-at-preserved : goal.loop-at-preserved
loop-at-preserved c =
    let now = map entry_definition c.loop-at.entries in
    let item = entry_definition c.index_mut.result.now in
    map-set entry_definition c.loop-at.entries c.loop-at.at c.rename_entry.new.entry
    ∙ (ap (slice_set now c.loop-at.at) c.rename_entry.ensures
    ∙ map_over_more (rename (index_map c.args.renaming.now)) (map entry_definition c.args.entries.now) now
    c.loop-at.at item
    (omega (arith, length-map c.args.entries.now entry_definition, c.loop-at-test.true, c.len-at-end.ensures))
    c.loop-at.invariant (sym (get_or_from_slice_get now c.loop-at.at item item
    (slice_get-map entry_definition c.loop-at.entries c.loop-at.at
    ∙ ap (option_map entry_definition) c.index_mut.ensures.value))))
