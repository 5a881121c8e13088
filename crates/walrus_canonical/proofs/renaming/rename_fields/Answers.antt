use Rattle.std.proofs.Common.{◌∙◌, ap, arith, slice_set, sym}
use Rattle.std.proofs.lemmas.List.Edits.{map_over_more}
use Rattle.std.proofs.lemmas.Option.{get_or_from_slice_get}
use Rattle.walrus_ty.specs.Value.{rename_field}
use Rattle.walrus_canonical.specs.Steps.Renamings.{index_map}
use Rattle.walrus_canonical.proofs.renaming.rename_fields.Goals as goal

pub loop-at-preserved : goal.loop-at-preserved
loop-at-preserved c =
    let item = c.index_mut.result.now in
    ap (slice_set c.loop-at.fields c.loop-at.at) c.rename_field.ensures
    ∙ map_over_more (rename_field (index_map c.args.renaming.now)) c.args.fields.now c.loop-at.fields
    c.loop-at.at item (omega arith) c.loop-at.invariant
    (sym (get_or_from_slice_get c.loop-at.fields c.loop-at.at item item c.index_mut.ensures.value))
