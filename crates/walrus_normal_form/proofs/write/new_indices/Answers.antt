use Rattle.std.proofs.Common.{ap, ◌∙◌, arith, slice_set, Some, sym, ℕ, length-set}
use Rattle.std.proofs.lemmas.Option.{slice_get-get_or}
use Rattle.walrus_sections.specs.NormalForm.{image}
use Rattle.walrus_normal_form.proofs.Reading.RenamedItems.{item-replaced}
use Rattle.walrus_normal_form.proofs.write.new_indices.Goals as goal

pub loop-at-preserved : goal.loop-at-preserved
loop-at-preserved c = record {
  long = length-set c.loop-at.slots.items c.loop-at.at c.rename_index.result ∙ c.loop-at.invariant.long;
  items =
      ap (λ x. slice_set c.loop-at.slots.items c.loop-at.at x) c.rename_index.ensures
      ∙ item-replaced (image c.args.new_index.now) c.args.slots.items c.loop-at.slots.items c.loop-at.at
      c.index.result.now (omega arith) c.loop-at.invariant.items
      (slice_get-get_or c.loop-at.slots.items c.loop-at.at c.index.result.now (omega arith)
      ∙ ap (λ (n : ℕ). Some n) (sym c.index.ensures));
}
