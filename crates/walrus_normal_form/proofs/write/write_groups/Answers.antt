use Rattle.std.proofs.Common.{◌≡◌, ℕ, ◌+◌, ◌<◌, ◌≤◌, ◌⊎◌, ◌∙◌, List, Some, length, map, get_or, slice_get, sym, ap, subst, arith, take}
use Rattle.std.proofs.lemmas.List.Elements.{All-get_or}
use Rattle.walrus_ty.specs.Records.{group_of}
use Rattle.walrus_sections.specs.FirstError.{definitions_of}
use Rattle.walrus_sections.specs.NormalForm.{image}
use Rattle.walrus_normal_form.specs.Steps.WrittenRecords.{AreNumbered, groups_at, rename_group, slots_in}
use Rattle.walrus_normal_form.proofs.Writing.Numbering.{all_groups, all_within, few_more, group_taken, left_more, next_is, numbered_more, place_below, renamed, renamed_more}
use Rattle.walrus_normal_form.proofs.write.write_groups.Goals as goal

pub give_indices-next-requires : goal.give_indices-next-requires
give_indices-next-requires c =
    let gs = groups_at c.args.groups.items c.args.order.now in
    let i = c.loop-place.place-index in
    let g = c.take_group-first.result in
    let below = place_below c.args.groups.items c.loop-place.groups.items c.args.order.now i
    c.loop-place-test.true c.loop-place.invariant.left in
    let at = group_taken c.args.groups.items c.loop-place.groups.items c.args.order.now i
    c.loop-place-test.true c.loop-place.invariant.left g c.take_group-first.ensures.group in
    record {
      within = λ t lt. subst (λ (n : ℕ). g.first + t < n) (sym c.loop-place.invariant.slots)
          (all_within gs i g below at c.args.count c.requires.below t
          (omega (arith, lt, c.entry_count.ensures)));
      few = omega (
        arith,
        few_more gs i g below at c.requires.few,
        c.loop-place.invariant.next,
        c.entry_count.ensures,
      );
    }

pub loop-place-preserved : goal.loop-place-preserved
loop-place-preserved c =
    let gs = groups_at c.args.groups.items c.args.order.now in
    let i = c.loop-place.place-index in
    let g = c.take_group-first.result in
    let below = place_below c.args.groups.items c.loop-place.groups.items c.args.order.now i
    c.loop-place-test.true c.loop-place.invariant.left in
    let at = group_taken c.args.groups.items c.loop-place.groups.items c.args.order.now i
    c.loop-place-test.true c.loop-place.invariant.left g c.take_group-first.ensures.group in
    let old = c.loop-place.new_index.items in
    let new = c.give_indices-next.new.new_index.items in
    let Given : Type 0 = (t : ℕ) → t < length (definitions_of (group_of g.group)) →
    slice_get new (g.first + t) ≡ Some (length (slots_in (take i gs)) + t) in
    let given : Given = λ t lt. c.give_indices-next.ensures.given t (omega (arith, lt, c.entry_count.ensures))
    ∙ ap (λ (n : ℕ). Some (n + t)) c.loop-place.invariant.next in
    let Kept : ℕ → Type 0 = λ n. (s : ℕ) → (s < g.first) ⊎ (g.first + n ≤ s) →
    slice_get new s ≡ slice_get old s in
    let kept = subst Kept c.entry_count.ensures c.give_indices-next.ensures.kept in
    record {
      next = omega (
        arith,
        c.give_indices-next.ensures.next,
        c.loop-place.invariant.next,
        c.entry_count.ensures,
        next_is gs i g below at,
      );
      places = c.take_group-first.ensures.long ∙ c.loop-place.invariant.places;
      left = left_more c.args.groups.items c.loop-place.groups.items c.args.order.now i c.loop-place-test.true
          c.loop-place.invariant.left c.requires.distinct c.take_group-first.new.groups.items
          c.take_group-first.ensures.others;
      slots = c.give_indices-next.ensures.long ∙ c.loop-place.invariant.slots;
      numbered = numbered_more gs i g below at c.requires.apart old new c.loop-place.invariant.numbered
          given kept;
      renamed = rw c.in_ok-push.ensures.items (renamed_more gs i g below at c.requires.apart old new
          c.loop-place.invariant.numbered given kept c.requires.named c.loop-place.written.items
          c.rename_group.new.group c.loop-place.invariant.renamed (c.rename_group.ensures
          ∙ ap (λ (numbers : List ℕ). rename_group (image numbers) (group_of g.group))
          c.as_slice.ensures.value));
    }

pub take_group-first-requires : goal.take_group-first-requires
take_group-first-requires c =
    subst (λ (n : ℕ). get_or c.args.order.now c.loop-place.place-index 0 < n)
    (sym c.loop-place.invariant.places) (All-get_or (λ place. place < length c.args.groups.items)
    c.args.order.now c.loop-place.place-index 0 c.loop-place-test.true c.requires.within)

pub returns-clause-numbered : goal.returns-clause-numbered
returns-clause-numbered c =
    subst (λ gs. AreNumbered (slots_in gs) c.loop-place.new_index.items)
    (all_groups c.args.groups.items c.args.order.now c.loop-place.place-index c.loop-place-test.false)
    c.loop-place.invariant.numbered

pub returns-clause-renamed : goal.returns-clause-renamed
returns-clause-renamed c = c.loop-place.invariant.renamed
    ∙ ap (map (renamed c.loop-place.new_index.items))
    (all_groups c.args.groups.items c.args.order.now c.loop-place.place-index c.loop-place-test.false)
