-- Classes are released that waited for what is written now.
use Rattle.std.proofs.Common.{◌≡◌, ℕ, suc, Bool, false, ◌+◌, ◌-◌, ◌<◌, ◌≤◌, List, [], ◌∷◌, ◌++◌, length, map, slice_get, Some, ◌⊎◌, inl, inr, ◌∙◌, sym, ap, subst, Contains, arith}
use Rattle.std.specs.Prelude.{◌↔◌}
use Rattle.std.proofs.lemmas.Bool.{cases_lt, cases_eq}
use Rattle.std.proofs.lemmas.Option.{same_Some, slice_get_within}
use Rattle.walrus_ty.specs.Definition.{Definition}
use Rattle.walrus_ty.specs.Groups.{Section}
use Rattle.walrus_canonical.specs.declared.classes.Class.{Class}
use Rattle.walrus_canonical.specs.declared.waiting.Wait.{Wait}
use Rattle.walrus_canonical.specs.Steps.Writing.{Task, release_of, IsBegun, IsQueue, IsReady, AreOpen, CanRelease, IsNext, with_slots}
use Rattle.walrus_canonical.proofs.Waits.ClassWaits.{NamesSlot, waits_for}
use Rattle.walrus_canonical.proofs.Reading.Containing.{contained_from}
use Rattle.walrus_canonical.proofs.Waits.OpenWaits.{total, count_was, one_released, many_passed, all_released}
use Rattle.walrus_canonical.proofs.Output.PushedClasses.{queue_key, pushed}
use Rattle.walrus_canonical.proofs.Output.Queues.{told_anew}
use Rattle.walrus_canonical.proofs.Output.WrittenSlots.{now_written, same_below, same_above}

-- ---- one pair

module _ (task : Task) (waits : List Wait) (done after : ℕ → Bool)
    (can : CanRelease task (release_of waits done after)) (at place : ℕ)
    (n : IsNext (release_of waits done after) at place) (counts lower : List ℕ)
    (opens : AreOpen task waits done after at counts) (long : length lower ≡ length counts)
    (there : (m : ℕ) → slice_get counts place ≡ Some (m + 1) → slice_get lower place ≡ Some m)
    (others : (other : ℕ) → ¬ (other ≡ place) → slice_get lower other ≡ slice_get counts other) where
  abbrev w : Wait
  w = n.wait

  inside : Contains waits w
  inside = contained_from waits w at n.there

  -- the class that waits
  waiter : NamesSlot task.classes place w.named
  waiter = subst (λ (u : ℕ). NamesSlot task.classes u w.named) n.place_is
      (waits_for task.classes waits can.are w inside)

  abbrev class : Class
  class = waiter.class

  undone : after class.first ≡ false
  undone = can.waiting w class inside (ap (slice_get task.classes) n.place_is ∙ waiter.at) n.opens

  -- what its count is now
  abbrev pub left : ℕ
  left = total task waits done after (at + 1) w.waiting

  low : w.waiting < length counts
  low =
      let z = slice_get_within task.classes place class waiter.at in
      omega (arith, z, opens.one_each, n.place_is)

  pub was : slice_get counts place ≡ Some (left + 1)
  was = ap (slice_get counts) (sym n.place_is)
      ∙ (count_was task waits done after at w counts n.there n.opens n.closed low opens
      ∙ (let z : suc left ≡ left + 1 = omega arith in ap (λ (u : ℕ). Some u) z))

  is_left : slice_get lower place ≡ Some left
  is_left = there left was

  pub counts_now : AreOpen task waits done after (at + 1) lower
  counts_now = one_released task waits done after at w counts lower n.there n.opens n.closed opens long
      (ap (slice_get lower) n.place_is ∙ is_left)
      (λ c apart. others c (λ e. apart (e ∙ sym n.place_is)))

  not_ready_before : ¬ (IsReady task after counts place)
  not_ready_before r =
      let z : left + 1 ≡ 0 = same_Some (left + 1) 0 (sym was ∙ r.3) in omega (arith, z)

  apart_from : (d : ℕ) → IsReady task after counts d → ¬ (d ≡ place)
  apart_from d r e = not_ready_before (subst (λ (u : ℕ). IsReady task after counts u) e r)

  forth : (d : ℕ) → IsReady task after counts d → IsReady task after lower d
  forth d r = (r.0, r.1, r.2, others d (apart_from d r) ∙ r.3)

  back : (d : ℕ) → ¬ (d ≡ place) → IsReady task after lower d → IsReady task after counts d
  back d apart r = (r.0, r.1, r.2, sym (others d apart) ∙ r.3)

  module _ (before : Section) (new_index : List ℕ) (next : ℕ) (b : IsBegun task after before new_index next)
      (now : List Class) (queue : List (List Definition × ℕ))
      (q : IsQueue task after new_index (IsReady task after counts) now queue) where
    -- it waits for nothing any more
    pub ready_now :
        (newer : List Class) (longer : List (List Definition × ℕ)) → left ≡ 0 →
        ((k : Class) → slice_get now place ≡ Some k →
        longer ≡ queue ++ (queue_key new_index k, place) ∷ []) →
        map (λ (k : Class). k.first) newer ≡ map (λ (k : Class). k.first) now →
        ((d : ℕ) → ¬ (d ≡ place) → slice_get newer d ≡ slice_get now d) →
        IsQueue task after new_index (IsReady task after lower) newer longer
    ready_now newer longer zero_left put firsts rest =
        let none : slice_get lower place ≡ Some 0 = is_left ∙ ap (λ (u : ℕ). Some u) zero_left in
        told_anew task after new_index (λ d. IsReady task after counts d ⊎ (d ≡ place))
        (IsReady task after lower) newer longer
        (pushed task waits done after before new_index next b (at + 1) lower can.are counts_now can.more
        (IsReady task after counts) now newer queue q place class waiter.at none undone not_ready_before
        longer put firsts rest)
        (λ d r. elim r [
          | inl x ↦ forth d x
          | inr e ↦ (
            class,
            ap (slice_get task.classes) e ∙ waiter.at,
            undone,
            ap (slice_get lower) e ∙ none,
          )
        ])
        (λ d r. elim (cases_eq d place) [
          | inl e ↦ inr e
          | inr apart ↦ inl (back d apart r)
        ])

    -- it still waits for something
    pub waits_on : ¬ (left ≡ 0) → IsQueue task after new_index (IsReady task after lower) now queue
    waits_on some = told_anew task after new_index (IsReady task after counts) (IsReady task after lower) now
        queue q forth (λ d r. elim (cases_eq d place) [
          | inl e ↦ absurd (some (same_Some left 0 (sym is_left ∙ (ap (slice_get lower) (sym e) ∙ r.3))))
          | inr apart ↦ back d apart r
        ])

-- ---- all pairs of the slots that are written now

module _ (task : Task) (waits : List Wait) (done : ℕ → Bool) (first end low high : ℕ)
    (undone : (x : ℕ) → first ≤ x → x < end → done x ≡ false)
    (from : (at : ℕ) (w : Wait) → slice_get waits at ≡ Some w → (at < low) ↔ (w.named < first))
    (to : (at : ℕ) (w : Wait) → slice_get waits at ≡ Some w → (at < high) ↔ (w.named < end)) where
  abbrev after : ℕ → Bool
  after = with_slots done first end

  -- those before name slots before
  pub none_before :
      (counts : List ℕ) → low ≤ length waits → AreOpen task waits done after 0 counts →
      AreOpen task waits done after low counts
  none_before counts fits a =
      let z : 0 + low ≡ low = omega arith in
      subst (λ (u : ℕ). AreOpen task waits done after u counts) z
      (many_passed task waits done after low 0 counts (omega (arith, fits))
      (λ k w under less is. sym (same_below done first end w.named
      ((from k w is).0 (omega (arith, less))))) a)

  -- one in between is the next one
  pub next_pair :
      (at place : ℕ) (w : Wait) → low ≤ at → at < high → slice_get waits at ≡ Some w →
      w.waiting ≡ place → IsNext (release_of waits done after) at place
  next_pair at place w over less is place_is =
      let below : w.named < end = (to at w is).0 less in
      let above : first ≤ w.named = elim (cases_lt w.named first) [
        | inl under ↦ absurd (omega (arith, (from at w is).1 under, over))
        | inr x ↦ x
      ] in
      record {
        wait = w;
        there = is;
        place_is = place_is;
        opens = undone w.named above below;
        closed = now_written done first end w.named above below;
      }

  -- those behind name slots behind
  pub none_behind :
      (at : ℕ) (counts : List ℕ) → high ≤ at → at ≤ length waits → AreOpen task waits done after at counts →
      AreOpen task waits after after 0 counts
  none_behind at counts over fits a =
      let n = length waits - at in
      let z : at + n ≡ length waits = omega (arith, fits) in
      all_released task waits done after (at + n) counts z
      (many_passed task waits done after n at counts (omega (arith, z))
      (λ k w under less is. sym (same_above done first end w.named
      (above k w is (omega (arith, under, over)))))
      a)
    where
      above : (k : ℕ) (w : Wait) → slice_get waits k ≡ Some w → high ≤ k → end ≤ w.named
      above k w is behind = elim (cases_lt w.named end) [
        | inl less ↦ absurd (omega (arith, (to k w is).1 less, behind))
        | inr x ↦ x
      ]
