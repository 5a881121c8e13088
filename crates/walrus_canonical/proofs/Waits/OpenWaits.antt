-- Waits for slots that are not written.
use Rattle.std.proofs.Common.{◌≡◌, ℕ, zero, suc, Bool, true, false, ◌+◌, ◌<◌, ◌≤◌, List, [], ◌∷◌, ◌++◌, length, take, drop, get_or, cond, nat_eq, slice_get, Some, inl, inr, ◌∙◌, refl, sym, ap, subst, Contains, arith}
use Rattle.std.proofs.lemmas.Bool.{cases_eq, cases_Bool}
use Rattle.std.proofs.lemmas.Bool.Decides.{nat_tests}
use Rattle.std.proofs.lemmas.List.{take_more, take_all, drop_more, drop_all, take-append-drop, length-take-le}
use Rattle.std.proofs.lemmas.List.Elements.{Contains-append_cases}
use Rattle.std.proofs.lemmas.Option.{same_Some, slice_get_within, slice_get-get_or, get_or_from_slice_get}
use Rattle.walrus_canonical.specs.declared.waiting.Wait.{Wait}
use Rattle.walrus_canonical.specs.Steps.Waits.{open_count, AreCounts}
use Rattle.walrus_canonical.specs.Steps.Writing.{Task, AreOpen}
use Rattle.walrus_canonical.proofs.Reading.Containing.{contained_cases, contained_none, contained_first, contained_later}

-- what one pair adds
abbrev part : (ℕ → Bool) → Wait → ℕ → ℕ
part done w c = cond (nat_eq w.waiting c) (cond (done w.named) 0 1) 0

part_done : (done : ℕ → Bool) (w : Wait) (c : ℕ) → done w.named ≡ true → part done w c ≡ 0
part_done done w c d = grind (arith, nat_tests, d)

part_other : (done : ℕ → Bool) (w : Wait) (c : ℕ) → ¬ (w.waiting ≡ c) → part done w c ≡ 0
part_other done w c other = grind (arith, nat_tests, other)

part_open : (done : ℕ → Bool) (w : Wait) (c : ℕ) → w.waiting ≡ c → done w.named ≡ false → part done w c ≡ 1
part_open done w c same d = grind (arith, nat_tests, same, d)

part_agrees :
    (done after : ℕ → Bool) (w : Wait) (c : ℕ) → done w.named ≡ after w.named → part done w c ≡ part after w c
part_agrees done after w c e = ap (λ (b : Bool). cond (nat_eq w.waiting c) (cond b 0 1) 0) e

-- where none is open, each slot is written
pub zero_open :
    (done : ℕ → Bool) (ws : List Wait) (c : ℕ) → open_count done ws c ≡ 0 → (w : Wait) → Contains ws w →
    w.waiting ≡ c → done w.named ≡ true
zero_open done [] c none w m same = absurd (contained_none w m)
zero_open done (v ∷ ws) c none w m same = elim (contained_cases ws v w m) [
  | inl is ↦ elim (cases_Bool (done w.named)) [
    | inl d ↦ d
    | inr opens ↦ absurd (
        let here : part done v c ≡ part done w c = ap (λ (u : Wait). part done u c) is in
        omega (arith, none, part_open done w c same opens, here))
  ]
  | inr later ↦ zero_open done ws c (omega (arith, none)) w later same
]

pub open_zero :
    (done : ℕ → Bool) (ws : List Wait) (c : ℕ) →
    ((w : Wait) → Contains ws w → w.waiting ≡ c → done w.named ≡ true) → open_count done ws c ≡ 0
open_zero done [] c h = refl
open_zero done (v ∷ ws) c h =
    let rest = open_zero done ws c (λ w m same. h w (contained_later ws v w m) same) in
    let here : part done v c ≡ 0 = elim (cases_eq v.waiting c) [
      | inl same ↦ part_done done v c (h v (contained_first ws v) same)
      | inr other ↦ part_other done v c other
    ] in
    omega (arith, rest, here)

open_last :
    (done : ℕ → Bool) (ws : List Wait) (w : Wait) (c : ℕ) →
    open_count done (ws ++ w ∷ []) c ≡ open_count done ws c + part done w c
open_last done [] w c = omega arith
open_last done (v ∷ ws) w c = omega (arith, open_last done ws w c)

taken_more :
    (ws : List Wait) (at : ℕ) (w : Wait) → slice_get ws at ≡ Some w →
    take (at + 1) ws ≡ take at ws ++ w ∷ []
taken_more ws at w is = take_more ws at w (slice_get_within ws at w is)
    ∙ ap (λ (v : Wait). take at ws ++ v ∷ []) (get_or_from_slice_get ws at w w is)

few_counted : (ws : List Wait) (c : ℕ) → open_count (λ x. false) ws c ≤ length ws
few_counted [] c = omega arith
few_counted (w ∷ ws) c = let h = few_counted ws c in grind (arith, nat_tests, h)

pub one_counted :
    (waits : List Wait) (at : ℕ) (w : Wait) (n : ℕ) (old new : List ℕ) → slice_get waits at ≡ Some w →
    length waits < 18446744073709551616 → AreCounts (take at waits) n old → length new ≡ length old →
    ((m : ℕ) → slice_get old w.waiting ≡ Some m → m + 1 < 18446744073709551616 →
    slice_get new w.waiting ≡ Some (m + 1)) →
    ((other : ℕ) → ¬ (other ≡ w.waiting) → slice_get new other ≡ slice_get old other) →
    AreCounts (take (at + 1) waits) n new
one_counted waits at w n old new is bounded a long there others = record {
  long = long ∙ a.long;
  each = λ c low. elim (cases_eq c w.waiting) [
    | inl same ↦ (
        let inside = slice_get_within waits at w is in
        let short : length (take at waits) ≤ at =
        omega (arith, length-take-le at waits (omega (arith, inside))) in
        let now = there (count w.waiting) (a.each w.waiting (omega (arith, low, same)))
        (omega (arith, few_counted (take at waits) w.waiting, short, inside, bounded)) in
        ap (slice_get new) same ∙ (now ∙ (ap (λ (m : ℕ). Some m)
        (omega (arith, more w.waiting, part_open (λ x. false) w w.waiting refl refl))
        ∙ ap (λ (u : ℕ). Some (open_count (λ x. false) (take (at + 1) waits) u)) (sym same))))
    | inr other ↦ others c other ∙ (a.each c low
        ∙ ap (λ (m : ℕ). Some m) (omega (arith, more c, part_other (λ x. false) w c (λ e. other (sym e)))))
  ];
}
  where
    count : ℕ → ℕ
    count c = open_count (λ x. false) (take at waits) c

    more : (c : ℕ) → open_count (λ x. false) (take (at + 1) waits) c ≡ count c + part (λ x. false) w c
    more c = ap (λ (ws : List Wait). open_count (λ x. false) ws c) (taken_more waits at w is)
        ∙ open_last (λ x. false) (take at waits) w c

module _ (task : Task) (waits : List Wait) (done after : ℕ → Bool) where
  -- the counts at a place and at the next one
  abbrev pub total : ℕ → ℕ → ℕ
  total at c = open_count after (take at waits) c + open_count done (drop at waits) c

  total_here :
      (at c : ℕ) (w : Wait) → slice_get waits at ≡ Some w → total at c ≡
      open_count after (take at waits) c + (part done w c + open_count done (drop (at + 1) waits) c)
  total_here at c w is = ap (λ (ws : List Wait). open_count after (take at waits) c + open_count done ws c)
      (drop_more waits at w (slice_get_within waits at w is)
      ∙ ap (λ (v : Wait). v ∷ drop (at + 1) waits) (get_or_from_slice_get waits at w w is))

  total_next :
      (at c : ℕ) (w : Wait) → slice_get waits at ≡ Some w → total (at + 1) c ≡
      (open_count after (take at waits) c + part after w c) + open_count done (drop (at + 1) waits) c
  total_next at c w is = ap (λ (n : ℕ). n + open_count done (drop (at + 1) waits) c)
      (ap (λ (ws : List Wait). open_count after ws c) (taken_more waits at w is)
      ∙ open_last after (take at waits) w c)

  -- one that was open is no longer
  pub count_was :
      (at : ℕ) (w : Wait) (counts : List ℕ) → slice_get waits at ≡ Some w → done w.named ≡ false →
      after w.named ≡ true → w.waiting < length counts → AreOpen task waits done after at counts →
      slice_get counts w.waiting ≡ Some (suc (total (at + 1) w.waiting))
  count_was at w counts is opens now low a =
      let here = total_here at w.waiting w is in
      let next = total_next at w.waiting w is in
      let one = part_open done w w.waiting refl opens in
      let none = part_done after w w.waiting now in
      a.each w.waiting low ∙ ap (λ (n : ℕ). Some n) (omega (arith, here, next, one, none))

  pub one_released :
      (at : ℕ) (w : Wait) (counts newer : List ℕ) → slice_get waits at ≡ Some w → done w.named ≡ false →
      after w.named ≡ true → AreOpen task waits done after at counts → length newer ≡ length counts →
      slice_get newer w.waiting ≡ Some (total (at + 1) w.waiting) →
      ((c : ℕ) → ¬ (c ≡ w.waiting) → slice_get newer c ≡ slice_get counts c) →
      AreOpen task waits done after (at + 1) newer
  one_released at w counts newer is opens now a long there others = record {
    one_each = long ∙ a.one_each;
    each = λ c low. elim (cases_eq c w.waiting) [
      | inl same ↦ ap (slice_get newer) same ∙ (there ∙ ap (λ (u : ℕ). Some (total (at + 1) u)) (sym same))
      | inr other ↦ (
          let apart : w.waiting ≡ c → ⊥ = λ e. other (sym e) in
          let x = part_other done w c apart in
          let y = part_other after w c apart in
          others c other ∙ (a.each c (omega (arith, low, long))
          ∙ ap (λ (n : ℕ). Some n) (omega (arith, total_here at c w is, total_next at c w is, x, y))))
    ];
  }

  -- one that both tests tell alike is passed over
  one_passed :
      (at : ℕ) (w : Wait) (counts : List ℕ) → slice_get waits at ≡ Some w →
      done w.named ≡ after w.named → AreOpen task waits done after at counts →
      AreOpen task waits done after (at + 1) counts
  one_passed at w counts is alike a = record {
    one_each = a.one_each;
    each = λ c low. (
        let next = total_next at c w is in
        let same = part_agrees done after w c alike in
        a.each c low ∙ ap (λ (n : ℕ). Some n) (omega (arith, total_here at c w is, next, same)));
  }

  pub many_passed :
      (n at : ℕ) (counts : List ℕ) → at + n ≤ length waits →
      ((k : ℕ) (w : Wait) → at ≤ k → k < at + n → slice_get waits k ≡ Some w →
      done w.named ≡ after w.named) → AreOpen task waits done after at counts →
      AreOpen task waits done after (at + n) counts
  many_passed zero at counts fits alike a =
      let z : at ≡ at + 0 = omega arith in
      subst (λ (u : ℕ). AreOpen task waits done after u counts) z a
  many_passed (suc n) at counts fits alike a =
      let z : at + 1 + n ≡ at + suc n = omega arith in
      let none : Wait = record { named = 0; waiting = 0 } in
      let w = get_or waits at none in
      let there = slice_get-get_or waits at none (omega (arith, fits)) in
      subst (λ (u : ℕ). AreOpen task waits done after u counts) z
      (many_passed n (at + 1) counts (omega (arith, fits))
      (λ k v low high is. alike k v (omega (arith, low)) (omega (arith, high)) is)
      (one_passed at w counts there (alike at w (omega arith) (omega arith) there) a))

  -- from none released to all
  pub none_released :
      (counts : List ℕ) → AreOpen task waits done done 0 counts → AreOpen task waits done after 0 counts
  none_released counts a = record { one_each = a.one_each; each = λ c low. a.each c low }

  pub all_released :
      (at : ℕ) (counts : List ℕ) → at ≡ length waits → AreOpen task waits done after at counts →
      AreOpen task waits after after 0 counts
  all_released at counts all a = record {
    one_each = a.one_each;
    each = λ c low. (
        let taken = ap (λ (ws : List Wait). open_count after ws c) (take_all at waits (omega (arith, all))) in
        let dropped = ap (λ (ws : List Wait). open_count done ws c)
        (drop_all at waits (omega (arith, all))) in
        let none : open_count done [] c ≡ 0 = refl in
        a.each c low ∙ ap (λ (n : ℕ). Some n) (omega (arith, taken, dropped, none)));
  }

  -- a class whose count is 0 waits for nothing that is not written
  pub nothing_open :
      (at c : ℕ) (counts : List ℕ) → AreOpen task waits done after at counts → c < length counts →
      slice_get counts c ≡ Some 0 → ((x : ℕ) → done x ≡ true → after x ≡ true) → (w : Wait) →
      Contains waits w → w.waiting ≡ c → after w.named ≡ true
  nothing_open at c counts a low is more w m same =
      let none : total at c ≡ 0 = same_Some (total at c) 0 (sym (a.each c low) ∙ is) in
      elim (Contains-append_cases (take at waits) (drop at waits) w
      (subst (λ (ws : List Wait). Contains ws w) (sym (take-append-drop at waits)) m)) [
        | inl x ↦ zero_open after (take at waits) c (omega (arith, none)) w x same
        | inr x ↦ more w.named (zero_open done (drop at waits) c (omega (arith, none)) w x same)
      ]

-- at the beginning
pub counts_begin :
    (task : Task) (waits : List Wait) (n : ℕ) (counts : List ℕ) → n ≡ length task.classes →
    AreCounts waits n counts → AreOpen task waits (λ x. false) (λ x. false) 0 counts
counts_begin task waits n counts is a = record {
  one_each = a.long ∙ is;
  each = λ c low. (
      let none : open_count (λ x. false) [] c ≡ 0 = refl in
      a.each c (omega (arith, low, a.long)) ∙ ap (λ (n : ℕ). Some n) (omega (arith, none)));
}
