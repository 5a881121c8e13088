-- How a section looks by index without an empty `Rec`, and without a repeat.
use Rattle.std.proofs.Common.{◌≡◌, ℕ, zero, suc, ◌+◌, ◌<◌, ◌≤◌, refl, ap, sym, ◌∙◌, inl, inr, arith, None, List, [], ◌∷◌, ◌++◌, map, length, length-append}
use Rattle.std.proofs.lemmas.{List.length-map, Bool.cases_lt}
use Rattle.walrus_ty.specs.{Definition.rename, Groups.Single, Groups.Rec, Groups.Section}
use Rattle.walrus_sections.specs.Section.{Place, places_from, index_space, index_space_of_places}
use Rattle.walrus_sections.specs.Moves.{skip, DropsEmptyRec, DropsRepeat}
use Rattle.walrus_sections.proofs.{Moves.ByIndex.IsWithout, Moves.Skip.unskip_below, Moves.Skip.unskip_above, Sections.Rows.at}
use Rattle.walrus_sections.proofs.Sections.Places.{rename_place, places-map, places-append, at-map, shift, places-shift, at-here}

-- an empty `Rec` changes nothing
pub drop_empty_rec-places :
    (s r : Section) → DropsEmptyRec s r → places_from 0 0 s ≡ places_from 0 0 r
drop_empty_rec-places s r x =
    let a = places-append 0 0 x.before (Rec [] ∷ x.after) in
    let e : zero + a.0 ≡ a.0 = omega arith in
    ap (places_from 0 0) x.s_is ∙ (a.2 ∙ (ap (λ b. places_from 0 0 x.before ++ places_from b a.1 x.after) e
    ∙ (sym (a.3 x.after) ∙ ap (places_from 0 0) (sym x.r_is))))

at-before :
    (ps : List Place) (p : Place) (qs rs : List Place) (k : ℕ) → k < length ps →
    at (ps ++ qs) k ≡ at (ps ++ p ∷ rs) k
at-before [] p qs rs k h = absurd (omega arith)
at-before (x ∷ ps) p qs rs zero h = refl
at-before (x ∷ ps) p qs rs (suc k) h = at-before ps p qs rs k (omega arith)

at-shift : (qs : List Place) (k : ℕ) → k < length qs → at (map shift qs) k ≡ shift (at qs k)
at-shift [] k h = absurd (omega arith)
at-shift (q ∷ qs) zero h = refl
at-shift (q ∷ qs) (suc k) h = at-shift qs k (omega arith)

at-after :
    (ps : List Place) (p : Place) (qs : List Place) (k : ℕ) → length ps ≤ k →
    k < length (ps ++ qs) → at (ps ++ p ∷ map shift qs) (suc k) ≡ shift (at (ps ++ qs) k)
at-after [] p qs k h g = at-shift qs k g
at-after (x ∷ ps) p qs zero h g = absurd (omega arith)
at-after (x ∷ ps) p qs (suc k) h g = at-after ps p qs k (omega arith) (omega arith)

module _ (ps : List Place) (p : Place) (qs : List Place) (j : ℕ) where
  abbrev full : List Place
  full = ps ++ p ∷ map shift qs

  abbrev less : List Place
  less = map (rename_place (skip (length ps) j)) (ps ++ qs)

  without : j < length ps → p.rec_position ≡ None → (at full j).rec_position ≡ None →
      (at full j).definition ≡ p.definition → IsWithout (index_space_of_places full)
      (index_space_of_places less) (length ps) j
  without ji o oj eq =
      let u = skip (length ps) j in
      let len = length-append ps (p ∷ map shift qs) in
      let len' = length-append ps qs in
      let lm = length-map qs shift in
      let ll = length-map (ps ++ qs) (rename_place u) in
      let here = at-here ps p (map shift qs) in
      record {
        count = omega arith;
        inside = omega arith;
        earlier = ji;
        single = ap (λ (x : Place). x.rec_position) here ∙ o;
        earlier_single = oj;
        equal = ap (λ (x : Place). x.definition) here ∙ sym eq;
        definition = λ k h. ap (λ (x : Place). x.definition) (at-map u (ps ++ qs) k)
            ∙ ap (rename u) (elim (cases_lt k (length ps)) [
              | inl g ↦ ap (λ (x : Place). x.definition) (at-before ps p qs (map shift qs) k g)
                  ∙ ap (λ y. (at full y).definition) (sym (unskip_below (length ps) k g))
              | inr g ↦ sym (ap (λ (x : Place). x.definition) (at-after ps p qs k g (omega arith)))
                  ∙ ap (λ y. (at full y).definition) (sym (unskip_above (length ps) k g))
            ]);
        rec_position = λ k h. ap (λ (x : Place). x.rec_position) (at-map u (ps ++ qs) k)
            ∙ (elim (cases_lt k (length ps)) [
              | inl g ↦ ap (λ (x : Place). x.rec_position) (at-before ps p qs (map shift qs) k g)
                  ∙ ap (λ y. (at full y).rec_position) (sym (unskip_below (length ps) k g))
              | inr g ↦ sym (ap (λ (x : Place). x.rec_position) (at-after ps p qs k g (omega arith)))
                  ∙ ap (λ y. (at full y).rec_position) (sym (unskip_above (length ps) k g))
            ]);
        end_below = λ k g. ap (λ (x : Place). x.end) (at-map u (ps ++ qs) k)
            ∙ ap (λ (x : Place). x.end) (at-before ps p qs (map shift qs) k g);
        end_above = λ k g h. ap (λ (x : Place). suc x.end) (at-map u (ps ++ qs) k)
            ∙ sym (ap (λ (x : Place). x.end) (at-after ps p qs k g (omega arith)));
      }

finish :
    (ps rs ps' rs' : List Place) (i i' j : ℕ) → ps ≡ ps' → rs ≡ rs' → i ≡ i' →
    IsWithout (index_space_of_places ps') (index_space_of_places rs') i j →
    IsWithout (index_space_of_places ps) (index_space_of_places rs) i' j
finish ps rs ps' rs' i i' j p r e h = rw (p, r, ← e) h

pub without_by_index :
    (s r : Section) (i j : ℕ) → DropsRepeat s r i j → IsWithout (index_space s) (index_space r) i j
without_by_index s r i j x =
    let a = places-append 0 0 x.before (Single x.dropped ∷ x.after) in
    let ps = places_from 0 0 x.before in
    let qs = places_from a.0 a.1 x.after in
    let p : Place = record { definition = x.dropped; end = suc a.0; rec_position = None } in
    let place : length ps ≡ i = x.place in
    let ji = x.earlier in
    let es : places_from 0 0 s ≡ ps ++ p ∷ map shift qs = ap (places_from 0 0) x.s_is
    ∙ (a.2 ∙ ap (λ y. ps ++ p ∷ y) (places-shift a.0 a.1 x.after)) in
    let er : places_from 0 0 r ≡ map (rename_place (skip (length ps) j)) (ps ++ qs) =
    ap (places_from 0 0) x.r_is ∙ (places-map (skip i j) 0 0 (x.before ++ x.after)
    ∙ (ap (map (rename_place (skip i j))) (a.3 x.after)
    ∙ ap (λ y. map (rename_place (skip y j)) (ps ++ qs)) (sym place))) in
    let w = without ps p qs j (omega arith) refl (ap (λ y. (at y j).rec_position) (sym es) ∙ x.earlier_single)
    (ap (λ y. (at y j).definition) (sym es) ∙ x.equal) in
    finish (places_from 0 0 s) (places_from 0 0 r) (ps ++ p ∷ map shift qs)
    (map (rename_place (skip (length ps) j)) (ps ++ qs)) (length ps) i j es er place w
