-- How an exchange of neighbours looks by index.
use Rattle.std.proofs.Common.{◌≡◌, ℕ, zero, suc, refl, ap, sym, ◌∙◌, inl, inr, arith, Option, None, List, [], ◌∷◌, ◌++◌, map, length, subst, length-append}
use Rattle.std.proofs.lemmas.List.{length-map}
use Rattle.walrus_ty.specs.Definition.{Definition, Names, rename, definition_cmp}
use Rattle.walrus_sections.specs.Section.{Place, places_from, index_space, index_space_of_places}
use Rattle.walrus_ty.specs.Groups.{Single, Section}
use Rattle.walrus_sections.specs.Moves.{exchange, IsRenumberedSwap, SwapsNeighbours}
use Rattle.walrus_sections.proofs.{Moves.ByIndex.IsSwapped, Moves.Exchange.where_is, Moves.Swapped.nameless, Sections.Rows.at}
use Rattle.walrus_sections.proofs.Sections.Places.{rename_place, places-map, places-append, at-map, at-here, at-next}

at-other :
    (ps : List Place) (p q p' q' : Place) (rs : List Place) (k : ℕ) → ¬ (k ≡ length ps) →
    ¬ (k ≡ suc (length ps)) → at (ps ++ p ∷ q ∷ rs) k ≡ at (ps ++ p' ∷ q' ∷ rs) k
at-other [] p q p' q' rs zero f g = absurd (f refl)
at-other [] p q p' q' rs (suc zero) f g = absurd (g refl)
at-other [] p q p' q' rs (suc (suc k)) f g = refl
at-other (x ∷ ps) p q p' q' rs zero f g = refl
at-other (x ∷ ps) p q p' q' rs (suc k) f g =
    at-other ps p q p' q' rs k (λ e. f (ap suc e)) (λ e. g (ap suc e))

finish :
    (ps rs ps' rs' : List Place) (i j : ℕ) → ps ≡ ps' → rs ≡ rs' → i ≡ j →
    IsSwapped (index_space_of_places ps') (index_space_of_places rs') i →
    IsSwapped (index_space_of_places ps) (index_space_of_places rs) j
finish ps rs ps' rs' i j p r e h = rw (p, r, ← e) h

-- the places by index
module _ (u : ℕ → ℕ) (ps : List Place) (e f : Definition) (n : ℕ) (rs : List Place) where
  abbrev first_of : Definition → Place
  first_of x = record { definition = x; end = suc n; rec_position = None }

  abbrev second_of : Definition → Place
  second_of x = record { definition = x; end = suc (suc n); rec_position = None }

  abbrev plain : List Place
  plain = ps ++ first_of e ∷ second_of f ∷ rs

  abbrev turned : List Place
  turned = map (rename_place (exchange (length ps))) (ps ++ first_of f ∷ second_of e ∷ rs)

  turned_definition : (k : ℕ) → (at turned k).definition ≡ rename (exchange (length ps)) (at plain
      (exchange (length ps) k)).definition
  turned_definition k =
      let l = ps ++ first_of f ∷ second_of e ∷ rs in
      let a : (at turned k).definition ≡ rename (exchange (length ps)) (at l k).definition =
      ap (λ (p : Place). p.definition) (at-map (exchange (length ps)) l k) in
      let b : (at l k).definition ≡ (at plain (exchange (length ps) k)).definition =
      elim (where_is (length ps) k) [
        | inl x ↦ ap (λ y. (at l y).definition) x.0
            ∙ (ap (λ (p : Place). p.definition) (at-here ps (first_of f) ((second_of e) ∷ rs))
            ∙ (sym (ap (λ (p : Place). p.definition) (at-next ps (first_of e) ((second_of f) ∷ rs)))
            ∙ ap (λ y. (at plain y).definition) (sym x.1)))
        | inr z ↦ (elim z [
          | inl x ↦ ap (λ y. (at l y).definition) x.0
              ∙ (ap (λ (p : Place). p.definition) (at-next ps (first_of f) ((second_of e) ∷ rs))
              ∙ (sym (ap (λ (p : Place). p.definition) (at-here ps (first_of e) ((second_of f) ∷ rs)))
              ∙ ap (λ y. (at plain y).definition) (sym x.1)))
          | inr o ↦ ap (λ (p : Place). p.definition)
              (at-other ps (first_of f) (second_of e) (first_of e) (second_of f) rs k o.not_first
              o.not_second) ∙ ap (λ y. (at plain y).definition) (sym o.stays)
        ])
      ] in
      a ∙ ap (rename (exchange (length ps))) b

  turned_else : (A : Type 0) (g : Place → A) →
      ((x : Definition) (p : Place) → g (rename_place (exchange (length ps)) p) ≡ g p) →
      ((x y : Definition) → g (first_of x) ≡ g (first_of y)) →
      ((x y : Definition) → g (second_of x) ≡ g (second_of y)) → (k : ℕ) → g (at turned k) ≡ g (at plain k)
  turned_else A g h hf hs k =
      let l = ps ++ first_of f ∷ second_of e ∷ rs in
      let b : g (at l k) ≡ g (at plain k) = elim (where_is (length ps) k) [
        | inl x ↦ ap (λ y. g (at l y)) x.0 ∙ (ap g (at-here ps (first_of f) ((second_of e) ∷ rs))
            ∙ (hf f e ∙ (sym (ap g (at-here ps (first_of e) ((second_of f) ∷ rs)))
            ∙ ap (λ y. g (at plain y)) (sym x.0))))
        | inr z ↦ (elim z [
          | inl x ↦ ap (λ y. g (at l y)) x.0 ∙ (ap g (at-next ps (first_of f) ((second_of e) ∷ rs))
              ∙ (hs e f ∙ (sym (ap g (at-next ps (first_of e) ((second_of f) ∷ rs)))
              ∙ ap (λ y. g (at plain y)) (sym x.0))))
          | inr o ↦ ap g (at-other ps (first_of f) (second_of e) (first_of e) (second_of f) rs k o.not_first
              o.not_second)
        ])
      ] in
      ap g (at-map (exchange (length ps)) l k) ∙ (h e (at l k) ∙ b)

  turned_length : length turned ≡ length plain
  turned_length = length-map (ps ++ first_of f ∷ second_of e ∷ rs) (rename_place (exchange (length ps)))
      ∙ (length-append ps (first_of f ∷ second_of e ∷ rs)
      ∙ sym (length-append ps (first_of e ∷ second_of f ∷ rs)))

  exchanged_by_index : ((k : ℕ) → Names e k → k ≡ length ps) → ((k : ℕ) → Names f k → k ≡ suc (length ps)) →
      definition_cmp e f ≡ definition_cmp (rename (exchange (length ps)) e) (rename (exchange (length ps)) f)
      → IsSwapped (index_space_of_places plain) (index_space_of_places turned) (length ps)
  exchanged_by_index fo so cmp =
      let first = at-here ps (first_of e) ((second_of f) ∷ rs) in
      let second = at-next ps (first_of e) ((second_of f) ∷ rs) in
      let fe : (at plain (length ps)).definition ≡ e = ap (λ (p : Place). p.definition) first in
      let se : (at plain (suc (length ps))).definition ≡ f = ap (λ (p : Place). p.definition) second in
      record {
        count = turned_length;
        inside = (let z = length-append ps (first_of e ∷ second_of f ∷ rs) in omega arith);
        first_single = ap (λ (p : Place). p.rec_position) first;
        second_single = ap (λ (p : Place). p.rec_position) second;
        first_own = λ k h. fo k (rw fe at h);
        second_own = λ k h. so k (rw se at h);
        order = rw (fe, se) cmp;
        definition = λ k h. turned_definition k;
        rec_position = λ k h. turned_else (Option (ℕ × ℕ)) (λ p. p.rec_position) (λ x p. refl) (λ x y. refl)
            (λ x y. refl) k;
        end = λ k h. turned_else ℕ (λ p. p.end) (λ x p. refl) (λ x y. refl) (λ x y. refl) k;
      }

pub swapped_by_index :
    (s r : Section) (i : ℕ) → SwapsNeighbours s r i → IsSwapped (index_space s) (index_space r) i
swapped_by_index s r i x =
    let y = x.exchanged in
    let a = places-append 0 0 y.before (Single y.first ∷ Single y.second ∷ y.after) in
    let ps = places_from 0 0 y.before in
    let rest = places_from (suc (suc a.0)) a.1 y.after in
    let place : length ps ≡ i = y.place in
    let ps_s : places_from 0 0 s ≡ plain (λ k. k) ps y.first y.second a.0 rest = ap (places_from 0 0) y.s_is
    ∙ a.2 in
    let ps_r : places_from 0 0 r ≡ turned (λ k. k) ps y.first y.second a.0 rest =
    ap (places_from 0 0) y.r_is ∙ (places-map (exchange i) 0 0
    (y.before ++ Single y.second ∷ Single y.first ∷ y.after)
    ∙ (ap (map (rename_place (exchange i))) (a.3 (Single y.second ∷ Single y.first ∷ y.after))
    ∙ ap (λ j. map (rename_place (exchange j)) (ps ++ record {
      definition = y.second;
      end = suc a.0;
      rec_position = None;
    } ∷ record { definition = y.first; end = suc (suc a.0); rec_position = None } ∷
    rest)) (sym place))) in
    let z = exchanged_by_index (λ k. k) ps y.first y.second a.0 rest (λ k h. x.first_own k h ∙ sym place)
    (λ k h. x.second_own k h ∙ ap suc (sym place))
    (subst (λ (j : ℕ). definition_cmp y.first y.second ≡ definition_cmp (rename (exchange j) y.first)
    (rename (exchange j) y.second)) (sym place) x.order) in
    finish (places_from 0 0 s) (places_from 0 0 r) (plain (λ k. k) ps y.first y.second a.0 rest)
    (turned (λ k. k) ps y.first y.second a.0 rest) (length ps) i ps_s ps_r place z

pub swap_is_move : (s r : Section) (i : ℕ) → IsRenumberedSwap s r i → SwapsNeighbours s r i
swap_is_move s r i x = record {
  exchanged = x.exchanged;
  first_own = λ k h. absurd (x.first_nameless k h);
  second_own = λ k h. absurd (x.second_nameless k h);
  order = (let e = x.exchanged.first in let f = x.exchanged.second in
      ap (λ y. definition_cmp y f) (sym (nameless (exchange i) e x.first_nameless))
      ∙ ap (definition_cmp (rename (exchange i) e)) (sym (nameless (exchange i) f x.second_nameless)));
}
