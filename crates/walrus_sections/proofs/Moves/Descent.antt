-- A move down has fewer groups, or as many and fewer pairs out of order.
use Rattle.std.proofs.Common.{◌≡◌, ℕ, suc, ◌<◌, ◌≤◌, List, [], ◌∷◌, ◌++◌, length, ap, sym, ◌∙◌, inl, inr, ◌⊎◌, arith, subst, length-append}
use Rattle.std.specs.declared.cmp.Ordering.{Ordering, TheVariants.Less, TheVariants.Greater}
use Rattle.std.specs.Ordering.{ordering_reverse}
use Rattle.std.proofs.lemmas.{Bool.cases_lt, Bool.cases_eq, List.length-map}
use Rattle.walrus_ty.specs.{Definition.rename, Definition.definition_cmp, Groups.Section, Groups.Single, Groups.Rec}
use Rattle.walrus_sections.specs.Section.{IndexSpace, index_space, IsWellNamed}
use Rattle.walrus_sections.specs.Moves.{exchange, skip, rename_group, DropsEmptyRec, DropsRepeat, SwapsNeighbours, AreOutOfOrder, HasFewerOutOfOrder, IsLower}
use Rattle.walrus_sections.specs.NormalForm.{IsKept, AreFree, IsNormalForm, image}
use Rattle.walrus_sections.proofs.{Sections.Rows.laid_out, NormalForms.Agree.MergesSame, NormalForms.Agree.agree, Moves.ByIndex.IsSwapped, Moves.SwappedPlaces.swapped_by_index}
use Rattle.walrus_sections.proofs.Moves.Exchange.{exchange_first, exchange_second, exchange_one, exchange_order, exchange_within}
use Rattle.walrus_sections.proofs.Moves.Tidy.{IsFix, AreUnfixed, IsTidy, unfixed_if_plain, unfixed_goes, cmp_goes}
use Rattle.walrus_ty.proofs.Names.Definitions.{definitions_total, cmp_same, rename_id}

pub fewer_without_empty : (s r : Section) → DropsEmptyRec s r → length r < length s
fewer_without_empty s r x =
    let a = ap length x.s_is ∙ length-append x.before (Rec [] ∷ x.after) in
    let b = ap length x.r_is ∙ length-append x.before x.after in omega arith

pub fewer_without_repeat : (s r : Section) (i j : ℕ) → DropsRepeat s r i j → length r < length s
fewer_without_repeat s r i j x =
    let a = ap length x.s_is ∙ length-append x.before (Single x.dropped ∷ x.after) in
    let b = ap length x.r_is ∙ (length-map (x.before ++ x.after) (rename_group (skip i j))
    ∙ length-append x.before x.after) in omega arith

as_many : (s r : Section) (i : ℕ) → SwapsNeighbours s r i → length r ≡ length s
as_many s r i x =
    let y = x.exchanged in
    let a = ap length y.s_is ∙ length-append y.before (Single y.first ∷ Single y.second ∷ y.after) in
    let b = ap length y.r_is ∙ (length-map (y.before ++ Single y.second ∷ Single y.first ∷ y.after)
    (rename_group (exchange i)) ∙ length-append y.before (Single y.second ∷ Single y.first ∷ y.after)) in
    omega arith

less_if_greater : (o p : Ordering) → p ≡ ordering_reverse o → o ≡ Greater → p ≡ Less
less_if_greater o p e g = e ∙ ap ordering_reverse g

tidy_merges : (t : IndexSpace) → IsTidy t → MergesSame t (λ k. k)
tidy_merges t tidy i j hi hj oi oj e =
    let f : t.definition i ≡ t.definition j = sym (rename_id (t.definition i))
    ∙ (e ∙ rename_id (t.definition j)) in
    elim (cases_lt i j) [
      | inl x ↦ absurd (tidy i j x hj oi oj f)
      | inr x ↦ (elim (cases_lt j i) [ inl y ↦ absurd (tidy j i y hi oj oi (sym f)) | inr y ↦ omega arith ])
    ]

-- where no `Single` repeats an earlier one, all indices are kept
kept_if_tidy :
    (t n : Section) (m : List ℕ) → IsWellNamed t → IsTidy (index_space t) → IsNormalForm t n m → (i : ℕ) →
    i < (index_space t).count → IsKept (image m) i
kept_if_tidy t n m w tidy c i h j g e =
    let f : j ≡ i = agree (index_space t) (index_space n) (image m) (λ k. k) (laid_out t) w.below_ends c.laws
    (tidy_merges (index_space t) tidy) j i (omega arith) h e in
    omega arith

-- an index that is kept is an anchor where it is fixed
free_if_unfixed : (t : IndexSpace) (m : ℕ → ℕ) (i j : ℕ) → AreUnfixed t i j → AreFree t m i j
free_if_unfixed t m i j f a u v (inl x) = f a u v (inl x)
free_if_unfixed t m i j f a u v (inr x) = f a u v (inr x.1)

unfixed_if_free :
    (t : IndexSpace) (m : ℕ → ℕ) (i j : ℕ) → ((a : ℕ) → a < t.count → IsKept m a) → j < t.count →
    AreFree t m i j → AreUnfixed t i j
unfixed_if_free t m i j k h f a u v (inl x) = f a u v (inl x)
unfixed_if_free t m i j k h f a u v (inr x) = f a u v (inr (k a (omega arith), x))

module _ (s r : IndexSpace) (m w : ℕ → ℕ) (o : ℕ) (sw : IsSwapped s r o)
    (kept : (a : ℕ) → a < s.count → IsKept m a) (kept_after : (a : ℕ) → a < r.count → IsKept w a)
    (gr : definition_cmp (s.definition o) (s.definition (suc o)) ≡ Greater) where
  first_or_second : (a : ℕ) → o ≤ a → a ≤ suc o → (a ≡ o) ⊎ (a ≡ suc o)
  first_or_second a u v = elim (cases_eq a o) [ inl e ↦ inl e | inr n ↦ inr (omega arith) ]

  two_unfixed : AreUnfixed s o (suc o)
  two_unfixed a u v = elim (first_or_second a u v) [
    | inl e ↦ subst (λ (x : ℕ). ¬ (IsFix s x)) (sym e)
        (unfixed_if_plain s o (record { single = sw.first_single; own = sw.first_own }))
    | inr e ↦ subst (λ (x : ℕ). ¬ (IsFix s x)) (sym e)
        (unfixed_if_plain s (suc o) (record { single = sw.second_single; own = sw.second_own }))
  ]

  the_two : AreOutOfOrder s m o (suc o)
  the_two = record {
    earlier = omega arith;
    inside = sw.inside;
    first_kept = kept o (let z = sw.inside in omega arith);
    second_kept = kept (suc o) sw.inside;
    free = free_if_unfixed s m o (suc o) two_unfixed;
    less = less_if_greater (definition_cmp (s.definition o) (s.definition (suc o)))
        (definition_cmp (s.definition (suc o)) (s.definition o))
        (definitions_total.antisymm (s.definition (suc o)) (s.definition o)) gr;
  }

  turned_greater : (i j : ℕ) → i ≡ o → j ≡ suc o → definition_cmp (r.definition j) (r.definition i) ≡ Greater
  turned_greater i j e f =
      let z = sw.inside in
      let ri : r.definition i ≡ rename (exchange o) (s.definition (suc o)) = ap r.definition e
      ∙ (sw.definition o (omega arith) ∙ ap (λ y. rename (exchange o) (s.definition y))
      (exchange_first o)) in
      let rj : r.definition j ≡ rename (exchange o) (s.definition o) = ap r.definition f
      ∙ (sw.definition (suc o) sw.inside ∙ ap (λ y. rename (exchange o) (s.definition y))
      (exchange_second o)) in
      cmp_same rj ri ∙ (sym sw.order ∙ gr)

  sent_back : (i j : ℕ) → AreOutOfOrder r w i j → AreOutOfOrder s m (exchange o i) (exchange o j)
  sent_back i j x =
      let cnt = sw.count in let ins = x.inside in
      let hj : j < s.count = omega arith in
      let hj' = exchange_within o j s.count sw.inside hj in
      let un = unfixed_if_free r w i j kept_after x.inside x.free in
      elim (exchange_order o i j x.earlier) [
        | inl up ↦ (
            let same = cmp_goes s r o sw i j x.earlier hj up un in
            let rev = definitions_total.antisymm (r.definition i) (r.definition j) in
            let rev' = definitions_total.antisymm (s.definition (exchange o j)) (s.definition (exchange o i))
            in
            let g : definition_cmp (r.definition i) (r.definition j) ≡ Greater = rev
            ∙ ap ordering_reverse x.less in
            record {
              earlier = up;
              inside = hj';
              first_kept = kept (exchange o i) (omega arith);
              second_kept = kept (exchange o j) hj';
              free = free_if_unfixed s m (exchange o i) (exchange o j)
                  (unfixed_goes s r o sw i j x.earlier hj up un);
              less = rev' ∙ ap ordering_reverse (sym same ∙ g);
            })
        | inr at ↦ absurd (let g = turned_greater i j at.0 at.1 in let l = x.less in cc)
      ]

  pub fewer_once_turned : HasFewerOutOfOrder s r m w
  fewer_once_turned = record {
    embed = exchange o;
    injective = λ i j e. exchange_one o i j e;
    preserves = sent_back;
    first = o;
    second = suc o;
    extra = the_two;
    unreached = λ i j x e f. (
        let i1 = exchange_one o i (suc o) (e ∙ sym (exchange_second o)) in
        let j1 = exchange_one o j o (f ∙ sym (exchange_first o)) in
        let l = x.earlier in omega arith);
  }

pub lower_once_turned :
    (s r : Section) (o : ℕ) → SwapsNeighbours s r o → IsWellNamed s → IsWellNamed r →
    IsTidy (index_space s) → IsTidy (index_space r) →
    definition_cmp ((index_space s).definition o) ((index_space s).definition (suc o)) ≡ Greater →
    IsLower s r
lower_once_turned s r o x ws wr ts tr gr = inr (
  as_many s r o x,
  λ n p m w c d. fewer_once_turned (index_space s) (index_space r) (image m) (image w) o
      (swapped_by_index s r o x) (kept_if_tidy s n m ws ts c) (kept_if_tidy r p w wr tr d) gr,
)
