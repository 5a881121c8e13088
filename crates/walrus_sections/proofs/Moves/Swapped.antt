-- A swap of neighbouring `Single`s keeps the normal form.
use Rattle.std.proofs.Common.{◌≡◌, ℕ, suc, ◌<◌, ◌≤◌, refl, ap, sym, ◌∙◌, inl, inr, ◌⊎◌, arith, Some, None, ◌↔◌, subst}
use Rattle.std.specs.declared.cmp.Ordering.{Ordering, TheVariants.Less, TheVariants.Equal, TheVariants.Greater}
use Rattle.std.specs.Ordering.{ordering_reverse}
use Rattle.std.proofs.lemmas.Bool.{cases_lt, cases_eq}
use Rattle.walrus_ty.specs.Definition.{Definition, Names, rename, definition_cmp}
use Rattle.walrus_sections.specs.{Section.IndexSpace, Section.NamesBelowEnds, Section.IsSingle, NormalForm.IsKept, NormalForm.IsAnchor, NormalForm.AreFree, NormalForm.IsNormal, Moves.exchange}
use Rattle.walrus_sections.proofs.{Moves.ByIndex.IsSwapped, Sections.Lying.IsLaidOut, Sections.Lying.ends_before_single, Sections.Lying.names_at, NormalForms.Again.kept_differ, NormalForms.Kept.own_name}
use Rattle.walrus_sections.proofs.Moves.Exchange.{not_after, not_before, IsOther, where_is, exchange_first, exchange_second, exchange_twice, exchange_within, exchange_one, exchange_order}
use Rattle.walrus_ty.proofs.Names.Definitions.{Names-rename, named_before, rename_id, rename_twice, rename_agree, cmp_agree, cmp_same, names_same, definitions_total, definition_exact}
use Rattle.walrus_ty.proofs.Spelling.Tokens.{nat_less}

pub nameless : (u : ℕ → ℕ) (e : Definition) → ((k : ℕ) → ¬ (Names e k)) → rename u e ≡ e
nameless u e h = rename_agree u (λ k. k) e (λ k q. absurd (h k q)) ∙ rename_id e

turned : (o p : Ordering) → p ≡ ordering_reverse o → p ≡ Less → o ≡ Greater
turned Less p e h = cc
turned Equal p e h = cc
turned Greater p e h = refl

pub turned_back :
    (o p : Ordering) → p ≡ ordering_reverse o → ¬ (o ≡ Less) → ¬ (o ≡ Equal) → p ≡ Less
turned_back Less p e h g = absurd (h refl)
turned_back Equal p e h g = absurd (g refl)
turned_back Greater p e h g = e

anchor_at : (s : IndexSpace) (m : ℕ → ℕ) (j k : ℕ) → j ≡ k → IsAnchor s m j → IsAnchor s m k
anchor_at s m j k e h = rw e at h

-- an exchange undone
pub exchanged_back : (i : ℕ) (d : Definition) → rename (exchange i) (rename (exchange i) d) ≡ d
exchanged_back i d = rename_twice (exchange i) (exchange i) d
    ∙ (rename_agree (λ k. exchange i (exchange i k)) (λ k. k) d (λ k _. exchange_twice i k) ∙ rename_id d)

module _ (s r : IndexSpace) (o : ℕ) (sw : IsSwapped s r o) where
  -- a `Single` comes from a `Single`
  pub single_too : (k : ℕ) → k < s.count → IsSingle r k → IsSingle s (exchange o k)
  single_too k h q = elim (where_is o k) [
    | inl x ↦ ap s.rec_position x.1 ∙ sw.second_single
    | inr y ↦ (elim y [
      | inl x ↦ ap s.rec_position x.1 ∙ sw.first_single
      | inr p ↦ ap s.rec_position p.stays ∙ (sym (sw.rec_position k h) ∙ q)
    ])
  ]

module _ (s r n : IndexSpace) (m : ℕ → ℕ) (i : ℕ) (l : IsLaidOut s) (wn : NamesBelowEnds s)
    (sw : IsSwapped s r i) (c : IsNormal s n m) where
  abbrev w : ℕ → ℕ
  w k = m (exchange i k)

  within : (k : ℕ) → k < s.count → exchange i k < s.count
  within k h = exchange_within i k s.count sw.inside h

  -- each of the two names only itself
  own : (k : ℕ) → (k ≡ i) ⊎ (k ≡ suc i) → (x : ℕ) → Names (s.definition k) x → x ≡ k
  own k (inl e) x h = sw.first_own x (rw e at h) ∙ sym e
  own k (inr e) x h = sw.second_own x (rw e at h) ∙ sym e

  rec_stays : (k : ℕ) (x : ℕ × ℕ) → k < s.count → s.rec_position k ≡ Some x → IsOther i k
  rec_stays k x h e = elim (where_is i k) [
    | inl y ↦ (let a = ap s.rec_position y.0 in let b = sw.first_single in absurd cc)
    | inr z ↦ (elim z [
      | inl y ↦ (let a = ap s.rec_position y.0 in let b = sw.second_single in absurd cc)
      | inr o ↦ o
    ])
  ]

  -- if the two have one image they name nothing and are the same
  second_not_kept : m i ≡ m (suc i) → ¬ (IsKept m (suc i))
  second_not_kept e k = k i (omega arith) e

  second_nameless : m i ≡ m (suc i) → (x : ℕ) → ¬ (Names (s.definition (suc i)) x)
  second_nameless e x h = let f = sw.second_own x h in
      second_not_kept e (c.selfs_kept (suc i) sw.inside sw.second_single (rw f at h))

  one_image : m i ≡ m (suc i) → rename m (s.definition i) ≡ s.definition (suc i)
  one_image e = let z = sw.inside in
      sym (c.same i (omega arith)) ∙ (ap n.definition e
      ∙ (c.same (suc i) sw.inside ∙ nameless m (s.definition (suc i)) (second_nameless e)))

  first_nameless : m i ≡ m (suc i) → (x : ℕ) → ¬ (Names (s.definition i) x)
  first_nameless e x h =
      let q = Names-rename m (s.definition i) x h in
      second_nameless e (m x) (names_same (m x) (one_image e) q)

  two_equal : m i ≡ m (suc i) → s.definition i ≡ s.definition (suc i)
  two_equal e = sym (nameless m (s.definition i) (first_nameless e)) ∙ one_image e

  w_is_m : m i ≡ m (suc i) → (k : ℕ) → w k ≡ m k
  w_is_m e k = elim (where_is i k) [
    | inl x ↦ ap m x.1 ∙ (sym e ∙ ap m (sym x.0))
    | inr y ↦ (elim y [ inl x ↦ ap m x.1 ∙ (e ∙ ap m (sym x.0)) | inr o ↦ ap m o.stays ])
  ]

  kept_if_one : m i ≡ m (suc i) → (k : ℕ) → IsKept w k → IsKept m k
  kept_if_one e k h j g f = h j g (w_is_m e j ∙ (f ∙ sym (w_is_m e k)))

  kept_if_two : ¬ (m i ≡ m (suc i)) → (k : ℕ) → IsKept w k → IsKept m (exchange i k)
  kept_if_two d k h j g f =
      let tj = exchange_twice i j in
      let tk = exchange_twice i k in
      let q : m (exchange i (exchange i j)) ≡ m (exchange i k) = ap m tj ∙ f in
      elim (exchange_order i j (exchange i k) g) [
        | inl x ↦ h (exchange i j) (omega arith) q
        | inr x ↦ d (ap m (sym x.0) ∙ (f ∙ ap m x.1))
      ]

  kept_other : (k : ℕ) → IsOther i k → IsKept w k → IsKept m k
  kept_other k o h = elim (cases_eq (m i) (m (suc i))) [
    | inl e ↦ kept_if_one e k h
    | inr d ↦ (let z = kept_if_two d k h in rw (o.stays) at z)
  ]

  kept_other_back : (k : ℕ) → IsOther i k → IsKept m k → IsKept w k
  kept_other_back k o h j g f =
      let a = o.not_first in let b = o.not_second in let e = o.stays in
      elim (exchange_order i j k g) [
        | inl x ↦ h (exchange i j) (omega arith) (f ∙ ap m o.stays)
        | inr x ↦ b x.1
      ]

  definition_other : (k : ℕ) → k < s.count → IsOther i k →
      r.definition k ≡ rename (exchange i) (s.definition k)
  definition_other k h o = sw.definition k h ∙ ap (λ x. rename (exchange i) (s.definition x)) o.stays

  anchor_other : (k : ℕ) → k < s.count → IsAnchor r w k → IsOther i k × IsAnchor s m k
  anchor_other k h (inl x) = let e = sym (sw.rec_position k h) ∙ x.1 in (rec_stays k x.0 h e, inl (x.0, e))
  anchor_other k h (inr x) =
      let b = named_before (exchange i) (s.definition (exchange i k)) x.1.0 (rw (sw.definition k h) at x.1.1)
      in
      let ne = x.1.2 in
      let two : (exchange i k ≡ i) ⊎ (exchange i k ≡ suc i) → ⊥ = λ q.
      (let f = own (exchange i k) q b.0 b.1 in ne (sym b.2 ∙ (ap (exchange i) f ∙ exchange_twice i k))) in
      elim (where_is i k) [
        | inl y ↦ absurd (two (inr y.1))
        | inr z ↦ (elim z [
          | inl y ↦ absurd (two (inl y.1))
          | inr o ↦ (
            o,
            inr (
              kept_other k o x.0,
              (
                b.0,
                names_at s (exchange i k) k b.0 o.stays b.1,
                λ f. ne (sym b.2 ∙ (ap (exchange i) f ∙ o.stays)),
              ),
            ),
          )
        ])
      ]

  anchor_back : (k : ℕ) → k < s.count → IsAnchor s m k → IsOther i k × IsAnchor r w k
  anchor_back k h (inl x) = (rec_stays k x.0 h x.1, inl (x.0, sw.rec_position k h ∙ x.1))
  anchor_back k h (inr x) = elim (where_is i k) [
    | inl y ↦ absurd (x.1.2 (own k (inl y.0) x.1.0 x.1.1))
    | inr z ↦ (elim z [
      | inl y ↦ absurd (x.1.2 (own k (inr y.0) x.1.0 x.1.1))
      | inr o ↦ (
        o,
        inr (
          kept_other_back k o x.0,
          (
            exchange i x.1.0,
            (let q : Names (r.definition k) (exchange i x.1.0) =
                rw (definition_other k h o) (Names-rename (exchange i) (s.definition k) x.1.0 x.1.1) in q),
            λ f. x.1.2 (exchange_one i x.1.0 k (f ∙ sym o.stays)),
          ),
        ),
      )
    ])
  ]

  -- between free indices no anchor of s lies, if none of r lies between where they went
  free_other : (k j p q : ℕ) → p ≤ q → q < s.count →
      ((a : ℕ) → IsOther i a → p ≤ a → a ≤ q → (k ≤ a) × (a ≤ j)) → AreFree r w k j → AreFree s m p q
  free_other k j p q pq hq f fr a u v an =
      let x = anchor_back a (omega arith) an in
      let y = f a x.0 u v in fr a y.0 y.1 x.1

  free_definition_if_one : m i ≡ m (suc i) → (k : ℕ) → k < s.count → IsKept m k → ¬ (IsAnchor s m k) →
      r.definition k ≡ s.definition k
  free_definition_if_one e k h kk na = elim (where_is i k) [
    | inl x ↦ sw.definition k h ∙ (ap (λ y. rename (exchange i) (s.definition y)) x.1
        ∙ (nameless (exchange i) (s.definition (suc i)) (second_nameless e)
        ∙ (sym (two_equal e) ∙ ap s.definition (sym x.0))))
    | inr z ↦ (elim z [
      | inl x ↦ sw.definition k h ∙ (ap (λ y. rename (exchange i) (s.definition y)) x.1
          ∙ (nameless (exchange i) (s.definition i) (first_nameless e)
          ∙ (two_equal e ∙ ap s.definition (sym x.0))))
      | inr o ↦ definition_other k h o ∙ (rename_agree (exchange i) (λ y. y) (s.definition k) (λ x nx.
          (let f = own_name s m k x kk na nx in ap (exchange i) f ∙ (o.stays ∙ sym f)))
          ∙ rename_id (s.definition k))
    ])
  ]

  cmp_if_two : (k j : ℕ) → k < s.count → j < s.count → k < j → exchange i k < exchange i j →
      IsKept m (exchange i k) → IsKept m (exchange i j) → ¬ (IsAnchor s m (exchange i k)) →
      ¬ (IsAnchor s m (exchange i j)) → definition_cmp (r.definition k) (r.definition j) ≡ definition_cmp
      (s.definition (exchange i k)) (s.definition (exchange i j))
  cmp_if_two k j hk hj lt lt' kk kj ak aj =
      let e = s.definition (exchange i k) in
      let f = s.definition (exchange i j) in
      let z = cmp_agree (exchange i) (λ x. x) e f (λ x y p q.
      (let ex = own_name s m (exchange i k) x kk ak p in let ey = own_name s m (exchange i j) y kj aj q in
      let ux : exchange i x ≡ k = ap (exchange i) ex ∙ exchange_twice i k in
      let uy : exchange i y ≡ j = ap (exchange i) ey ∙ exchange_twice i j in
      nat_less (exchange i x) (exchange i y) (omega arith) ∙ sym (nat_less x y (omega arith)))) in
      cmp_same (sw.definition k hk) (sw.definition j hj) ∙ (z ∙ cmp_same (rename_id e) (rename_id f))

  free_swapped : (k j : ℕ) → k < j → j < s.count → IsKept w k → IsKept w j → AreFree r w k j →
      (w k < w j ↔ definition_cmp (r.definition k) (r.definition j) ≡ Less)
  free_swapped k j lt hj kk kj fr = elim (cases_eq (m i) (m (suc i))) [
    | inl e ↦ (
        let fm = free_other k j k j (omega arith) hj (λ a o u v. (u, v)) fr in
        let kk' = kept_if_one e k kk in
        let kj' = kept_if_one e j kj in
        let ek = free_definition_if_one e k (omega arith) kk' (fm k (omega arith) (omega arith)) in
        let ej = free_definition_if_one e j hj kj' (fm j (omega arith) (omega arith)) in
        let f = c.free k j lt hj kk' kj' fm in
        let wk = w_is_m e k in let wj = w_is_m e j in (
          (λ x. rw (ek, ej) (f.0 (omega arith))),
          (λ x.
              (let y : definition_cmp (s.definition k) (s.definition j) ≡ Less = rw (ek, ej) at x in let z =
              f.1 y in omega arith)),
        ))
    | inr d ↦ (
        let kk' = kept_if_two d k kk in
        let kj' = kept_if_two d j kj in
        let bk = within k (omega arith) in
        let bj = within j hj in
        elim (exchange_order i k j lt) [
          | inl up ↦ (
              let fm = free_other k j (exchange i k) (exchange i j) (omega arith) bj (λ a o u v. (
                not_after i k a o.not_first o.not_second u,
                not_before i j a o.not_first o.not_second v,
              )) fr in
              let f = c.free (exchange i k) (exchange i j) up bj kk' kj' fm in
              let g = cmp_if_two k j (omega arith) hj lt up kk' kj'
              (fm (exchange i k) (omega arith) (omega arith))
              (fm (exchange i j) (omega arith) (omega arith)) in
              ((λ x. g ∙ f.0 x), (λ x. f.1 (sym g ∙ x))))
          | inr at ↦ (
              let z = sw.inside in
              let ek = at.0 in let ej = at.1 in
              let tk : exchange i k ≡ suc i = ap (exchange i) ek ∙ exchange_first i in
              let tj : exchange i j ≡ i = ap (exchange i) ej ∙ exchange_second i in
              let k1 : IsKept m (suc i) = rw tk at kk' in
              let k0 : IsKept m i = rw tj at kj' in
              let fm : AreFree s m i (suc i) = free_other k j i (suc i) (omega arith) sw.inside (λ a o u v.
              (omega arith, omega arith)) fr in
              let f = c.free i (suc i) (omega arith) sw.inside k0 k1 fm in
              let rk : r.definition k ≡ rename (exchange i) (s.definition (suc i)) =
              sw.definition k (omega arith) ∙ ap (λ y. rename (exchange i) (s.definition y)) tk in
              let rj : r.definition j ≡ rename (exchange i) (s.definition i) = sw.definition j hj
              ∙ ap (λ y. rename (exchange i) (s.definition y)) tj in
              let wk : w k ≡ m (suc i) = ap m tk in
              let wj : w j ≡ m i = ap m tj in
              let o = definition_cmp (s.definition i) (s.definition (suc i)) in
              let p = definition_cmp (r.definition k) (r.definition j) in
              let rev : p ≡ ordering_reverse o = rw (rk, rj)
              (definitions_total.antisymm (rename (exchange i) (s.definition (suc i)))
              (rename (exchange i) (s.definition i)) ∙ ap ordering_reverse (sym sw.order)) in
              let ne : ¬ (o ≡ Equal) = λ q. kept_differ s n m c i (suc i) (omega arith) sw.inside k0 k1
              sw.first_single sw.second_single (definition_exact (s.definition i) (s.definition (suc i))
              q) in (
                (λ x. turned_back o p rev (λ q. (let y = f.1 q in omega arith)) ne),
                (λ x. (let g = turned o p rev x in elim (cases_lt (m i) (m (suc i))) [
                  | inl y ↦ absurd (let h = f.0 y in let h' : o ≡ Less = h in cc)
                  | inr y ↦ omega arith
                ])),
              ))
        ])
  ]

  anchors_swapped : (k j : ℕ) → k < j → j < s.count → IsKept w k → IsKept w j → IsAnchor r w k
      ⊎ IsAnchor r w j → w k < w j
  anchors_swapped k j lt hj kk kj an = elim (cases_eq (m i) (m (suc i))) [
    | inl e ↦ (
        let a : IsAnchor s m k ⊎ IsAnchor s m j =
        elim an [ inl x ↦ inl (anchor_other k (omega arith) x).1 | inr x ↦ inr (anchor_other j hj x).1 ] in
        let z = c.anchors k j lt hj (kept_if_one e k kk) (kept_if_one e j kj) a in
        let wk = w_is_m e k in let wj = w_is_m e j in omega arith)
    | inr d ↦ (
        let bj = within j hj in
        let kk' = kept_if_two d k kk in
        let kj' = kept_if_two d j kj in
        elim (exchange_order i k j lt) [
          | inl up ↦ (elim an [
            | inl x ↦ (let y = anchor_other k (omega arith) x in let st = y.0.stays in
                c.anchors (exchange i k) (exchange i j) up bj kk' kj'
                (inl (anchor_at s m k (exchange i k) (sym st) y.1)))
            | inr x ↦ (let y = anchor_other j hj x in let st = y.0.stays in
                c.anchors (exchange i k) (exchange i j) up bj kk' kj'
                (inr (anchor_at s m j (exchange i j) (sym st) y.1)))
          ])
          | inr at ↦ absurd (elim an [
            | inl x ↦ (anchor_other k (omega arith) x).0.not_first at.0
            | inr x ↦ (anchor_other j hj x).0.not_second at.1
          ])
        ])
  ]

  selfs_swapped : (k : ℕ) → k < s.count → IsSingle r k → Names (r.definition k) k → IsKept w k
  selfs_swapped k h o nk j g e =
      let b = named_before (exchange i) (s.definition (exchange i k)) k (rw (sw.definition k h) at nk) in
      let f : b.0 ≡ exchange i k = sym (exchange_twice i b.0) ∙ ap (exchange i) b.2 in
      let self : Names (s.definition (exchange i k)) (exchange i k) =
      subst (λ (x : ℕ). Names (s.definition (exchange i k)) x) f b.1 in
      let kept = c.selfs_kept (exchange i k) (within k h) (single_too s r i sw k h o) self in
      elim (exchange_order i j k g) [
        | inl up ↦ kept (exchange i j) up e
        | inr at ↦ (
            let tj : exchange i j ≡ suc i = ap (exchange i) at.0 ∙ exchange_first i in
            let tk : exchange i k ≡ i = ap (exchange i) at.1 ∙ exchange_second i in
            let one : m i ≡ m (suc i) = ap m (sym tk) ∙ (sym e ∙ ap m tj) in
            first_nameless one (exchange i k) (names_at s (exchange i k) i (exchange i k) tk self))
      ]

  pub normal_swapped : IsNormal r n w
  normal_swapped = record {
    below = λ k h. (let e = sw.count in c.below (exchange i k) (within k (omega arith)));
    onto = λ p h. (let o = c.onto p h in (
      exchange i o.0,
      (let e = sw.count in let z = within o.0 o.1 in omega arith),
      ap m (exchange_twice i o.0) ∙ o.2,
    ));
    same = λ k h. (let e = sw.count in let g : k < s.count = omega arith in
        c.same (exchange i k) (within k g) ∙ (sym (rename_twice w (exchange i) (s.definition (exchange i k))
        ∙ rename_agree (λ x. w (exchange i x)) m (s.definition (exchange i k)) (λ x q.
        ap m (exchange_twice i x))) ∙ ap (rename w) (sym (sw.definition k g))));
    rec_to_rec = λ k x h e. (let q = sw.count in let g : k < s.count = omega arith in
        let f = sym (sw.rec_position k g) ∙ e in let o = rec_stays k x g f in
        ap (λ y. n.rec_position (m y)) o.stays ∙ c.rec_to_rec k x g f);
    rec_from_rec = λ p x h e. (let o = c.rec_from_rec p x h e in let q = sw.count in
        (o.0, (let o1 = o.1 in omega arith), sw.rec_position o.0 o.1 ∙ o.2));
    single_to_single = λ k h o. (let q = sw.count in let g : k < s.count = omega arith in
        c.single_to_single (exchange i k) (within k g) (single_too s r i sw k g o));
    singles_differ = c.singles_differ;
    selfs_kept = λ k h o nk. (let q = sw.count in selfs_swapped k (omega arith) o nk);
    anchors = λ k j g h kk kj an. (let q = sw.count in anchors_swapped k j g (omega arith) kk kj an);
    free = λ k j g h kk kj fr. (let q = sw.count in free_swapped k j g (omega arith) kk kj fr);
  }

-- a group that ends past the first ends past both
past_both :
    (s : IndexSpace) (i k : ℕ) → IsLaidOut s → ¬ (k ≡ i) → ¬ (k ≡ suc i) → k < s.count →
    suc i < s.count → s.rec_position i ≡ None → s.rec_position (suc i) ≡ None → i < s.end k →
    suc i < s.end k
past_both s i k l n1 n2 h ins f g e = elim (cases_lt k i) [
  | inl x ↦ (let z = ends_before_single s l i k x (omega arith) f in omega arith)
  | inr x ↦ (let z = l.own k h in omega arith)
]

-- the names of the swapped section stay below its ends
pub swapped_names :
    (s r : IndexSpace) (i : ℕ) → IsLaidOut s → NamesBelowEnds s → IsSwapped s r i → NamesBelowEnds r
swapped_names s r i l wn sw k hk x nx =
    let q = sw.count in
    let h : k < s.count = omega arith in
    let h' = exchange_within i k s.count sw.inside h in
    let b = named_before (exchange i) (s.definition (exchange i k)) x (rw (sw.definition k h) at nx) in
    let e = sw.end k h in
    let b2 = b.2 in
    let w = wn (exchange i k) h' b.0 b.1 in
    let own_k = l.own k h in
    let e1 = l.single_end i (let z = sw.inside in omega arith) sw.first_single in
    let e2 = l.single_end (suc i) sw.inside sw.second_single in
    elim (where_is i k) [
      | inl y ↦ (let y0 = y.0 in let y1 = y.1 in
          let f = sw.second_own b.0 (names_at s (exchange i k) (suc i) b.0 y.1 b.1) in
          let g : exchange i b.0 ≡ i = ap (exchange i) f ∙ exchange_second i in omega arith)
      | inr z ↦ (elim z [
        | inl y ↦ (let y0 = y.0 in let y1 = y.1 in
            let f = sw.first_own b.0 (names_at s (exchange i k) i b.0 y.1 b.1) in
            let g : exchange i b.0 ≡ suc i = ap (exchange i) f ∙ exchange_first i in omega arith)
        | inr o ↦ (let st = o.stays in let n1 = o.not_first in let n2 = o.not_second in
            let w' : b.0 < s.end k = subst (λ (j : ℕ). b.0 < s.end j) o.stays w in
            elim (where_is i b.0) [
              | inl y ↦ (let y0 = y.0 in let y1 = y.1 in let m =
                  past_both s i k l n1 n2 h sw.inside sw.first_single sw.second_single (omega arith) in
                  omega arith)
              | inr v ↦ (elim v [
                | inl y ↦ (let y0 = y.0 in let y1 = y.1 in omega arith)
                | inr p ↦ (let ps = p.stays in omega arith)
              ])
            ])
      ])
    ]
