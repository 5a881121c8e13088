-- A normal form is its own normal form, by the identity.
use Rattle.std.proofs.Common.{◌≡◌, ℕ, ◌<◌, refl, ap, sym, ◌∙◌, inl, inr, arith, Some}
use Rattle.std.specs.declared.cmp.Ordering.{Ordering, TheVariants.Less, TheVariants.Equal, TheVariants.Greater}
use Rattle.std.proofs.lemmas.Bool.{cases_lt, cases_eq}
use Rattle.walrus_ty.specs.Definition.{Definition, Names, rename, definition_cmp}
use Rattle.walrus_sections.specs.Section.{IndexSpace, NamesBelowEnds, IsSingle}
use Rattle.walrus_sections.specs.NormalForm.{IsKept, IsAnchor, AreFree, IsNormal}
use Rattle.walrus_sections.proofs.Sections.Lying.{IsLaidOut, in_or_out}
use Rattle.walrus_sections.proofs.NormalForms.{Agree.normal_merges, Kept.kept_one, Kept.anchor_kept, Kept.own_name}
use Rattle.walrus_ty.proofs.Names.Definitions.{Names-rename, named_before, rename_id, cmp_or_less, cmp_same, definitions_total, definition_exact}

-- one `Rec` has one end
same_rec_end :
    (t : IndexSpace) → IsLaidOut t → (p q : ℕ) (x y : ℕ × ℕ) → p < t.count → q < t.count →
    t.rec_position p ≡ Some x → t.rec_position q ≡ Some y → x.0 ≡ y.0 → t.end p ≡ t.end q
same_rec_end t l p q x y hp hq ex ey e = elim (cases_lt p q) [
  | inl h ↦ (elim (l.pair p q h hq) [
    | inl a ↦ absurd (let z = a.rises x y ex ey in omega arith)
    | inr o ↦ o.ends
  ])
  | inr h ↦ (elim (cases_eq p q) [
    | inl f ↦ ap t.end f
    | inr f ↦ (elim (l.pair q p (omega arith) hp) [
      | inl a ↦ absurd (let z = a.rises y x ey ex in omega arith)
      | inr o ↦ sym o.ends
    ])
  ])
]

less_or_greater : (a b : Ordering) → a ≡ b → (b ≡ Less → ⊥) → (b ≡ Equal → ⊥) → b ≡ Greater
less_or_greater a Less e f g = absurd (f refl)
less_or_greater a Equal e f g = absurd (g refl)
less_or_greater a Greater e f g = refl

-- of two definitions that differ, one is less
pub one_less :
    (e f : Definition) → ¬ (e ≡ f) → ¬ (definition_cmp f e ≡ Less) → definition_cmp e f ≡ Less
one_less e f d n =
    let g = less_or_greater (definition_cmp f e) (definition_cmp f e) refl n (λ q.
    d (sym (definition_exact f e q))) in
    let r = definitions_total.antisymm e f in rw g at r

-- kept `Single`s differ
pub kept_differ :
    (s n : IndexSpace) (m : ℕ → ℕ) → IsNormal s n m → (i j : ℕ) → i < j → j < s.count → IsKept m i →
    IsKept m j → IsSingle s i → IsSingle s j → ¬ (s.definition i ≡ s.definition j)
kept_differ s n m c i j g h ki kj oi oj e =
    kj i g (normal_merges s n m c i j (omega arith) h oi oj (ap (rename m) e))

module _ (s n : IndexSpace) (m : ℕ → ℕ) (l : IsLaidOut s) (ln : IsLaidOut n) (wn : NamesBelowEnds s)
    (c : IsNormal s n m) where
  -- what stands before an anchor has an image before its image
  below_anchor : (i k : ℕ) → i < s.count → k < i → IsAnchor s m i → m k < m i
  below_anchor i k h g a =
      let r = kept_one m k in
      let r1 = r.1 in let r3 = r.3 in
      let z = c.anchors r.0 i (omega arith) h r.2 (anchor_kept s n m l c i h a) (inr a) in omega arith

  -- a kept index that names a smaller one is an anchor
  names_below : (i k : ℕ) → i < s.count → IsKept m i → Names (s.definition i) k → k < i → IsAnchor s m i
  names_below i k h ki nk g = inr (ki, (k, nk, λ e. omega arith))

  pub names_again : NamesBelowEnds n
  names_again p hp k nk =
      let o = c.onto p hp in
      let r = kept_one m o.0 in
      let r1 = r.1 in let o1 = o.1 in
      let i = r.0 in
      let hi : i < s.count = omega arith in
      let e : m i ≡ p = r.3 ∙ o.2 in
      let en : n.definition p ≡ rename m (s.definition i) = ap n.definition (sym e) ∙ c.same i hi in
      let nb = named_before m (s.definition i) k (rw en at nk) in
      let j = nb.0 in
      let nb2 : m j ≡ k = nb.2 in
      let je = wn i hi j nb.1 in
      let fit = l.fits i hi in
      let bi = c.below i hi in
      let own = ln.own (m i) bi in
      let ends : n.end (m i) ≡ n.end p = ap n.end e in
      elim (cases_lt j i) [
        | inl g ↦ (let z = below_anchor i j hi g (names_below i j hi r.2 nb.1 g) in omega arith)
        | inr g ↦ (elim (in_or_out (s.rec_position i)) [
          | inl q ↦ (let se = l.single_end i hi q in let f : j ≡ i = omega arith in let z = ap m f in
              omega arith)
          | inr x ↦ (elim (cases_eq j i) [
            | inl f ↦ (let z = ap m f in omega arith)
            | inr f ↦ (elim (l.pair i j (omega arith) (omega arith)) [
              | inl a ↦ absurd (let z = a.ends in omega arith)
              | inr t ↦ (let u = c.rec_to_rec i t.x hi t.at_x in let v =
                  c.rec_to_rec j t.y (omega arith) t.at_y in
                  let bj = c.below j (omega arith) in
                  let w = same_rec_end n ln (m i) (m j) t.x t.y bi bj u v t.same in
                  let oj = ln.own (m j) bj in omega arith)
            ])
          ])
        ])
      ]

  -- an anchor's image is an anchor
  anchor_again : (i : ℕ) → i < s.count → IsAnchor s m i → IsAnchor n (λ k. k) (m i)
  anchor_again i h (inl r) = inl (r.0, c.rec_to_rec i r.0 h r.1)
  anchor_again i h (inr r) = elim (in_or_out (s.rec_position i)) [
    | inr x ↦ inl (x.0, c.rec_to_rec i x.0 h x.1)
    | inl o ↦ (let k = r.1.0 in let nk = r.1.1 in let ne = r.1.2 in
        let z = wn i h k nk in let e = l.single_end i h o in
        let lt : k < i = elim (cases_eq k i) [ inl f ↦ absurd (ne f) | inr f ↦ omega arith ] in
        let q : Names (n.definition (m i)) (m k) = rw (c.same i h) (Names-rename m (s.definition i) k nk) in
        inr ((λ j g f. omega arith), (m k, q, r.0 k lt)))
  ]

  single_if : (i : ℕ) → ¬ (IsAnchor s m i) → IsSingle s i
  single_if i na = elim (in_or_out (s.rec_position i)) [ inl o ↦ o | inr x ↦ absurd (na (inl x)) ]

  less_again : (i j : ℕ) → i < s.count → j < s.count → IsKept m i → IsKept m j → ¬ (IsAnchor s m i) →
      ¬ (IsAnchor s m j) → m i < m j → definition_cmp (s.definition i) (s.definition j) ≡ Less →
      definition_cmp (n.definition (m i)) (n.definition (m j)) ≡ Less
  less_again i j hi hj ki kj ai aj lt le =
      let r = cmp_or_less m (λ k. k) (s.definition i) (s.definition j) (λ k k' p q.
      (let e = own_name s m i k ki ai p in let f = own_name s m j k' kj aj q in
      let e' = ap m e in let f' = ap m f in omega arith)) in
      cmp_same (c.same i hi) (c.same j hj) ∙ (elim r [
        | inl e ↦ e ∙ (cmp_same (rename_id (s.definition i)) (rename_id (s.definition j)) ∙ le)
        | inr e ↦ e
      ])

  free_again : (p q : ℕ) → p < q → q < n.count → AreFree n (λ k. k) p q →
      definition_cmp (n.definition p) (n.definition q) ≡ Less
  free_again p q h hq fr =
      let o = c.onto p (omega arith) in
      let o' = c.onto q hq in
      let r = kept_one m o.0 in
      let r' = kept_one m o'.0 in
      let r1 = r.1 in let o1 = o.1 in let r1' = r'.1 in let o1' = o'.1 in
      let i = r.0 in let j = r'.0 in
      let hi : i < s.count = omega arith in
      let hj : j < s.count = omega arith in
      let e : m i ≡ p = r.3 ∙ o.2 in
      let f : m j ≡ q = r'.3 ∙ o'.2 in
      let ai : ¬ (IsAnchor s m i) = λ a. fr (m i) (omega arith) (omega arith) (anchor_again i hi a) in
      let aj : ¬ (IsAnchor s m j) = λ a. fr (m j) (omega arith) (omega arith) (anchor_again j hj a) in
      let si = single_if i ai in let sj = single_if j aj in
      let lt : m i < m j = omega arith in
      let less : definition_cmp (s.definition i) (s.definition j) ≡ Less = elim (cases_lt i j) [
        | inl g ↦ (c.free i j g hj r.2 r'.2 (λ a u v an. (elim (cases_eq a i) [
          | inl x ↦ ai (rw x at an)
          | inr x ↦ (elim (cases_eq a j) [
            | inl y ↦ aj (rw y at an)
            | inr y ↦ (let ka = anchor_kept s n m l c a (omega arith) an in
                let b = c.anchors i a (omega arith) (omega arith) r.2 ka (inr an) in
                let b' = c.anchors a j (omega arith) hj ka r'.2 (inl an) in
                fr (m a) (omega arith) (omega arith) (anchor_again a (omega arith) an))
          ])
        ]))).0 lt
        | inr g ↦ (elim (cases_eq i j) [
          | inl x ↦ absurd (let z = ap m x in omega arith)
          | inr x ↦ (
              let fr' : AreFree s m j i = λ a u v an. (elim (cases_eq a i) [
                | inl y ↦ ai (rw y at an)
                | inr y ↦ (elim (cases_eq a j) [
                  | inl w ↦ aj (rw w at an)
                  | inr w ↦ (let ka = anchor_kept s n m l c a (omega arith) an in
                      let b = c.anchors j a (omega arith) (omega arith) r'.2 ka (inr an) in
                      let b' = c.anchors a i (omega arith) hi ka r.2 (inl an) in omega arith)
                ])
              ]) in
              let iff = c.free j i (omega arith) hi r'.2 r.2 fr' in
              one_less (s.definition i) (s.definition j) (λ y.
              kept_differ s n m c j i (omega arith) hi r'.2 r.2 sj si (sym y)) (λ y.
              (let z = iff.1 y in omega arith)))
        ])
      ] in
      sym (cmp_same (ap n.definition e) (ap n.definition f)) ∙ (less_again i j hi hj r.2 r'.2 ai aj lt less)

  pub normal_again : IsNormal n n (λ k. k)
  normal_again = record {
    below = λ i h. h;
    onto = λ p h. (p, h, refl);
    same = λ i h. sym (rename_id (n.definition i));
    rec_to_rec = λ i x h e. e;
    rec_from_rec = λ p x h e. (p, h, e);
    single_to_single = λ i h o. o;
    singles_differ = c.singles_differ;
    selfs_kept = λ i h o nk j g e. omega arith;
    anchors = λ i j g h ki kj a. g;
    free = λ i j g h ki kj fr. ((λ x. free_again i j g h fr), (λ x. g));
  }
