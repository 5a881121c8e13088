-- What is read and then emitted is a normal form, by index.
use Rattle.std.proofs.Common.{◌≡◌, ℕ, ◌<◌, ◌≤◌, ap, sym, ◌∙◌, inl, inr, ◌⊎◌, arith, ◌↔◌}
use Rattle.std.specs.declared.cmp.Ordering.{Ordering, TheVariants.Less, TheVariants.Equal, TheVariants.Greater}
use Rattle.std.specs.Ordering.{ordering_reverse}
use Rattle.std.proofs.lemmas.Bool.{cases_lt, cases_eq}
use Rattle.walrus_ty.specs.Definition.{Names, rename, definition_cmp}
use Rattle.walrus_sections.specs.{Section.IndexSpace, Section.NamesBelowEnds, Section.IsSingle, SlotMap.read_definition, SlotMap.IsCandidate, SlotMap.IsSlotMap, NormalForm.IsKept, NormalForm.IsAnchor, NormalForm.AreFree, NormalForm.IsNormal}
use Rattle.walrus_sections.proofs.{Sections.Lying.IsLaidOut, Sections.Lying.in_or_out, NormalForms.Again.one_less, Emission.ByIndex.IsFixed, Emission.ByIndex.IsEmitted}
use Rattle.walrus_ty.proofs.Names.Definitions.{Names-rename, named_before, rename_id, rename_twice, rename_agree, transfer, cmp_same, names_same, definitions_total}

module _ (s : IndexSpace) (r : ℕ → ℕ) (d : IsSlotMap s r) where
  own_or_sent : (i : ℕ) → i < s.count → (r i ≡ i) ⊎ IsCandidate s r i (r i)
  own_or_sent i h = elim (cases_eq (r i) i) [
    | inl v ↦ inl v
    | inr w ↦ (elim (in_or_out (s.rec_position i)) [
      | inl o ↦ inr (d.to_candidate i h o w)
      | inr x ↦
          absurd (w (d.recs i h x))
    ])
  ]

  -- each index is sent to a live slot that is not later and holds what it defines
  pub down : (i : ℕ) → i < s.count → r i ≤ i
  down i h = elim (own_or_sent i h) [ inl v ↦ omega arith | inr c ↦ (let z = c.earlier in omega arith) ]

  pub twice : (i : ℕ) → i < s.count → r (r i) ≡ r i
  twice i h = elim (own_or_sent i h) [ inl v ↦ ap r v | inr c ↦ c.live ]

  pub read-same : (i : ℕ) → i < s.count → read_definition s r (r i) ≡ read_definition s r i
  read-same i h = elim (own_or_sent i h) [ inl v ↦ ap (read_definition s r) v | inr c ↦ c.same ]

module _ (s : IndexSpace) (r : ℕ → ℕ) (l : IsLaidOut s) (wn : NamesBelowEnds s) (d : IsSlotMap s r) where
  -- a live slot of a `Single` that names itself holds what no earlier slot holds
  earlier_differs : (i j : ℕ) → i < j → j < s.count → r i ≡ i → r j ≡ j → IsSingle s j →
      (¬ (Names (s.definition j) j) → ⊥) → ¬ (read_definition s r i ≡ read_definition s r j)
  earlier_differs i j g h vi vj oj or_else q = or_else (λ nj.
      (let a = Names-rename r (s.definition j) j nj in
      let b = named_before r (s.definition i) (r j) (names_same (r j) (sym q) a) in
      let w = wn i (omega arith) b.0 b.1 in let f = l.fits i (omega arith) in
      let db = down s r d b.0 (omega arith) in let b2 = b.2 in
      (elim (l.pair i j g h) [
        | inl x ↦ (let z = x.ends in omega arith)
        | inr x ↦ (let z = x.at_y in absurd cc)
      ])))

  -- live slots of `Single`s hold different definitions
  pub differ : (i j : ℕ) → i < j → j < s.count → r i ≡ i → r j ≡ j → IsSingle s i → IsSingle s j →
      ¬ (read_definition s r i ≡ read_definition s r j)
  differ i j g h vi vj oi oj q = earlier_differs i j g h vi vj oj (λ nn.
      d.fresh j i h oj nn vj (record { earlier = g; single = oi; live = vi; same = q })) q

  -- a candidate is the only one
  pub one_candidate : (i j k : ℕ) → i < s.count → IsCandidate s r i j → IsCandidate s r i k → j ≡ k
  one_candidate i j k h a b =
      let ja = a.earlier in let kb = b.earlier in
      elim (cases_lt j k) [
        | inl x ↦ absurd (differ j k x (omega arith) a.live b.live a.single b.single (a.same ∙ sym b.same))
        | inr x ↦ (elim (cases_eq j k) [
          | inl e ↦ e
          | inr e ↦ absurd (differ k j (omega arith) (omega arith) b.live a.live b.single a.single (b.same
              ∙ sym a.same))
        ])
      ]

greater_of : (o p : Ordering) → p ≡ ordering_reverse o → o ≡ Less → ¬ (p ≡ Less)
greater_of Less p e h q = cc
greater_of Equal p e h q = cc
greater_of Greater p e h q = cc

module _ (s n : IndexSpace) (r place : ℕ → ℕ) (l : IsLaidOut s) (wn : NamesBelowEnds s) (d : IsSlotMap s r)
    (e : IsEmitted s n r place) where
  abbrev m : ℕ → ℕ
  m i = place (r i)

  live_kept : (i : ℕ) → i < s.count → r i ≡ i → IsKept m i
  live_kept i h v j g q =
      let dj = down s r d j (omega arith) in
      let z = e.apart (r j) (r i) (omega arith) (let x = down s r d i h in omega arith)
      (twice s r d j (omega arith)) (twice s r d i h) q in omega arith

  kept_live : (i : ℕ) → i < s.count → IsKept m i → r i ≡ i
  kept_live i h k = elim (cases_eq (r i) i) [
    | inl v ↦ v
    | inr f ↦ absurd (let z = down s r d i h in k (r i) (omega arith) (ap place (twice s r d i h)))
  ]

  -- the types in two live slots that are written alike are alike
  alike : (i j : ℕ) → i < s.count → j < s.count → n.definition (m i) ≡ n.definition (m j) →
      read_definition s r i ≡ read_definition s r j
  alike i j hi hj q =
      let ri = down s r d i hi in let rj = down s r d j hj in
      let a : rename place (read_definition s r (r i)) ≡ rename place (read_definition s r (r j)) =
      sym (e.definition (r i) (omega arith) (twice s r d i hi))
      ∙ (q ∙ e.definition (r j) (omega arith) (twice s r d j hj)) in
      let names : (x : ℕ) → x < s.count → (k : ℕ) → Names (read_definition s r x) k → (k < s.count)
      × (r k ≡ k) = λ x hx k nk.
      (let b = named_before r (s.definition x) k nk in
      let w = wn x hx b.0 b.1 in let f = l.fits x hx in
      let db = down s r d b.0 (omega arith) in let tb = twice s r d b.0 (omega arith) in let b2 = b.2 in
      (omega arith, ap r (sym b2) ∙ (tb ∙ b2))) in
      let t = transfer place (λ k. k) (read_definition s r (r i)) (read_definition s r (r j)) (λ k k' p u v.
      (let x = names (r i) (omega arith) k p in let y = names (r j) (omega arith) k' u in
      e.apart k k' x.0 y.0 x.1 y.1 v)) a in
      sym (read-same s r d i hi) ∙ (sym (rename_id (read_definition s r (r i)))
      ∙ (t ∙ (rename_id (read_definition s r (r j)) ∙ read-same s r d j hj)))

  fixed_if : (i : ℕ) → i < s.count → IsAnchor s m i → IsFixed s r i
  fixed_if i h (inl x) = inl x
  fixed_if i h (inr x) = elim (in_or_out (s.rec_position i)) [
    | inr y ↦ inl y
    | inl o ↦ (let k = x.1.0 in let nk = x.1.1 in let ne = x.1.2 in
        let w = wn i h k nk in let f = l.single_end i h o in
        let lt : k < i = elim (cases_eq k i) [ inl q ↦ absurd (ne q) | inr q ↦ omega arith ] in
        let dk = down s r d k (omega arith) in
        inr (r k, Names-rename r (s.definition i) k nk, λ q. omega arith))
  ]

  anchor_if : (i : ℕ) → i < s.count → r i ≡ i → IsFixed s r i → IsAnchor s m i
  anchor_if i h v (inl x) = inl x
  anchor_if i h v (inr x) =
      let b = named_before r (s.definition i) x.0 x.1 in
      inr (live_kept i h v, (b.0, b.1, λ q. x.2 (sym b.2 ∙ (ap r q ∙ v))))

  own_type : (i : ℕ) → i < s.count → r i ≡ i → ¬ (IsAnchor s m i) → read_definition s r i ≡ s.definition i
  own_type i h v na = rename_agree r (λ k. k) (s.definition i) (λ k nk. elim (cases_eq k i) [
    | inl q ↦ ap r q ∙ (v ∙ sym q)
    | inr q ↦ absurd (na (inr (live_kept i h v, (k, nk, q))))
  ]) ∙ rename_id (s.definition i)

  free_made : (i j : ℕ) → i < j → j < s.count → IsKept m i → IsKept m j → AreFree s m i j →
      (m i < m j ↔ definition_cmp (s.definition i) (s.definition j) ≡ Less)
  free_made i j g h ki kj fr =
      let vi = kept_live i (omega arith) ki in
      let vj = kept_live j h kj in
      let ti = own_type i (omega arith) vi (fr i (omega arith) (omega arith)) in
      let tj = own_type j h vj (fr j (omega arith) (omega arith)) in
      let f = e.free i j g h vi vj (λ a u v va fx. fr a u v (anchor_if a (omega arith) va fx)) in
      let single : (a : ℕ) → i ≤ a → a ≤ j → IsSingle s a = λ a u v.
      elim (in_or_out (s.rec_position a)) [ inl o ↦ o | inr x ↦ absurd (fr a u v (inl x)) ] in
      let ne : ¬ (s.definition i ≡ s.definition j) = λ q.
      differ s r l wn d i j g h vi vj (single i (omega arith) (omega arith))
      (single j (omega arith) (omega arith)) (ap (rename r) q) in
      let pi = ap place vi in let pj = ap place vj in (
        (λ x. one_less (s.definition i) (s.definition j) ne (λ y. f.0 (omega arith) (cmp_same tj ti ∙ y))),
        (λ x. (let z = f.1 (λ y. greater_of (definition_cmp (s.definition i) (s.definition j))
            (definition_cmp (s.definition j) (s.definition i))
            (definitions_total.antisymm (s.definition j) (s.definition i)) x (sym (cmp_same tj ti) ∙ y)) in
            omega arith)),
      )

  pub normal_made : IsNormal s n m
  normal_made = record {
    below = λ i h. (let z = down s r d i h in e.below (r i) (omega arith) (twice s r d i h));
    onto = λ p h. (let o = e.onto p h in (o.0, o.1, ap place o.2 ∙ o.3));
    same = λ i h. (let z = down s r d i h in e.definition (r i) (omega arith) (twice s r d i h)
        ∙ (ap (rename place) (read-same s r d i h) ∙ rename_twice place r (s.definition i)));
    rec_to_rec = λ i x h q. (let v = d.recs i h (x, q) in ap (λ y. n.rec_position (place y)) v
        ∙ (e.rec_position i h v ∙ q));
    rec_from_rec = λ p x h q. (let o = e.onto p h in
        (o.0, o.1, sym (e.rec_position o.0 o.1 o.2) ∙ (ap n.rec_position o.3 ∙ q)));
    selfs_kept = λ i h o q. live_kept i h (d.selfs i h o q);
    anchors = λ i j g h ki kj an. (
        let vi = kept_live i (omega arith) ki in let vj = kept_live j h kj in
        let a : IsFixed s r i ⊎ IsFixed s r j = elim an [
          | inl x ↦ inl (fixed_if i (omega arith) x)
          | inr x ↦
              inr (fixed_if j h x)
        ] in
        let z = e.fixed i j g h vi vj a in
        let pi = ap place vi in let pj = ap place vj in omega arith);
    free = free_made;
    singles_differ = λ p q g h op oq x. (
        let a = e.onto p (omega arith) in let b = e.onto q h in
        let i = a.0 in let j = b.0 in
        let a1 = a.1 in let b1 = b.1 in
        let oi : IsSingle s i = sym (e.rec_position i a1 a.2) ∙ (ap n.rec_position a.3 ∙ op) in
        let oj : IsSingle s j = sym (e.rec_position j b1 b.2) ∙ (ap n.rec_position b.3 ∙ oq) in
        let ti = alike i j a1 b1 (ap (λ y. n.definition (place y)) a.2
        ∙ (ap n.definition a.3 ∙ (x ∙ (ap n.definition (sym b.3)
        ∙ ap (λ y. n.definition (place y)) (sym b.2))))) in
        elim (cases_lt i j) [
          | inl y ↦ differ s r l wn d i j y b1 a.2 b.2 oi oj ti
          | inr y ↦ (elim (cases_eq i j) [
            | inl z ↦ (let a3 = a.3 in let b3 = b.3 in let w = ap place z in omega arith)
            | inr z ↦ differ s r l wn d j i (omega arith) a1 b.2 a.2 oj oi (sym ti)
          ])
        ]);
    single_to_single = λ i h o. (let z = down s r d i h in
        e.rec_position (r i) (omega arith) (twice s r d i h) ∙ (elim (cases_eq (r i) i) [
          | inl v ↦ ap s.rec_position v ∙ o
          | inr w ↦ (d.to_candidate i h o w).single
        ]));
  }
