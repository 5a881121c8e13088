-- A `Single` that repeats an earlier one comes in, and the normal form stays.
use Rattle.std.proofs.Common.{◌≡◌, ℕ, suc, ◌<◌, ◌≤◌, ap, sym, ◌∙◌, inl, inr, arith, Some, ◌↔◌, subst}
use Rattle.std.specs.declared.cmp.Ordering.TheVariants.{Less}
use Rattle.std.proofs.lemmas.Bool.{cases_eq}
use Rattle.walrus_ty.specs.Definition.{Names, rename, definition_cmp}
use Rattle.walrus_sections.specs.{Section.IndexSpace, Section.NamesBelowEnds, Section.IsSingle, Moves.skip, NormalForm.IsKept, NormalForm.IsAnchor, NormalForm.AreFree, NormalForm.IsNormal}
use Rattle.walrus_sections.proofs.{Moves.ByIndex.unskip, Moves.ByIndex.IsWithout, NormalForms.Kept.own_name}
use Rattle.walrus_sections.proofs.Moves.Skip.{gone, below, above, side, lower, higher, was, skip_gone, skip_below, skip_unskip, unskip_skip, unskip_rises, unskip_not, skip_rises}
use Rattle.walrus_sections.proofs.Sections.Lying.{IsLaidOut, in_or_out, ends_before_single, names_at}
use Rattle.walrus_ty.proofs.Names.Definitions.{Names-rename, named_before, rename_id, rename_twice, cmp_agree, cmp_same}
use Rattle.walrus_ty.proofs.Spelling.Tokens.{nat_less}

module _ (s r n : IndexSpace) (w : ℕ → ℕ) (i j : ℕ) (l : IsLaidOut s) (wn : NamesBelowEnds s)
    (x : IsWithout s r i j) (c : IsNormal r n w) where
  abbrev m : ℕ → ℕ
  m k = w (skip i j k)

  low : (k : ℕ) → k < s.count → skip i j k < r.count
  low k h = let a = x.count in let b = x.inside in let d = x.earlier in elim (side i j k) [
    | gone e f ↦ omega arith
    | below g f ↦ omega arith
    | above g f ↦ omega arith
  ]

  high : (k : ℕ) → k < r.count → unskip i k < s.count
  high k h = let a = x.count in elim (was i k) [ lower g e ↦ omega arith | higher g e ↦ omega arith ]

  definition_of : (k : ℕ) → k < s.count → ¬ (k ≡ i) →
      r.definition (skip i j k) ≡ rename (skip i j) (s.definition k)
  definition_of k h ne = x.definition (skip i j k) (low k h)
      ∙ ap (λ y. rename (skip i j) (s.definition y)) (unskip_skip i j k ne)

  rec_position_of : (k : ℕ) → k < s.count → ¬ (k ≡ i) → r.rec_position (skip i j k) ≡ s.rec_position k
  rec_position_of k h ne = x.rec_position (skip i j k) (low k h) ∙ ap s.rec_position (unskip_skip i j k ne)

  same_of : (k : ℕ) → k < s.count → ¬ (k ≡ i) → n.definition (m k) ≡ rename m (s.definition k)
  same_of k h ne = c.same (skip i j k) (low k h)
      ∙ (ap (rename w) (definition_of k h ne) ∙ rename_twice w (skip i j) (s.definition k))

  same_without : (k : ℕ) → k < s.count → n.definition (m k) ≡ rename m (s.definition k)
  same_without k h = elim (cases_eq k i) [
    | inr ne ↦ same_of k h ne
    | inl e ↦ (let ji = x.earlier in
        ap (λ y. n.definition (w y)) (ap (skip i j) e ∙ (skip_gone i j ∙ sym (skip_below i j j ji)))
        ∙ (same_of j (omega arith) (λ q. omega arith)
        ∙ ap (rename m) (sym x.equal ∙ ap s.definition (sym e))))
  ]

  rec_other : (k : ℕ) (v : ℕ × ℕ) → s.rec_position k ≡ Some v → ¬ (k ≡ i)
  rec_other k v e q = let a = ap s.rec_position q in let b = x.single in cc

  kept_other : (k : ℕ) → IsKept m k → ¬ (k ≡ i)
  kept_other k h q = let ji = x.earlier in
      h j (omega arith) (ap w (skip_below i j j ji ∙ sym (ap (skip i j) q ∙ skip_gone i j)))

  kept_down : (k : ℕ) → IsKept m k → IsKept w (skip i j k)
  kept_down k h y g e =
      let ne = kept_other k h in
      let a = unskip_rises i y (skip i j k) g in
      let b = unskip_skip i j k ne in
      h (unskip i y) (omega arith) (ap w (skip_unskip i j y) ∙ e)

  kept_up : (k : ℕ) → ¬ (k ≡ i) → IsKept w (skip i j k) → IsKept m k
  kept_up k ne h y g e = h (skip i j y) (skip_rises i j y k x.earlier ne g) e

  anchor_down : (k : ℕ) → k < s.count → IsAnchor s m k → IsAnchor r w (skip i j k)
  anchor_down k h (inl a) = inl (a.0, rec_position_of k h (rec_other k a.0 a.1) ∙ a.1)
  anchor_down k h (inr a) = elim (in_or_out (s.rec_position k)) [
    | inr y ↦ inl (y.0, rec_position_of k h (rec_other k y.0 y.1) ∙ y.1)
    | inl o ↦ (
        let ne = kept_other k a.0 in
        let z = wn k h a.1.0 a.1.1 in let e = l.single_end k h o in
        let lt : a.1.0 < k = elim (cases_eq a.1.0 k) [ inl q ↦ absurd (a.1.2 q) | inr q ↦ omega arith ] in
        let up = skip_rises i j a.1.0 k x.earlier ne lt in
        let nm : Names (r.definition (skip i j k)) (skip i j a.1.0) =
        rw (definition_of k h ne) (Names-rename (skip i j) (s.definition k) a.1.0 a.1.1) in
        inr (kept_down k a.0, (skip i j a.1.0, nm, λ q. omega arith)))
  ]

  anchor_up : (y : ℕ) → y < r.count → IsAnchor r w y → IsAnchor s m (unskip i y)
  anchor_up y h (inl a) = inl (a.0, sym (x.rec_position y h) ∙ a.1)
  anchor_up y h (inr a) =
      let b = named_before (skip i j) (s.definition (unskip i y)) a.1.0 (rw (x.definition y h) at a.1.1) in
      inr (
        kept_up (unskip i y) (unskip_not i y) (subst (IsKept w) (sym (skip_unskip i j y)) a.0),
        (b.0, b.1, λ q. a.1.2 (sym b.2 ∙ (ap (skip i j) q ∙ skip_unskip i j y))),
      )

  free_without : (k q : ℕ) → k < q → q < s.count → IsKept m k → IsKept m q → AreFree s m k q →
      (m k < m q ↔ definition_cmp (s.definition k) (s.definition q) ≡ Less)
  free_without k q g h kk kq fr =
      let nk = kept_other k kk in let nq = kept_other q kq in
      let up = skip_rises i j k q x.earlier nq g in
      let ek = unskip_skip i j k nk in let eq = unskip_skip i j q nq in
      let lq = low q h in
      let fr' : AreFree r w (skip i j k) (skip i j q) = λ a u v an. (
      let hi : (p : ℕ) → p ≤ a → unskip i p ≤ unskip i a = λ p e.
      (elim (cases_eq p a) [
        | inl z ↦ (let y = ap (unskip i) z in omega arith)
        | inr z ↦
            (let y = unskip_rises i p a (omega arith) in omega arith)
      ]) in
      let lo : (p : ℕ) → a ≤ p → unskip i a ≤ unskip i p = λ p e.
      (elim (cases_eq p a) [
        | inl z ↦ (let y = ap (unskip i) z in omega arith)
        | inr z ↦
            (let y = unskip_rises i a p (omega arith) in omega arith)
      ]) in
      let a1 = hi (skip i j k) u in let a2 = lo (skip i j q) v in
      fr (unskip i a) (omega arith) (omega arith) (anchor_up a (omega arith) an)) in
      let f = c.free (skip i j k) (skip i j q) up lq (kept_down k kk) (kept_down q kq) fr' in
      let e = s.definition k in let e' = s.definition q in
      let z = cmp_agree (skip i j) (λ y. y) e e' (λ y y' p p'. (
      let a = own_name s m k y kk (fr k (omega arith) (omega arith)) p in
      let b = own_name s m q y' kq (fr q (omega arith) (omega arith)) p' in
      let a' = ap (skip i j) a in let b' = ap (skip i j) b in
      nat_less (skip i j y) (skip i j y') (omega arith) ∙ sym (nat_less y y' (omega arith)))) in
      let t : definition_cmp (r.definition (skip i j k)) (r.definition (skip i j q)) ≡ definition_cmp e e' =
      cmp_same (definition_of k (omega arith) nk) (definition_of q h nq)
      ∙ (z ∙ cmp_same (rename_id e) (rename_id e')) in
      ((λ y. sym t ∙ f.0 y), (λ y. f.1 (t ∙ y)))

  selfs_without : (k : ℕ) → k < s.count → IsSingle s k → Names (s.definition k) k → IsKept m k
  selfs_without k h o nk =
      let ne : ¬ (k ≡ i) = λ q. (
      let a : Names (s.definition j) k = rw (sym x.equal ∙ ap s.definition (sym q)) nk in
      let ji = x.earlier in
      let b = wn j (omega arith) k a in let e = l.single_end j (omega arith) x.earlier_single in omega arith)
      in
      let nm : Names (r.definition (skip i j k)) (skip i j k) =
      rw (definition_of k h ne) (Names-rename (skip i j) (s.definition k) k nk) in
      kept_up k ne (c.selfs_kept (skip i j k) (low k h) (rec_position_of k h ne ∙ o) nm)

  single_without : (k : ℕ) → k < s.count → IsSingle s k → IsSingle n (m k)
  single_without k h o = c.single_to_single (skip i j k) (low k h) (elim (cases_eq k i) [
    | inr ne ↦ rec_position_of k h ne ∙ o
    | inl e ↦ (let ji = x.earlier in let ins = x.inside in
        ap r.rec_position (ap (skip i j) e ∙ (skip_gone i j ∙ sym (skip_below i j j ji)))
        ∙ (rec_position_of j (omega arith) (λ q. omega arith) ∙ x.earlier_single))
  ])

  pub normal_without : IsNormal s n m
  normal_without = record {
    below = λ k h. c.below (skip i j k) (low k h);
    onto = λ p h. (let o = c.onto p h in (unskip i o.0, high o.0 o.1, ap w (skip_unskip i j o.0) ∙ o.2));
    same = same_without;
    rec_to_rec = λ k v h e. c.rec_to_rec (skip i j k) v (low k h) (rec_position_of k h (rec_other k v e) ∙ e);
    rec_from_rec = λ p v h e. (let o = c.rec_from_rec p v h e in
        (unskip i o.0, high o.0 o.1, sym (x.rec_position o.0 o.1) ∙ o.2));
    single_to_single = single_without;
    singles_differ = c.singles_differ;
    selfs_kept = selfs_without;
    anchors = λ k q g h kk kq an. c.anchors (skip i j k) (skip i j q)
        (skip_rises i j k q x.earlier (kept_other q kq) g) (low q h) (kept_down k kk) (kept_down q kq)
        (elim an [ inl a ↦ inl (anchor_down k (omega arith) a) | inr a ↦ inr (anchor_down q h a) ]);
    free = free_without;
  }

module _ (s r : IndexSpace) (i j : ℕ) (l : IsLaidOut s) (wn : NamesBelowEnds s) (x : IsWithout s r i j) where
  -- the names of the section without the repeat stay below its ends
  pub names_without : NamesBelowEnds r
  names_without k h y ny =
      let b = named_before (skip i j) (s.definition (unskip i k)) y (rw (x.definition k h) at ny) in
      let b2 = b.2 in
      let cnt = x.count in let ji = x.earlier in let ins = x.inside in
      elim (was i k) [
        | lower g e ↦ (
            let z = wn k (omega arith) b.0 (names_at s (unskip i k) k b.0 e b.1) in
            let q = ends_before_single s l i k g ins x.single in
            let t = x.end_below k g in
            let d = skip_below i j b.0 (omega arith) in omega arith)
        | higher g e ↦ (
            let z = wn (suc k) (omega arith) b.0 (names_at s (unskip i k) (suc k) b.0 e b.1) in
            let t = x.end_above k g h in
            let own = l.own (suc k) (omega arith) in
            (elim (side i j b.0) [
              | gone e' f ↦ omega arith
              | below g' f ↦ omega arith
              | above g' f ↦
                  omega arith
            ]))
      ]
