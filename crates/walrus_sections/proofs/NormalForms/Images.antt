-- Two normal forms that merge the same indices send each index to one number, and are the same by
-- index.
use Rattle.std.proofs.Common.{◌≡◌, ℕ, zero, suc, ◌<◌, ◌≤◌, refl, ap, sym, ◌∙◌, inl, inr, arith}
use Rattle.std.proofs.lemmas.Bool.{cases_lt, cases_eq}
use Rattle.walrus_sections.specs.{Section.IndexSpace, Section.NamesBelowEnds, NormalForm.IsKept, NormalForm.AreFree, NormalForm.IsNormal}
use Rattle.walrus_sections.proofs.Sections.Lying.{IsLaidOut, in_or_out}
use Rattle.walrus_sections.proofs.NormalForms.{Kept.kept_one, Kept.free_if_not, Agree.Agree, Agree.kept_agree, Agree.anchor_agree}
use Rattle.walrus_ty.proofs.Names.Definitions.{rename_agree}

module _ (s n n' : IndexSpace) (m w : ℕ → ℕ) (c : IsNormal s n m) (d : IsNormal s n' w) (l : IsLaidOut s)
    (ag : Agree s m w) (ga : Agree s w m) where
  -- kept indices stand in the same order
  pub same_order : (i j : ℕ) → i < s.count → j < s.count → IsKept m i → IsKept m j → m i < m j → w i < w j
  same_order i j hi hj ki kj lt =
      let ki' = kept_agree s m w ga i hi ki in
      let kj' = kept_agree s m w ga j hj kj in
      elim (cases_lt (w i) (w j)) [
        | inl up ↦ up
        | inr over ↦ (elim (cases_lt i j) [
          | inl h ↦ (let fw = free_if_not s n' w l d i j h hj ki' kj' over in
              let fm : AreFree s m i j = λ a p q an. fw a p q (anchor_agree s m w ga a (omega arith) an) in
              (d.free i j h hj ki' kj' fw).1 ((c.free i j h hj ki kj fm).0 lt))
          | inr h ↦ (elim (cases_eq i j) [
            | inl e ↦ absurd (let z = ap m e in omega arith)
            | inr ne ↦ (let h' : j < i = omega arith in
                let fm = free_if_not s n m l c j i h' hi kj ki (omega arith) in
                let fw : AreFree s w j i = λ a p q an. fm a p q (anchor_agree s w m ag a (omega arith) an) in
                elim (cases_eq (w i) (w j)) [
                  | inl e ↦ absurd (ki' j h' (sym e))
                  | inr ne' ↦ (let lt' : w j < w i = omega arith in
                      let z = (c.free j i h' hi kj ki fm).1 ((d.free j i h' hi kj' ki' fw).0 lt') in
                      absurd (omega arith))
                ])
          ])
        ])
      ]

  at_least : (p i : ℕ) → i < s.count → IsKept m i → m i ≡ p → p ≤ w i
  at_least zero i h k e = omega arith
  at_least (suc p) i h k e =
      let b = c.below i h in
      let o = c.onto p (omega arith) in
      let r = kept_one m o.0 in
      let z = r.1 in let o1 = o.1 in let o2 = o.2 in let r3 = r.3 in
      let g = at_least p r.0 (omega arith) r.2 (omega arith) in
      let f = same_order r.0 i (omega arith) h r.2 k (omega arith) in omega arith

  pub image_at_least : (i : ℕ) → i < s.count → m i ≤ w i
  image_at_least i h =
      let r = kept_one m i in
      let z = r.1 in
      let e = ag r.0 i (omega arith) h r.3 in
      let g = at_least (m r.0) r.0 (omega arith) r.2 refl in let r3 = r.3 in omega arith

module _ (s n n' : IndexSpace) (m w : ℕ → ℕ) (c : IsNormal s n m) (d : IsNormal s n' w) (l : IsLaidOut s)
    (ag : Agree s m w) (ga : Agree s w m) where
  pub same_image : (i : ℕ) → i < s.count → m i ≡ w i
  same_image i h =
      let a = image_at_least s n n' m w c d l ag ga i h in
      let b = image_at_least s n' n w m d c l ga ag i h in omega arith

-- with equal maps, the definitions are equal
module _ (s n n' : IndexSpace) (m w : ℕ → ℕ) (l : IsLaidOut s) (wn : NamesBelowEnds s) (c : IsNormal s n m)
    (d : IsNormal s n' w) (eq : (i : ℕ) → i < s.count → m i ≡ w i) where
  pub count_least : n.count ≤ n'.count
  count_least = elim (cases_lt n'.count n.count) [
    | inl h ↦ (let o = c.onto n'.count h in let b = d.below o.0 o.1 in let e = eq o.0 o.1 in let f = o.2 in
        absurd (omega arith))
    | inr h ↦ h
  ]

  pub same_definition : (p : ℕ) → p < n.count → n.definition p ≡ n'.definition p
  same_definition p h =
      let o = c.onto p h in
      let i = o.0 in
      let x = c.same i o.1 in
      let y = d.same i o.1 in
      let z = rename_agree m w (s.definition i) (λ k g.
      eq k (let a = wn i o.1 k g in let b = l.fits i o.1 in omega arith)) in
      ap n.definition (sym o.2) ∙ (x ∙ (z ∙ (sym y ∙ ap n'.definition (sym (eq i o.1) ∙ o.2))))

module _ (s n n' : IndexSpace) (m w : ℕ → ℕ) (c : IsNormal s n m) (d : IsNormal s n' w) (eq : (i : ℕ) →
    i < s.count → m i ≡ w i) where
  pub same_rec_positions : (p : ℕ) → p < n.count → n.rec_position p ≡ n'.rec_position p
  same_rec_positions p h =
      let o = c.onto p h in
      let r = kept_one m o.0 in
      let z = r.1 in let o1 = o.1 in
      let b : r.0 < s.count = omega arith in
      let i = r.0 in
      let e : m i ≡ p = r.3 ∙ o.2 in
      let f : w i ≡ p = sym (eq i b) ∙ e in
      elim (in_or_out (s.rec_position i)) [
        | inl x ↦ (let u = c.single_to_single i b x in let v = d.single_to_single i b x in
            sym (ap n.rec_position e) ∙ (u ∙ (sym v ∙ ap n'.rec_position f)))
        | inr x ↦ (let u = c.rec_to_rec i x.0 b x.1 in let v = d.rec_to_rec i x.0 b x.1 in
            sym (ap n.rec_position e) ∙ (u ∙ (sym v ∙ ap n'.rec_position f)))
      ]
