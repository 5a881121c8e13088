-- The laws look at a map only at the indices of the section.
use Rattle.std.proofs.Common.{◌≡◌, ℕ, ◌<◌, ap, sym, ◌∙◌, inl, inr, ◌⊎◌, arith}
use Rattle.walrus_sections.specs.{Section.IndexSpace, Section.NamesBelowEnds, NormalForm.IsKept, NormalForm.IsAnchor, NormalForm.IsNormal}
use Rattle.walrus_sections.proofs.Sections.Lying.{IsLaidOut}
use Rattle.walrus_ty.proofs.Names.Definitions.{rename_agree}

kept_same :
    (b : ℕ) (m w : ℕ → ℕ) → ((i : ℕ) → i < b → m i ≡ w i) → (i : ℕ) → i < b → IsKept m i →
    IsKept w i
kept_same b m w eq i h k j g e = k j g (eq j (omega arith) ∙ (e ∙ sym (eq i h)))

anchor_same :
    (s : IndexSpace) (m w : ℕ → ℕ) → ((i : ℕ) → i < s.count → m i ≡ w i) → (i : ℕ) → i < s.count →
    IsAnchor s m i → IsAnchor s w i
anchor_same s m w eq i h (inl r) = inl r
anchor_same s m w eq i h (inr r) = inr (kept_same s.count m w eq i h r.0, r.1)

module _ (s n : IndexSpace) (m w : ℕ → ℕ) (l : IsLaidOut s) (wn : NamesBelowEnds s) (eq : (i : ℕ) →
    i < s.count → m i ≡ w i) where
  qe : (i : ℕ) → i < s.count → w i ≡ m i
  qe i h = sym (eq i h)

  pub normal_same : IsNormal s n m → IsNormal s n w
  normal_same c = record {
    below = λ i h. (let z = c.below i h in let e = eq i h in omega arith);
    onto = λ p h. (let o = c.onto p h in (o.0, o.1, sym (eq o.0 o.1) ∙ o.2));
    same = λ i h. ap n.definition (qe i h) ∙ (c.same i h ∙ rename_agree m w (s.definition i) (λ k q.
        eq k (let z = wn i h k q in let y = l.fits i h in omega arith)));
    rec_to_rec = λ i x h e. ap n.rec_position (qe i h) ∙ c.rec_to_rec i x h e;
    rec_from_rec = c.rec_from_rec;
    selfs_kept = λ i h o q. kept_same s.count m w eq i h (c.selfs_kept i h o q);
    anchors = λ i j g h ki kj a. (
        let back = kept_same s.count w m qe in
        let a' : IsAnchor s m i ⊎ IsAnchor s m j =
        elim a [
          | inl x ↦ inl (anchor_same s w m qe i (omega arith) x)
          | inr x ↦
              inr (anchor_same s w m qe j h x)
        ] in
        let z = c.anchors i j g h (back i (omega arith) ki) (back j h kj) a' in
        let e = eq i (omega arith) in let f = eq j h in omega arith);
    free = λ i j g h ki kj fr. (
        let back = kept_same s.count w m qe in
        let e = eq i (omega arith) in let f = eq j h in
        let z = c.free i j g h (back i (omega arith) ki) (back j h kj) (λ a p q an.
        fr a p q (anchor_same s m w eq a (omega arith) an)) in
        ((λ x. z.0 (omega arith)), (λ x. (let y = z.1 x in omega arith))));
    single_to_single = λ i h o. ap n.rec_position (qe i h) ∙ c.single_to_single i h o;
    singles_differ = c.singles_differ;
  }
