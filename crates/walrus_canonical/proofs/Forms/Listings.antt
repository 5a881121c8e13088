-- Listings: a listing of the needed types has one index for types that are equal, and another one
-- for types that are not.
use Rattle.std.proofs.Common.{◌≡◌, ℕ, ◌<◌, ◌≤◌, List, map, refl, sym, ap, subst, ◌∙◌, inl, inr, Option, Some, None, IsSome, Contains, arith}
use Rattle.std.specs.List.{range_with_len}
use Rattle.std.proofs.lemmas.Option.{same_Some}
use Rattle.std.specs.Prelude.{◌↔◌}
use Rattle.std.proofs.lemmas.List.{ext_get_or}
use Rattle.walrus_ty.specs.Groups.{Section}
use Rattle.walrus_sections.specs.Section.{IndexSpace, index_space, NamesBelowEnds, IsWellNamed}
use Rattle.walrus_sections.proofs.Sections.Lying.{in_or_out}
use Rattle.walrus_sections.proofs.Sections.Rows.{laid_out}
use Rattle.walrus_canonical.specs.EqualTypes.{AreEqual}
use Rattle.walrus_canonical.specs.Listing.{IsNeeded, at_root, by_group, by_name, NewIndices, new_index, HasPlainGroups, IsListing, AreAmong, Covers}
use Rattle.walrus_canonical.specs.Greedy.{AreNewIndices}
use Rattle.walrus_canonical.proofs.Equality.Decisions.{Decided}
use Rattle.walrus_canonical.proofs.Equality.EqualTypes.{equal_back, equal_over, equal_within, one_type}
use Rattle.walrus_canonical.proofs.Equality.Members.{member_within}
use Rattle.walrus_canonical.proofs.Forms.Counting.{no_more}
use Rattle.walrus_canonical.proofs.Forms.Indices.{some_of, is_some_at, index_within, built_length, built_at, built_within}

-- what roots need are indices, where the roots are
pub needed_below :
    (s : Section) (roots : List ℕ) → NamesBelowEnds (index_space s) →
    ((root : ℕ) → Contains roots root → root < (index_space s).count) → (i : ℕ) →
    IsNeeded (index_space s) roots i → i < (index_space s).count
needed_below s roots below known _ (at_root i c) = known i c
needed_below s roots below known _ (by_group mate i h g) = member_within s mate g.0 i g.1
needed_below s roots below known _ (by_name user i h names) =
    let hu = needed_below s roots below known user h in
    omega (arith, below user hu i names, (laid_out s).fits user hu)

-- ---- the new indices of the needed types, where each is equal to one of a section

module _ (s : Section) (roots : List ℕ) (n : Section)
    (within : (i : ℕ) → IsNeeded (index_space s) roots i → i < (index_space s).count)
    (need : (i : ℕ) → Decided (IsNeeded (index_space s) roots i))
    (there : (i : ℕ) → IsNeeded (index_space s) roots i →
    (p : ℕ) × AreEqual (index_space s) (index_space n) i p) where
  abbrev Is : ℕ → ℕ → Type 0
  Is i p = IsNeeded (index_space s) roots i × AreEqual (index_space s) (index_space n) i p

  new_by : (i : ℕ) → Decided (IsNeeded (index_space s) roots i) → Option ℕ
  new_by i (inl h) = Some (there i h).0
  new_by i (inr out) = None

  by_sound : (i p : ℕ) (d : Decided (IsNeeded (index_space s) roots i)) → new_by i d ≡ Some p → Is i p
  unfolding new_by
  by_sound i p (inl h) e = (
    h,
    subst (λ (u : ℕ). AreEqual (index_space s) (index_space n) i u) (same_Some (there i h).0 p e)
        (there i h).1,
  )
  by_sound i p (inr out) e = absurd cc

  by_some :
      (i : ℕ) (d : Decided (IsNeeded (index_space s) roots i)) → IsNeeded (index_space s) roots i →
      IsSome (new_by i d)
  unfolding new_by
  by_some i (inl h) h' = refl
  by_some i (inr out) h' = absurd (out h')

  pub new_indices : (m : NewIndices) × AreNewIndices s roots n m
  new_indices =
      let new : ℕ → Option ℕ = λ i. new_by i (need i) in
      let m = map new (range_with_len 0 (index_space s).count) in
      let sound : (i p : ℕ) → new_index m i ≡ Some p → Is i p = λ i p e.
      by_sound i p (need i) (built_within new (index_space s).count i p e).1 in (
        m,
        record {
          one_each = built_length new (index_space s).count;
          needed = λ i. (
            λ h. (let p = some_of _ h in (sound i p.0 p.1).0),
            λ h. subst IsSome (sym (built_at new (index_space s).count i (within i h)))
                (by_some i (need i) h),
          );
          equal = λ i p e. (sound i p e).1;
        },
      )

-- such a section lists the types, if it has nothing else, and each once
pub listing_of :
    (s : Section) (roots : List ℕ) (n : Section) (m : NewIndices) → AreNewIndices s roots n m →
    ((p : ℕ) → p < (index_space n).count → (i : ℕ) × IsNeeded (index_space s) roots i
    × AreEqual (index_space s) (index_space n) i p) →
    ((p q : ℕ) → p < q → q < (index_space n).count → ¬ (AreEqual (index_space n) (index_space n) p q)) →
    HasPlainGroups n → IsWellNamed n → IsListing s roots n m
listing_of s roots n m a onto apart plain well = record {
  one_each = a.one_each;
  needed = a.needed;
  below = λ i p e. (equal_within s n i p (a.equal i p e)).1;
  onto = λ p h. (
      let S = index_space s in
      let N = index_space n in
      let i = onto p h in
      let q = some_of (new_index m i.0) ((a.needed i.0).1 i.1) in
      let is = one_type n apart q.0 p
      (equal_over N S N q.0 i.0 p (equal_back S N i.0 q.0 (a.equal i.0 q.0 q.1)) i.2) in
      (i.0, q.1 ∙ ap (λ (u : ℕ). Some u) is));
  equal = a.equal;
  apart = apart;
  plain = plain;
  well_named = well;
}

module _ (s : Section) (roots : List ℕ) (n : Section) (m : NewIndices) (f : IsListing s roots n m) where
  abbrev S : IndexSpace
  S = index_space s

  abbrev N : IndexSpace
  N = index_space n

  pub new_of : (i : ℕ) → IsNeeded S roots i → (p : ℕ) × (new_index m i ≡ Some p)
  new_of i h = some_of (new_index m i) ((f.needed i).1 h)

  pub needed_of : (i p : ℕ) → new_index m i ≡ Some p → IsNeeded S roots i
  needed_of i p e = (f.needed i).0 (is_some_at (new_index m i) p e)

  pub needed_within : (i : ℕ) → IsNeeded S roots i → i < S.count
  needed_within i h =
      let p = new_of i h in subst (λ (u : ℕ). i < u) f.one_each (index_within m i p.0 p.1)

  pub needed_if_new : (i : ℕ) → Decided (IsNeeded S roots i)
  needed_if_new i = elim (in_or_out (new_index m i)) [
    | inr p ↦ inl (needed_of i p.0 p.1)
    | inl none ↦ inr (λ h. (let p = new_of i h in let e = sym none ∙ p.1 in cc))
  ]

  -- equal types of the listing are one
  pub listed_once : (p q : ℕ) → AreEqual N N p q → p ≡ q
  listed_once = one_type n f.apart

  -- types that are equal to types of the listing that are equal
  pub equal_listed :
      (i j p q : ℕ) → AreEqual S N i p → AreEqual S N j q → AreEqual S S i j → AreEqual N N p q
  equal_listed i j p q ip jq ij = equal_over N S N p i q (equal_back S N i p ip)
      (equal_over S S N i j q ij jq)

  -- equal types have one new index
  pub new_once :
      (i j p q : ℕ) → new_index m i ≡ Some p → new_index m j ≡ Some q → AreEqual S S i j → p ≡ q
  new_once i j p q ip jq e = listed_once p q
      (equal_listed i j p q (f.equal i p ip) (f.equal j q jq) e)

  -- and types with one new index are equal
  pub equal_by_new :
      (i j p : ℕ) → new_index m i ≡ Some p → new_index m j ≡ Some p → AreEqual S S i j
  equal_by_new i j p ip jp = equal_over S N S i p j (f.equal i p ip) (equal_back S N j p (f.equal j p jp))

  pub sound :
      (i j : ℕ) → IsNeeded S roots i → IsNeeded S roots j →
      (new_index m i ≡ new_index m j) ↔ AreEqual S S i j
  sound i j hi hj =
      let p = new_of i hi in
      let q = new_of j hj in (
        λ e. equal_by_new i j p.0 p.1 (sym e ∙ p.1),
        λ e. p.1 ∙ (ap (λ (u : ℕ). Some u) (new_once i j p.0 q.0 p.1 q.1 e) ∙ sym q.1),
      )

  -- a section that covers the needed types has no fewer entries
  pub fewest : (t : Section) → Covers t s roots → N.count ≤ (index_space t).count
  fewest t c =
      let T = index_space t in
      let old : (p : ℕ) → p < N.count → (i : ℕ) × (new_index m i ≡ Some p) = f.onto in
      let to : (p : ℕ) (h : p < N.count) → (j : ℕ) × (j < T.count) × AreEqual S T (old p h).0 j = λ p h.
      c (old p h).0 (needed_of (old p h).0 p (old p h).1) in
      no_more N.count T.count (λ p h. (to p h).0) (λ p h. (to p h).1) (λ p q h k e.
      listed_once p q (equal_listed (old p h).0 (old q k).0 p q (f.equal (old p h).0 p (old p h).1)
      (f.equal (old q k).0 q (old q k).1)
      (equal_over S T S (old p h).0 (to p h).0 (old q k).0 (to p h).2
      (subst (λ (u : ℕ). AreEqual T S u (old q k).0) (sym e)
      (equal_back S T (old q k).0 (to q k).0 (to q k).2)))))

-- two listings of one section's types that are one section give the same new indices
module _ (s : Section) (roots : List ℕ) (n : Section) (m w : NewIndices) (f : IsListing s roots n m)
    (g : IsListing s roots n w) where
  same_new : (i : ℕ) → new_index m i ≡ new_index w i
  same_new i = elim (in_or_out (new_index m i)) [
    | inl none ↦ elim (in_or_out (new_index w i)) [
      | inl none_too ↦ none ∙ sym none_too
      | inr q ↦ absurd (
          let p = new_of s roots n m f i (needed_of s roots n w g i q.0 q.1) in
          let e = sym none ∙ p.1 in cc)
    ]
    | inr p ↦
        let q = new_of s roots n w g i (needed_of s roots n m f i p.0 p.1) in
        let S = index_space s in
        let N = index_space n in
        let e = equal_over N S N p.0 i q.0 (equal_back S N i p.0 (f.equal i p.0 p.1))
        (g.equal i q.0 q.1) in
        let is = listed_once s roots n m f p.0 q.0 e in
        p.1 ∙ (ap (λ (u : ℕ). Some u) is ∙ sym q.1)
  ]

  pub same_indices : m ≡ w
  same_indices = ext_get_or None m w (f.one_each ∙ sym g.one_each) (λ i h. same_new i)

-- listings that are one section have equal types
pub among_by_listing :
    (s t : Section) (roots others : List ℕ) (n : Section) (m w : NewIndices) →
    IsListing s roots n m → IsListing t others n w → AreAmong s roots t others
among_by_listing s t roots others n m w f g i h =
    let S = index_space s in
    let T = index_space t in
    let N = index_space n in
    let p = new_of s roots n m f i h in
    let j = g.onto p.0 (f.below i p.0 p.1) in (
      j.0,
      needed_of t others n w g j.0 p.0 j.1,
      equal_over S N T i p.0 j.0 (f.equal i p.0 p.1) (equal_back T N j.0 p.0 (g.equal j.0 p.0 j.1)),
    )

-- a listing lists the types of another section, where each needed type of the one is equal to one of
-- the other
pub relisting :
    (s t : Section) (roots others : List ℕ) (n p : Section) (m w : NewIndices) → IsListing s roots n m →
    IsListing t others p w → AreAmong s roots t others → AreAmong t others s roots →
    (v : NewIndices) × IsListing t others n v
relisting s t roots others n p m w f g forth back =
    let S = index_space s in
    let T = index_space t in
    let N = index_space n in
    let v = new_indices t others n (needed_within t others p w g) (needed_if_new t others p w g) (λ j h.
    let i = back j h in
    let q = new_of s roots n m f i.0 i.1 in
    (q.0, equal_over T S N j i.0 q.0 i.2 (f.equal i.0 q.0 q.1))) in (
      v.0,
      listing_of t others n v.0 v.1 (λ q h. (
          let i = f.onto q h in
          let j = forth i.0 (needed_of s roots n m f i.0 q i.1) in
          (j.0, j.1, equal_over T S N j.0 i.0 q (equal_back S T i.0 j.0 j.2) (f.equal i.0 q i.1))))
          f.apart f.plain f.well_named,
    )
