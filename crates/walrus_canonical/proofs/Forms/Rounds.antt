-- A listing of the types of a listing lists the types of the section; and a listing lists its own
-- types, each where it is.
use Rattle.std.proofs.Common.{◌≡◌, ℕ, ◌<◌, List, map, sym, ap, subst, ◌∙◌, Option, Some, Contains}
use Rattle.std.specs.Option.{unwrap_or}
use Rattle.std.proofs.lemmas.Option.{same_Some}
use Rattle.walrus_ty.specs.Groups.{Section}
use Rattle.walrus_sections.specs.Section.{IndexSpace, index_space}
use Rattle.walrus_canonical.specs.EqualTypes.{AreEqual}
use Rattle.walrus_canonical.specs.Listing.{IsNeeded, at_root, NewIndices, new_index, IsListing, all_indices, kept_indices, new_or_zero}
use Rattle.walrus_canonical.proofs.Equality.EqualTypes.{equal_itself, equal_back, equal_over}
use Rattle.walrus_canonical.proofs.Forms.Indices.{contained-map, contained_before, some_of, is_some_at, built_length, built_at, built_within, below_contained, contained_below}
use Rattle.walrus_canonical.proofs.Forms.Listings.{new_of, needed_of, needed_within, needed_below, listed_once, relisting}
use Rattle.walrus_canonical.proofs.Equality.EqualRoots.{among_by_roots}

pub all_needed :
    (s : Section) (i : ℕ) → i < (index_space s).count → IsNeeded (index_space s) (all_indices s) i
all_needed s i h = at_root i (below_contained (index_space s).count i h)

pub all_known : (s : Section) (i : ℕ) → Contains (all_indices s) i → i < (index_space s).count
all_known s i c = contained_below (index_space s).count i c

-- ---- the new indices of the roots

module _ (s n : Section) (roots : List ℕ) (m : NewIndices) (f : IsListing s roots n m) where
  abbrev new_roots : List ℕ
  new_roots = map (new_or_zero m) roots

  root_there :
      (root : ℕ) → Contains roots root →
      (other : ℕ) × Contains new_roots other
      × AreEqual (index_space s) (index_space n) root other
  root_there root c =
      let p = new_of s roots n m f root (at_root root c) in
      let is : new_or_zero m root ≡ p.0 = ap (λ (o : Option ℕ). unwrap_or o 0) p.1 in (
        p.0,
        subst (λ (u : ℕ). Contains new_roots u) is (contained-map (new_or_zero m) roots root c),
        f.equal root p.0 p.1,
      )

  pub new_roots_need : (p : ℕ) → p < (index_space n).count → IsNeeded (index_space n) new_roots p
  new_roots_need p h =
      let i = f.onto p h in
      let j = among_by_roots s n roots new_roots root_there i.0 (needed_of s roots n m f i.0 p i.1) in
      let S = index_space s in
      let N = index_space n in
      let is = listed_once s roots n m f j.0 p
      (equal_over N S N j.0 i.0 p (equal_back S N i.0 j.0 j.2) (f.equal i.0 p i.1)) in
      subst (λ (u : ℕ). IsNeeded N new_roots u) is j.1

  pub new_roots_known : (root : ℕ) → Contains new_roots root → root < (index_space n).count
  new_roots_known root c =
      let x = contained_before (new_or_zero m) roots root c in
      let p = new_of s roots n m f x.0 (at_root x.0 x.1) in
      let is : new_or_zero m x.0 ≡ p.0 = ap (λ (o : Option ℕ). unwrap_or o 0) p.1 in
      subst (λ (u : ℕ). u < (index_space n).count) (sym is ∙ x.2) (f.below x.0 p.0 p.1)

-- ---- one listing after another

pub listing_after :
    (s n o : Section) (roots others : List ℕ) (m w : NewIndices) → IsListing s roots n m →
    IsListing n others o w → ((p : ℕ) → p < (index_space n).count → IsNeeded (index_space n) others p) →
    (v : NewIndices) × IsListing s roots o v
listing_after s n o roots others m w f g all =
    let S = index_space s in
    let N = index_space n in
    relisting n s others roots o n w m g f (λ p h. (
    let i = f.onto p (needed_within n others o w g p h) in
    (i.0, needed_of s roots n m f i.0 p i.1, equal_back S N i.0 p (f.equal i.0 p i.1)))) (λ i h. (
    let p = new_of s roots n m f i h in (p.0, all p.0 (f.below i p.0 p.1), f.equal i p.0 p.1)))

-- ---- a listing of itself

module _ (s n : Section) (roots others : List ℕ) (m : NewIndices) (f : IsListing s roots n m)
    (all : (p : ℕ) → p < (index_space n).count → IsNeeded (index_space n) others p)
    (known : (root : ℕ) → Contains others root → root < (index_space n).count) where
  abbrev M : IndexSpace
  M = index_space n

  kept_at : (i p : ℕ) → new_index (kept_indices n) i ≡ Some p → (i < M.count) × (i ≡ p)
  kept_at i p e =
      let h = built_within (λ i. Some i) M.count i p e in (h.0, same_Some i p h.1)

  kept_is : (i : ℕ) → i < M.count → new_index (kept_indices n) i ≡ Some i
  kept_is i h = built_at (λ i. Some i) M.count i h

  pub listing_itself : IsListing n others n (kept_indices n)
  listing_itself = record {
    one_each = built_length (λ i. Some i) M.count;
    needed = λ i. (
      (λ h. (
          let p = some_of (new_index (kept_indices n) i) h in
          all i (kept_at i p.0 p.1).0)),
      (λ h. (
          let low = needed_below n others f.well_named.below_ends known i h in
          is_some_at (new_index (kept_indices n) i) i (kept_is i low))),
    );
    below = λ i p e. (let h = kept_at i p e in subst (λ (u : ℕ). u < M.count) h.1 h.0);
    onto = λ p h. (p, kept_is p h);
    equal = λ i p e. (
        let h = kept_at i p e in
        subst (λ (u : ℕ). AreEqual M M i u) h.1 (equal_itself n f.well_named.below_ends i h.0));
    apart = f.apart;
    plain = f.plain;
    well_named = f.well_named;
  }
