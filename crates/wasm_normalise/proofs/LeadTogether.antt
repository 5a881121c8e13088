-- The new indices of two sections with one canonical form lead together: types that are needed and equal
-- get the same ones.
use Rattle.std.proofs.Common.{◌≡◌, ℕ, ◌≤◌, List, Some, sym, subst, ◌∙◌, ap}
use Rattle.walrus_canonical.specs.Listing.{IsListing}
use Rattle.walrus_canonical.proofs.Equality.EqualTypes.{equal_back, equal_over}
use Rattle.walrus_canonical.proofs.Forms.Listings.{new_of, needed_of, needed_within, listed_once, equal_by_new, fewest}
use Rattle.walrus_sections.specs.Section.{IndexSpace, index_space}
use Rattle.walrus_ty.specs.Groups.{Section}
use Rattle.wasm_module.specs.Alike.{LeadTogether}
use Rattle.wasm_module.specs.Renaming.{NewIndices, new_index}
use Rattle.wasm_module.proofs.TreesOfChanges.{HaveBound}
use Rattle.wasm_normalise.specs.AlikeModules.{BelongTogether}

-- the new indices are below the number of types that are listed, which are no more than there were
pub have_bound : (s n : Section) (roots : List ℕ) (m : NewIndices) → IsListing s roots n m →
    HaveBound m (index_space n).count
have_bound s n roots m f = record {
  few = subst (λ k. (index_space n).count ≤ k) (sym f.one_each)
      (fewest s roots n m f s (λ i h. (let p = new_of s roots n m f i h in
      (i, needed_within s roots n m f i h, equal_by_new s roots n m f i i p.0 p.1 p.1))));
  below = f.below;
}

module _ (s t n : Section) (roots others : List ℕ) (m w : NewIndices) (f : IsListing s roots n m)
    (g : IsListing t others n w) where
  abbrev S : IndexSpace
  S = index_space s

  abbrev T : IndexSpace
  T = index_space t

  abbrev N : IndexSpace
  N = index_space n

  go : (i j : ℕ) → BelongTogether s roots t others i j →
      (p : ℕ) × (new_index m i ≡ Some p) × (new_index w j ≡ Some p)
  go i j h =
      let p = new_of s roots n m f i h.0 in
      let q = new_of t others n w g j h.1 in
      let same : p.0 ≡ q.0 = listed_once s roots n m f p.0 q.0
      (equal_over N S N p.0 i q.0 (equal_back S N i p.0 (f.equal i p.0 p.1))
      (equal_over S T N i j q.0 h.2 (g.equal j q.0 q.1))) in
      (p.0, p.1, q.1 ∙ ap (λ (u : ℕ). Some u) (sym same))

  belongs : (i j p : ℕ) → new_index m i ≡ Some p → new_index w j ≡ Some p →
      BelongTogether s roots t others i j
  belongs i j p a b = (
    needed_of s roots n m f i p a,
    needed_of t others n w g j p b,
    equal_over S N T i p j (f.equal i p a) (equal_back T N j p (g.equal j p b)),
  )

  pub lead_together : LeadTogether (BelongTogether s roots t others) m w
  lead_together = record {
    goes = go;
    belong = belongs;
    from_second = λ i p a. g.onto p (f.below i p a);
    from_first = λ j p b. f.onto p (g.below j p b);
  }
