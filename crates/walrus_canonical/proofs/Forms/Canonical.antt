-- The laws of the canonical form.
use Rattle.std.proofs.Common.{◌≡◌, ℕ, ◌<◌, List, map, Contains, sym, subst}
use Rattle.std.specs.Prelude.{◌↔◌}
use Rattle.walrus_ty.specs.Groups.{Section}
use Rattle.walrus_canonical.specs.Listing.{IsNeeded, NewIndices, IsListing, IsCanonical, AreAmong, all_indices, kept_indices, new_or_zero}
use Rattle.walrus_sections.specs.Section.{index_space}
use Rattle.walrus_canonical.proofs.Forms.Orders.{section_once}
use Rattle.walrus_canonical.proofs.Forms.Listings.{same_indices, among_by_listing, relisting}
use Rattle.walrus_canonical.proofs.Forms.Rounds.{all_needed, all_known, new_roots_need, new_roots_known, listing_after, listing_itself}

pub one_section :
    (s n p : Section) (roots : List ℕ) (m w : NewIndices) → IsCanonical s roots n m →
    IsCanonical s roots p w → n ≡ p
one_section s n p roots m w c d =
    section_once n p c.listing.plain d.listing.plain (d.least n m c.listing) (c.least p w d.listing)

pub one_indices :
    (s n p : Section) (roots : List ℕ) (m w : NewIndices) → IsCanonical s roots n m →
    IsCanonical s roots p w → m ≡ w
one_indices s n p roots m w c d = same_indices s roots n m w c.listing
    (subst (λ (x : Section). IsListing s roots x w) (sym (one_section s n p roots m w c d)) d.listing)

pub complete :
    (s t n p : Section) (roots others : List ℕ) (m w : NewIndices) → IsCanonical s roots n m →
    IsCanonical t others p w → (n ≡ p) ↔ (AreAmong s roots t others × AreAmong t others s roots)
complete s t n p roots others m w c d = (
  (λ e. (
      let g = subst (λ (x : Section). IsListing t others x w) (sym e) d.listing in (
        among_by_listing s t roots others n m w c.listing g,
        among_by_listing t s others roots n w m g c.listing,
      ))),
  (λ h. (
      let x = relisting s t roots others n p m w c.listing d.listing h.0 h.1 in
      let y = relisting t s others roots p n w m d.listing c.listing h.1 h.0 in
      section_once n p c.listing.plain d.listing.plain (d.least n x.0 x.1) (c.least p y.0 y.1))),
)

-- a canonical section stays as it is under all roots that need all of it
round_again :
    (s n : Section) (roots others : List ℕ) (m : NewIndices) → IsCanonical s roots n m →
    ((p : ℕ) → p < (index_space n).count → IsNeeded (index_space n) others p) →
    ((root : ℕ) → Contains others root → root < (index_space n).count) →
    IsCanonical n others n (kept_indices n)
round_again s n roots others m c all known = record {
  listing = listing_itself s n roots others m c.listing all known;
  least = λ o w g. (let v = listing_after s n o roots others m w c.listing g all in c.least o v.0 v.1);
}

pub second_round :
    (s n : Section) (roots : List ℕ) (m : NewIndices) → IsCanonical s roots n m →
    IsCanonical n (all_indices n) n (kept_indices n)
second_round s n roots m c = round_again s n roots (all_indices n) m c (all_needed n) (all_known n)

pub second_pruning :
    (s n : Section) (roots : List ℕ) (m : NewIndices) → IsCanonical s roots n m →
    IsCanonical n (map (new_or_zero m) roots) n (kept_indices n)
second_pruning s n roots m c = round_again s n roots (map (new_or_zero m) roots) m c
    (new_roots_need s n roots m c.listing) (new_roots_known s n roots m c.listing)
