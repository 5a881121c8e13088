-- Each well-named section has a canonical form, for any indices of it as roots: the beginning that
-- no group can follow.
use Rattle.std.proofs.Common.{◌≡◌, ℕ, zero, suc, ◌+◌, ◌<◌, ◌≤◌, List, [], ◌∷◌, ◌++◌, length, sym, subst, inl, inr, ◌^◌, arith}
use Rattle.walrus_ty.specs.Definition.{Definition}
use Rattle.walrus_ty.specs.Groups.{Group, Section}
use Rattle.walrus_sections.specs.Section.{IndexSpace, index_space, IsWellNamed}
use Rattle.walrus_canonical.specs.EqualTypes.{AreEqual}
use Rattle.walrus_canonical.specs.Listing.{AreIndices, IsNeeded, NewIndices, IsCanonical}
use Rattle.walrus_canonical.specs.Greedy.{CanComeNext, AreLeast, IsBeginning, AreNewIndices, plain_group}
use Rattle.walrus_canonical.proofs.Equality.EqualTypes.{equal_back, equal_over, one_type}
use Rattle.walrus_canonical.proofs.Forms.Counting.{no_more}
use Rattle.walrus_canonical.proofs.Forms.Listings.{new_indices, listing_of}
use Rattle.walrus_canonical.proofs.Needs.DecidedNeeds.{needed_or_not}
use Rattle.walrus_canonical.proofs.Forms.Greedy.{greedy_is_canonical}
use Rattle.walrus_canonical.proofs.Forms.Choice.{Rooted, needed_within, choose, all_found}
use Rattle.walrus_canonical.proofs.Forms.Extension.{longer, more, onto, apart, count_is}

module _ (r : Rooted) where
  abbrev s : Section
  s = r.section

  abbrev S : IndexSpace
  S = index_space r.section

  no_beginning : IsBeginning s r.roots []
  no_beginning = record {
    onto = λ p h. absurd (omega (arith, h));
    apart = λ p q less h e. omega (arith, h);
    plain = tt;
    below_ends = λ p h. absurd (omega (arith, h));
    greedy = λ before g behind is. absurd (not_nil before g behind is);
  }
    where
      not_nil : (before : Section) (g : Group) (behind : Section) → [] ≡ before ++ g ∷ behind → ⊥
      not_nil [] g behind e = cc
      not_nil (x ∷ before) g behind e = cc

  -- a beginning has no more types than the section
  no_longer : (pre : Section) → IsBeginning s r.roots pre → (index_space pre).count ≤ S.count
  no_longer pre b =
      let P = index_space pre in
      no_more P.count S.count (λ p h. (b.onto p h).0) (λ p h. needed_within r (b.onto p h).0 (b.onto p h).1)
      (λ p q h k e. one_type pre b.apart p q (equal_over P S P p (b.onto p h).0 q
      (equal_back S P (b.onto p h).0 p (b.onto p h).2)
      (subst (λ (u : ℕ). AreEqual S P u q) (sym e) (b.onto q k).2)))

  -- a group that can come next fits in
  pub next_fits :
      (pre : Section) → IsBeginning s r.roots pre → (i : ℕ) (ds : List Definition) →
      CanComeNext S r.roots (index_space pre) i ds →
      (index_space pre).count + length ds ≤ S.count
  next_fits pre b i ds can =
      let next = pre ++ plain_group ds ∷ [] in
      let Q = index_space next in
      let on = onto r pre b i ds can in
      let few = no_more Q.count S.count (λ p h. (on p h).0)
      (λ p h. needed_within r (on p h).0 (on p h).1)
      (λ p q h k e. one_type next (apart r pre b i ds can) p q (equal_over Q S Q p (on p h).0 q
      (equal_back S Q (on p h).0 p (on p h).2)
      (subst (λ (u : ℕ). AreEqual S Q u q) (sym e) (on q k).2))) in
      omega (arith, few, count_is r pre b i ds can)

  -- ---- the whole

  pub whole :
      S.count < 2 ^ 32 → (pre : Section) → IsBeginning s r.roots pre → (m : NewIndices) →
      AreNewIndices s r.roots pre m → IsCanonical s r.roots pre m
  whole few pre b m a = greedy_is_canonical s r.roots pre m
      (listing_of s r.roots pre m a b.onto b.apart b.plain (record {
        few = omega (arith, no_longer pre b, few);
        below_ends = b.below_ends;
      })) b.greedy

  -- ---- from the empty beginning to the whole

  canonical_from :
      S.count < 2 ^ 32 → (fuel : ℕ) (pre : Section) → IsBeginning s r.roots pre →
      S.count < (index_space pre).count + fuel →
      (n : Section) × (m : NewIndices) × IsCanonical s r.roots n m
  canonical_from few zero pre b h = absurd (omega (arith, no_longer pre b, h))
  canonical_from few (suc fuel) pre b h = elim (choose r pre b.apart S.count (omega arith)) [
    | inl none ↦
        let m = new_indices s r.roots pre (needed_within r) (needed_or_not s r.roots r.below r.known)
        (all_found r pre b.apart none) in
        (pre, m.0, whole few pre b m.0 m.1)
    | inr c ↦
        let least : AreLeast S r.roots (index_space pre) c.ds = λ j es x.
        c.least j es (needed_within r j x.needed) x in
        canonical_from few fuel (pre ++ plain_group c.ds ∷ []) (longer r pre b c.i c.ds c.next least)
        (omega (arith, more r pre b c.i c.ds c.next, h))
  ]

-- ---- the same of any well-named section

module _ (s : Section) (roots : List ℕ) (w : IsWellNamed s) (known : AreIndices s roots) where
  abbrev r : Rooted
  r = record { section = s; roots = roots; below = w.below_ends; known = known }

  pub canonical_exists : (n : Section) × (m : NewIndices) × IsCanonical s roots n m
  canonical_exists = canonical_from r w.few (suc (index_space s).count) [] (no_beginning r) (omega arith)

  pub begins_empty : IsBeginning s roots []
  begins_empty = no_beginning r

  pub grows :
      (pre : Section) (i : ℕ) (ds : List Definition) → IsBeginning s roots pre →
      CanComeNext (index_space s) roots (index_space pre) i ds →
      AreLeast (index_space s) roots (index_space pre) ds →
      IsBeginning s roots (pre ++ plain_group ds ∷ [])
  grows pre i ds b c least = longer r pre b i ds c least

  pub none_left :
      (pre : Section) → IsBeginning s roots pre →
      ((i : ℕ) (ds : List Definition) → ¬ (CanComeNext (index_space s) roots (index_space pre) i ds)) →
      (j : ℕ) → IsNeeded (index_space s) roots j →
      (p : ℕ) × AreEqual (index_space s) (index_space pre) j p
  none_left pre b none j h = all_found r pre b.apart (λ i ds low c. none i ds c) j h

  pub ends :
      (pre : Section) (m : NewIndices) → IsBeginning s roots pre → AreNewIndices s roots pre m →
      IsCanonical s roots pre m
  ends pre m b a = whole r w.few pre b m a
