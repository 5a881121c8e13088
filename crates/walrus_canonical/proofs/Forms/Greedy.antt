-- A greedy listing is the least one.
use Rattle.std.proofs.Common.{◌≡◌, ℕ, ◌+◌, ◌<◌, List, [], ◌∷◌, ◌++◌, append_assoc, append-nil, refl, sym, ap, subst, ◌∙◌, Some, arith}
use Rattle.std.specs.declared.cmp.Ordering.{Ordering}
use Rattle.std.specs.declared.cmp.Ordering.TheVariants.{Less, Equal, Greater}
use Rattle.std.specs.Ordering.{ordering_then}
use Rattle.walrus_ty.specs.Definition.{Definition}
use Rattle.walrus_ty.specs.Groups.{Group, Section}
use Rattle.walrus_sections.specs.Section.{IndexSpace, index_space}
use Rattle.walrus_canonical.specs.EqualTypes.{AreEqual}
use Rattle.walrus_canonical.specs.Listing.{NewIndices, new_index, HasPlainGroups, group_definitions, group_cmp, section_cmp, IsListing, IsCanonical, Covers}
use Rattle.walrus_canonical.specs.Greedy.{IsWrittenAs, CanComeNext, IsGreedy}
use Rattle.walrus_canonical.proofs.Equality.EqualTypes.{equal_back, equal_over, equal_within}
use Rattle.walrus_canonical.proofs.Equality.Members.{named_outside}
use Rattle.walrus_canonical.proofs.Equality.Written.{said_anew, own_written, of_equal}
use Rattle.walrus_canonical.proofs.Forms.Orders.{plain_once}
use Rattle.walrus_canonical.proofs.Forms.Listings.{new_of, needed_of, fewest}
use Rattle.walrus_canonical.proofs.Forms.Beginnings.{equal_before, named_below_before}
use Rattle.walrus_canonical.proofs.Forms.NextGroups.{BeginsAt, begins, plain_right}

-- the group that comes next in a listing can come next
module _ (s : Section) (roots : List ℕ) (pre ys : Section) (w : NewIndices)
    (g : IsListing s roots (pre ++ ys) w) (i : ℕ) (e : new_index w i ≡ Some (index_space pre).count)
    (ds : List Definition) (b : BeginsAt (index_space (pre ++ ys)) (index_space pre).count ds) where
  abbrev S : IndexSpace
  S = index_space s

  abbrev P : IndexSpace
  P = index_space pre

  abbrev O : IndexSpace
  O = index_space (pre ++ ys)

  before : (p : ℕ) → p < P.count → AreEqual O P p p
  before p h = equal_before pre ys (named_below_before pre ys g.well_named.below_ends) p h

  there : AreEqual S O i P.count
  there = g.equal i P.count e

  low_base : P.count < O.count
  low_base = omega (arith, b.inside, b.filled)

  fresh : (p : ℕ) → ¬ (AreEqual S P i p)
  fresh p same =
      let less = (equal_within s pre i p same).1 in
      g.apart p P.count less low_base
      (equal_over O P O p p P.count (before p less)
      (equal_over P S O p i P.count (equal_back S P i p same) there))

  written : IsWrittenAs S P i ds
  written = said_anew S (λ p. P.count + p) _ i ds
      (of_equal S O i P.count there (λ p. P.count + p) (λ x y. y ≡ x) ds (own_written O P.count ds b))
      (λ p. P.count + p) (AreEqual S P) (λ p h. refl) (λ x z o e.
      let low = named_outside (pre ++ ys) P.count e.0 g.well_named.below_ends low_base e.1 in
      subst (λ (u : ℕ). AreEqual S P x u) (sym e.3) (equal_over S O P x e.0 e.0 e.2 (before e.0 low)))

  pub can_come : CanComeNext S roots P i ds
  can_come = record {
    needed = needed_of s roots (pre ++ ys) w g i P.count e;
    fresh = fresh;
    written = written;
  }

-- the rest of a listing is not less than that of a greedy one

first_equal : (o p : Ordering) → ordering_then o p ≡ Less → ¬ (o ≡ Less) → (o ≡ Equal) × (p ≡ Less)
first_equal Less p h k = absurd (k refl)
first_equal Equal p h k = (refl, h)
first_equal Greater p h k = absurd cc

module _ (s n o : Section) (roots : List ℕ) (m w : NewIndices) (f : IsListing s roots n m)
    (g : IsListing s roots o w) (greedy : IsGreedy s roots n) where
  covers : Covers o s roots
  covers i h = let p = new_of s roots o w g i h in (p.0, g.below i p.0 p.1, g.equal i p.0 p.1)

  no_end : (pre : Section) (x : Group) (xs : Section) → n ≡ pre ++ x ∷ xs → ¬ (o ≡ pre ++ [])
  no_end pre x xs is is_too =
      let f' : IsListing s roots (pre ++ x ∷ xs) m = subst (λ (u : Section). IsListing s roots u m) is f in
      let b = begins pre x xs (plain_right pre (x ∷ xs) f'.plain) in
      let more : (index_space pre).count < (index_space n).count =
      subst (λ (u : Section). (index_space pre).count < (index_space u).count) (sym is)
      (omega (arith, b.inside, b.filled)) in
      let same : (index_space o).count ≡ (index_space pre).count =
      ap (λ (u : Section). (index_space u).count) (is_too ∙ append-nil pre) in
      omega (arith, fewest s roots n m f o covers, more, same)

  next_not_less :
      (pre : Section) (x y : Group) (xs ys : Section) → n ≡ pre ++ x ∷ xs → o ≡ pre ++ y ∷ ys →
      ¬ (group_cmp y x ≡ Less)
  next_not_less pre x y xs ys is is_too less =
      let g' : IsListing s roots (pre ++ y ∷ ys) w = subst (λ (u : Section). IsListing s roots u w) is_too g
      in
      let b = begins pre y ys (plain_right pre (y ∷ ys) g'.plain) in
      let low : (index_space pre).count < (index_space (pre ++ y ∷ ys)).count =
      (omega (arith, b.inside, b.filled)) in
      let i = g'.onto (index_space pre).count low in
      greedy pre x xs is i.0 (group_definitions y)
      (can_come s roots pre (y ∷ ys) w g' i.0 i.1 (group_definitions y) b) less

  rest_not_less :
      (pre xs ys : Section) → n ≡ pre ++ xs → o ≡ pre ++ ys → ¬ (section_cmp ys xs ≡ Less)
  rest_not_less pre [] [] is is_too less = absurd cc
  rest_not_less pre (x ∷ xs) [] is is_too less = no_end pre x xs is is_too
  rest_not_less pre [] (y ∷ ys) is is_too less = absurd cc
  rest_not_less pre (x ∷ xs) (y ∷ ys) is is_too less =
      let parts = first_equal (group_cmp y x) (section_cmp ys xs) less
      (next_not_less pre x y xs ys is is_too) in
      let same : y ≡ x = plain_once y x ys xs
      (plain_right pre (y ∷ ys) (subst (λ (u : Section). HasPlainGroups u) is_too g.plain))
      (plain_right pre (x ∷ xs) (subst (λ (u : Section). HasPlainGroups u) is f.plain)) parts.0 in
      rest_not_less (pre ++ x ∷ []) xs ys
      (is ∙ sym (append_assoc pre (x ∷ []) xs))
      (is_too ∙ (ap (λ (u : Group). pre ++ u ∷ ys) same ∙ sym (append_assoc pre (x ∷ []) ys))) parts.1

pub greedy_is_canonical :
    (s : Section) (roots : List ℕ) (n : Section) (m : NewIndices) → IsListing s roots n m →
    IsGreedy s roots n → IsCanonical s roots n m
greedy_is_canonical s roots n m f greedy = record {
  listing = f;
  least = λ o w g. rest_not_less s n o roots m w f g greedy [] n o refl refl;
}
