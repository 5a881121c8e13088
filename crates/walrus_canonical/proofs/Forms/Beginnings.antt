-- The types of a section are those that it has with further groups behind it.
use Rattle.std.proofs.Common.{◌≡◌, ℕ, zero, suc, ◌<◌, ◌≤◌, List, ◌++◌, length, length-append, sym, ap, subst, ◌∙◌, inl, inr, Some, arith}
use Rattle.std.proofs.lemmas.Bool.{cases_lt}
use Rattle.std.proofs.lemmas.List.{get_or_append_left}
use Rattle.walrus_ty.specs.Definition.{Definition, Names, rename}
use Rattle.walrus_ty.specs.Groups.{Section}
use Rattle.walrus_sections.specs.Section.{IndexSpace, Place, no_place, places_from, index_space, NamesBelowEnds}
use Rattle.walrus_sections.proofs.Sections.Lying.{in_or_out}
use Rattle.walrus_sections.proofs.Sections.Rows.{at, laid_out}
use Rattle.walrus_sections.proofs.Sections.Places.{places-append}
use Rattle.walrus_canonical.specs.EqualTypes.{IsMember, alone, in_rec, NamesAt, NameAtOnce, HaveLikeGroups, AreEqual, equal}
use Rattle.walrus_canonical.proofs.Equality.Definitions.{named_once, names_what_stands}
use Rattle.walrus_canonical.proofs.Equality.Members.{only_itself, in_same_rec, own_member, member_within, member_once, named_outside}

module _ (pre more : Section) where
  abbrev P : IndexSpace
  P = index_space pre

  abbrev N : IndexSpace
  N = index_space (pre ++ more)

  same_place :
      (p : ℕ) → p < P.count → at (places_from 0 0 (pre ++ more)) p ≡ at (places_from 0 0 pre) p
  same_place p h =
      let a = places-append 0 0 pre more in
      ap (λ (qs : List Place). at qs p) a.2
      ∙ get_or_append_left (places_from 0 0 pre) (places_from a.0 a.1 more) no_place p h

  pub same_definition : (p : ℕ) → p < P.count → N.definition p ≡ P.definition p
  same_definition p h = ap (λ (x : Place). x.definition) (same_place p h)

  same_rec : (p : ℕ) → p < P.count → N.rec_position p ≡ P.rec_position p
  same_rec p h = ap (λ (x : Place). x.rec_position) (same_place p h)

  pub same_end : (p : ℕ) → p < P.count → N.end p ≡ P.end p
  same_end p h = ap (λ (x : Place). x.end) (same_place p h)

  pub no_fewer : P.count ≤ N.count
  no_fewer =
      let a = places-append 0 0 pre more in
      let long = ap (λ (qs : List Place). length qs) a.2
      ∙ length-append (places_from 0 0 pre) (places_from a.0 a.1 more) in omega (arith, long)

  pub within : (p : ℕ) → p < P.count → p < N.count
  within p h = omega (arith, h, no_fewer)

  mate_low :
      (p k group t u : ℕ) → p < P.count → k < N.count → N.rec_position p ≡ Some (group, t) →
      N.rec_position k ≡ Some (group, u) → k < P.count
  mate_low p k group t u h hk at_p at_k = elim (cases_lt k P.count) [
    | inl low ↦ low
    | inr over ↦
        let l = laid_out (pre ++ more) in
        absurd (elim (l.pair p k (omega (arith, h, over)) hk) [
          | inl a ↦ omega (arith, a.rises (group, t) (group, u) at_p at_k)
          | inr o ↦ omega (arith, o.ends, same_end p h, (laid_out pre).fits p h, l.own k hk, over)
        ])
  ]

  pub member_left : (p place k : ℕ) → p < P.count → IsMember N p place k → IsMember P p place k
  member_left p place k h m = elim (in_or_out (N.rec_position p)) [
    | inl o ↦
        let is = only_itself N p place k o m in
        subst (λ (u : ℕ). IsMember P p u k) (sym is.0)
        (subst (λ (u : ℕ). IsMember P p 0 u) (sym is.1) (alone h (sym (same_rec p h) ∙ o)))
    | inr r ↦
        let at_k = in_same_rec N p r.0.0 r.0.1 place k r.1 m in
        let low = mate_low p k r.0.0 r.0.1 place h (member_within (pre ++ more) p place k m) r.1 at_k in
        in_rec k place r.0.0 r.0.1 (sym (same_rec p h) ∙ r.1) (sym (same_rec k low) ∙ at_k)
  ]

  pub member_right : (p place k : ℕ) → IsMember P p place k → IsMember N p place k
  member_right p _ _ (alone h o) = alone (within p h) (same_rec p h ∙ o)
  member_right p _ _ (in_rec k place group own at_p at_k) =
      let hp = member_within pre p own p (in_rec p own group own at_p at_p) in
      let hk = member_within pre p place k (in_rec k place group own at_p at_k) in
      in_rec k place group own (same_rec p hp ∙ at_p) (same_rec k hk ∙ at_k)

  same_k : (p : ℕ) → p < P.count → (x y : ℕ) (n : NameAtOnce N P p p x y) → n.k ≡ n.l
  same_k p h x y n =
      member_once pre p n.place n.k n.l (member_left p n.place n.k h n.first_member) n.second_member

  old_name :
      (p : ℕ) → p < P.count → (x y : ℕ) (n : NameAtOnce N P p p x y) →
      NamesAt (P.definition n.k) n.position x
  old_name p h x y n =
      let low = member_within pre p n.place n.k (member_left p n.place n.k h n.first_member) in
      subst (λ (d : Definition). NamesAt d n.position x) (same_definition n.k low) n.first_name

  same_names : (p : ℕ) → p < P.count → (x y : ℕ) → NameAtOnce N P p p x y → x ≡ y
  same_names p h x y n = named_once (P.definition n.l) n.position x y
      (subst (λ (u : ℕ). NamesAt (P.definition u) n.position x) (same_k p h x y n) (old_name p h x y n))
      n.second_name

  like_before : (p : ℕ) → p < P.count → HaveLikeGroups N P p p
  like_before p h = let own = own_member P p h in record {
    own_place = own.0;
    first_own = member_right p own.0 p own.1;
    second_own = own.1;
    first_places = λ k place m. (k, member_left p place k h m);
    second_places = λ k place m. (k, member_right p place k m);
    shapes = λ k l place x y. (
        let m = member_left p place k h x in
        let is = member_once pre p place k l m y in
        ap (rename (λ n. 0)) (same_definition k (member_within pre p place k m)
        ∙ ap (λ (u : ℕ). P.definition u) is));
    inside = λ x y place n. (let is = same_names p h x y n in (
      λ m. subst (λ (u : ℕ). IsMember P p place u) is (member_left p place x h m),
      λ m. subst (λ (u : ℕ). IsMember N p place u) (sym is) (member_right p place y m),
    ));
  }

  equal_below : NamesBelowEnds P → (bound p : ℕ) → p < bound → p < P.count → AreEqual N P p p
  equal_below below zero p low h = absurd (omega (arith, low))
  equal_below below (suc bound) p low h = equal p p (like_before p h) (λ x y n outside.
      let is = same_names p h x y n in
      let m = member_left p n.place n.k h n.first_member in
      let less = named_outside pre p x below h (
        n.k,
        (n.place, m),
        names_what_stands (P.definition n.k) n.position x (old_name p h x y n),
        λ g. outside (g.0, member_right p g.0 x g.1),
      ) in
      subst (λ (u : ℕ). AreEqual N P x u) is
      (equal_below below bound x (omega (arith, less, low)) (omega (arith, less, h))))

  pub equal_before : NamesBelowEnds P → (p : ℕ) → p < P.count → AreEqual N P p p
  equal_before below p h = equal_below below (suc p) p (omega arith) h

  pub named_below_before : NamesBelowEnds N → NamesBelowEnds P
  named_below_before below p h k names =
      let z = below p (within p h) k
      (subst (λ (d : Definition). Names d k) (sym (same_definition p h)) names) in
      subst (λ (u : ℕ). k < u) (same_end p h) z
