-- A beginning of the canonical form with the least group that can come next is a longer beginning.
use Rattle.std.proofs.Common.{◌≡◌, ℕ, ◌+◌, ◌-◌, ◌<◌, ◌≤◌, List, [], ◌∷◌, ◌++◌, length, refl, sym, ap, subst, ◌∙◌, inl, inr, ◌⊎◌, Some, slice_get, arith}
use Rattle.std.proofs.lemmas.Bool.{cases_lt}
use Rattle.std.specs.declared.cmp.Ordering.TheVariants.{Less}
use Rattle.std.specs.Cmp.Lexicographic.{slice_cmp}
use Rattle.walrus_ty.specs.Definition.{Definition, Names, definition_cmp}
use Rattle.walrus_ty.specs.Groups.{Group, Section}
use Rattle.walrus_sections.specs.Section.{IndexSpace, index_space, NamesBelowEnds}
use Rattle.walrus_sections.proofs.Sections.Rows.{laid_out}
use Rattle.walrus_canonical.specs.EqualTypes.{IsMember, AreEqual}
use Rattle.walrus_canonical.specs.Listing.{IsNeeded, by_group, group_definitions}
use Rattle.walrus_canonical.specs.Greedy.{IsWrittenBy, CanComeNext, AreLeast, IsGreedy, IsBeginning, plain_group}
use Rattle.walrus_canonical.proofs.Equality.EqualTypes.{groups_of, equal_back, equal_over, equal_mates, equal_within}
use Rattle.walrus_canonical.proofs.Equality.Written.{of_mate, own_written, equal_if_one, name_there}
use Rattle.walrus_canonical.proofs.Equality.Members.{place_once, in_group_or_not, own_member, mate_from, member_end}
use Rattle.walrus_canonical.proofs.Forms.Orders.{plain_definitions, plain_if_filled}
use Rattle.walrus_canonical.proofs.Forms.Beginnings.{same_definition, same_end, equal_before}
use Rattle.walrus_canonical.proofs.Forms.NextGroups.{BeginsAt, begins_filled, plain_append, one_group_more}
use Rattle.walrus_canonical.proofs.Forms.Choice.{Rooted, needed_within}

-- where a list with one more item is cut
last_cut :
    (pre before behind : Section) (g x : Group) → pre ++ g ∷ [] ≡ before ++ x ∷ behind →
    ((pre ≡ before) × (g ≡ x)) ⊎ ((rest : Section) × (pre ≡ before ++ x ∷ rest))
last_cut [] [] behind g x e = inl (refl, (let z : g ≡ x = cc in z))
last_cut [] (b ∷ []) behind g x e = absurd cc
last_cut [] (b ∷ c ∷ before) behind g x e = absurd cc
last_cut (p ∷ pre) [] behind g x e = inr (
  pre,
  (let z : p ≡ x = cc in ap (λ (u : Group). u ∷ pre) z),
)
last_cut (p ∷ pre) (b ∷ before) behind g x e =
    let first : p ≡ b = cc in
    let rest : pre ++ g ∷ [] ≡ before ++ x ∷ behind = cc in
    elim (last_cut pre before behind g x rest) [
      | inl z ↦ (let z0 = z.0 in inl (cc, z.1))
      | inr z ↦ (let z1 = z.1 in inr (z.0, cc))
    ]

module _ (r : Rooted) (pre : Section) (b : IsBeginning r.section r.roots pre) (i : ℕ) (ds : List Definition)
    (can : CanComeNext (index_space r.section) r.roots (index_space pre) i ds) where
  abbrev S : IndexSpace
  S = index_space r.section

  abbrev P : IndexSpace
  P = index_space pre

  abbrev c : ℕ
  c = P.count

  abbrev g : Group
  g = plain_group ds

  abbrev next : Section
  next = pre ++ g ∷ []

  abbrev Q : IndexSpace
  Q = index_space next

  own : (p : ℕ) × IsMember S i p i
  own = own_member S i (needed_within r i can.needed)

  low : own.0 < length ds
  low = can.written.places i own.0 own.1

  filled : 0 < length ds
  filled = omega (arith, low)

  pub begin : BeginsAt Q c ds
  begin = subst (λ (es : List Definition). BeginsAt Q c es) (plain_definitions ds)
      (begins_filled pre g [] (subst (λ (es : List Definition). 0 < length es) (sym (plain_definitions ds))
      filled))

  pub count_is : Q.count ≡ c + length ds
  count_is = one_group_more pre g ∙ ap (λ (es : List Definition). c + length es) (plain_definitions ds)

  old : (p : ℕ) → p < c → AreEqual Q P p p
  old p h = equal_before pre (g ∷ []) b.below_ends p h

  pub old_back : (p : ℕ) → p < c → AreEqual P Q p p
  old_back p h = equal_back Q P p p (old p h)

  -- ---- the new group is that of i

  J : ℕ
  J = c + own.0

  at_J : IsMember Q c own.0 J
  unfolding J
  at_J = begin.member own.0 low

  to_J : (q l : ℕ) → IsMember Q c q l → IsMember Q J q l
  to_J q l m = mate_from Q c own.0 J q l at_J m

  new_written : IsWrittenBy Q (λ p. c + p) (λ x y. y ≡ x) J ds
  new_written = of_mate Q (λ p. c + p) (λ x y. y ≡ x) c ds (own_written Q c ds begin) own.0 J at_J

  new_equal : AreEqual S Q i J
  new_equal = equal_if_one S Q (λ p. c + p) (λ p. c + p) (AreEqual S P) (λ x y. y ≡ x) i J own.0 own.1
      (to_J own.0 J at_J) ds can.written new_written (λ p q h k e. omega (arith, e))
      (λ x p o h e. omega (arith, (equal_within r.section pre x (c + p) e).1))
      (λ y p o h e. o.3 (p, subst (λ (u : ℕ). IsMember Q J p u) e (to_J p (c + p) (begin.member p h))))
      (λ x y z n o u old is. equal_over S P Q x z y old
      (subst (λ (v : ℕ). AreEqual P Q z v) is (old_back z (equal_within r.section pre x z old).1)))

  pub member_equal : (k t : ℕ) → IsMember S i t k → AreEqual S Q k (c + t)
  member_equal k t m = equal_mates S Q i J t k (c + t) new_equal m
      (to_J t (c + t) (begin.member t (can.written.places k t m)))

  -- a place of the new group, with the type of s that stands there
  pub record NewPlace (p : ℕ) : Type 0 where
    pub t : ℕ
    pub low_t : t < length ds
    pub is : p ≡ c + t
    pub k : ℕ
    pub at : IsMember S i t k
    pub same : AreEqual S Q k p

  pub new_place : (p : ℕ) → c ≤ p → p < Q.count → NewPlace p
  new_place p over h =
      let t = p - c in
      let low_t : t < length ds = omega (arith, over, h, count_is) in
      let is : p ≡ c + t = omega (arith, over) in
      let k = can.written.members t low_t in
      record {
        t = t;
        low_t = low_t;
        is = is;
        k = k.0;
        at = k.1;
        same = subst (λ (u : ℕ). AreEqual S Q k.0 u) (sym is) (member_equal k.0 t k.1);
      }

  -- ---- it is not there yet

  not_old_member : (k t p : ℕ) → IsMember S i t k → AreEqual S P k p → ⊥
  not_old_member k t p m e =
      let back = mate_from S i t k own.0 i m own.1 in
      let l = (groups_of S P k p e).first_places i own.0 back in
      can.fresh l.0 (equal_mates S P k p own.0 i l.0 e back l.1)

  pub apart : (p q : ℕ) → p < q → q < Q.count → AreEqual Q Q p q → ⊥
  apart p q less h e = elim (cases_lt q c) [
    | inl low_q ↦ b.apart p q less low_q
        (equal_over P Q P p p q (old_back p (omega (arith, less, low_q)))
        (equal_over Q Q P p q q e (old q low_q)))
    | inr over_q ↦
        let y = new_place q over_q h in
        elim (cases_lt p c) [
          | inl low_p ↦ not_old_member y.k y.t p y.at
              (equal_over S Q P y.k q p y.same (equal_over Q Q P q p p (equal_back Q Q p q e) (old p low_p)))
          | inr over_p ↦
              let x = new_place p over_p (omega (arith, less, h)) in
              let a = groups_of Q Q p q e in
              let px = own_place p x in
              let qy = own_place q y in
              let v = place_once Q q a.own_place y.t q a.second_own qy in
              omega (arith, less, place_once Q p a.own_place x.t p a.first_own px, v, x.is, y.is)
        ]
  ]
    where
      own_place : (p : ℕ) (x : NewPlace p) → IsMember Q p x.t p
      own_place p x =
          let m = subst (λ (u : ℕ). IsMember Q c x.t u) (sym x.is) (begin.member x.t x.low_t) in
          mate_from Q c x.t p x.t p m m

  pub onto : (p : ℕ) → p < Q.count → (j : ℕ) × IsNeeded S r.roots j × AreEqual S Q j p
  onto p h = elim (cases_lt p c) [
    | inl low_p ↦ (let j = b.onto p low_p in (j.0, j.1, equal_over S P Q j.0 p p j.2 (old_back p low_p)))
    | inr over ↦ (let x = new_place p over h in (x.k, by_group i x.k can.needed (x.t, x.at), x.same))
  ]

  -- ---- its names

  new_end : (q : ℕ) → q < length ds → Q.end c ≡ Q.end (c + q)
  new_end q low_q = member_end next c q (c + q) (begin.member q low_q)

  below_new : (p : ℕ) (x : NewPlace p) (k : ℕ) → Names (Q.definition p) k → k < Q.end p
  below_new p x k names =
      let count = count_is in
      let end_p : Q.end c ≡ Q.end p = new_end x.t x.low_t ∙ ap Q.end (sym x.is) in
      let at_p : slice_get ds x.t ≡ Some (Q.definition p) = begin.definition x.t x.low_t
      ∙ ap (λ (u : ℕ). Some (Q.definition u)) (sym x.is) in
      let y = name_there S (λ q. c + q) (AreEqual S P) i ds can.written x.t k (Q.definition p) at_p names in
      elim (in_group_or_not S i own.0 y.0 own.1) [
        | inl m ↦
            let is = can.written.own y.0 k m.0 y.1 m.1 in
            let low_m = can.written.places y.0 m.0 m.1 in
            let own_end = (laid_out next).own (c + m.0) (omega (arith, low_m, count)) in
            omega (arith, is, end_p, new_end m.0 low_m, own_end)
        | inr out ↦
            let less = (equal_within r.section pre y.0 k (can.written.others y.0 k y.1 out)).1 in
            let is = x.is in
            let own_end = (laid_out next).own p (omega (arith, is, x.low_t, count)) in
            omega (arith, less, is, own_end)
      ]

  below_ends : NamesBelowEnds Q
  below_ends p h k names = elim (cases_lt p c) [
    | inl low_p ↦
        let z = b.below_ends p low_p k
        (subst (λ (d : Definition). Names d k) (same_definition pre (g ∷ []) p low_p) names) in
        subst (λ (u : ℕ). k < u) (sym (same_end pre (g ∷ []) p low_p)) z
    | inr over ↦ below_new p (new_place p over h) k names
  ]

  longer_greedy :
      AreLeast S r.roots P ds → IsGreedy r.section r.roots next
  longer_greedy least before x behind is j es next_j less = elim (last_cut pre before behind g x is) [
    | inl z ↦
        let same : group_definitions x ≡ ds = ap group_definitions (sym z.1) ∙ plain_definitions ds in
        least j es
        (subst (λ (u : Section). CanComeNext S r.roots (index_space u) j es) (sym z.0) next_j)
        (subst (λ (u : List Definition). slice_cmp definition_cmp es u ≡ Less) same less)
    | inr z ↦ b.greedy before x z.0 z.1 j es next_j less
  ]

  pub longer :
      AreLeast S r.roots P ds → IsBeginning r.section r.roots next
  longer least = record {
    onto = onto;
    apart = apart;
    plain = plain_append pre (g ∷ []) b.plain (plain_if_filled ds filled);
    below_ends = below_ends;
    greedy = longer_greedy least;
  }

  pub more : c < Q.count
  more = omega (arith, filled, count_is)
