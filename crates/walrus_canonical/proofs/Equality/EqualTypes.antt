-- Equal types: each is equal to itself, both ways round, and over a third one; then so are the
-- types at the same places of their groups, and the types that they name at the same positions.
use Rattle.std.proofs.Common.{◌≡◌, ℕ, zero, suc, ◌<◌, sym, ap, subst, ◌∙◌, inl, inr, arith}
use Rattle.std.proofs.lemmas.Bool.{cases_lt}
use Rattle.walrus_sections.specs.Section.{IndexSpace, index_space, NamesBelowEnds}
use Rattle.walrus_ty.specs.Definition.{Names, rename}
use Rattle.walrus_ty.specs.Groups.{Section}
use Rattle.walrus_canonical.specs.EqualTypes.{IsMember, IsInGroup, NamesAt, NameAtOnce, HaveLikeGroups, AreEqual, equal}
use Rattle.walrus_canonical.proofs.Equality.Definitions.{named_too, named_once, names_what_stands, position_of}
use Rattle.walrus_canonical.proofs.Equality.Members.{mate_from, mate_to, place_once, in_group_or_not, own_member, member_within, member_once, named_outside}

-- names at one position of the definitions at one place
pub at_once :
    {s t : IndexSpace} {i j x y place k l : ℕ} (position : ℕ) → IsMember s i place k →
    IsMember t j place l → NamesAt (s.definition k) position x → NamesAt (t.definition l) position y →
    NameAtOnce s t i j x y
at_once {place = p} {k = a} {l = b} position m n at_x at_y = record {
  place = p;
  position = position;
  k = a;
  l = b;
  first_member = m;
  second_member = n;
  first_name = at_x;
  second_name = at_y;
}

-- ---- what equal types have in common

pub groups_of : (s t : IndexSpace) (i j : ℕ) → AreEqual s t i j → HaveLikeGroups s t i j
groups_of s t _ _ (equal i j g rest) = g

pub named_of :
    (s t : IndexSpace) (i j : ℕ) → AreEqual s t i j → (x y : ℕ) → NameAtOnce s t i j x y →
    (IsInGroup s i x → ⊥) → AreEqual s t x y
named_of s t _ _ (equal i j g rest) = rest

-- ---- each type is equal to itself

module _ (section : Section) where
  abbrev s : IndexSpace
  s = index_space section

  pub same_names : (i x y : ℕ) → NameAtOnce s s i i x y → x ≡ y
  same_names i x y n =
      let is : n.k ≡ n.l = member_once section i n.place n.k n.l n.first_member n.second_member in
      named_once (s.definition n.l) n.position x y
      (subst (λ (u : ℕ). NamesAt (s.definition u) n.position x) is n.first_name) n.second_name

  pub like_itself : (i : ℕ) → i < s.count → HaveLikeGroups s s i i
  like_itself i h = let own = own_member s i h in record {
    own_place = own.0;
    first_own = own.1;
    second_own = own.1;
    first_places = λ k place m. (k, m);
    second_places = λ k place m. (k, m);
    shapes = λ k l place x y.
        ap (λ (u : ℕ). rename (λ n. 0) (s.definition u)) (member_once section i place k l x y);
    inside = λ x y place n. (let is = same_names i x y n in (
      λ m. subst (λ (u : ℕ). IsMember s i place u) is m,
      λ m. subst (λ (u : ℕ). IsMember s i place u) (sym is) m,
    ));
  }

  equal_below :
      NamesBelowEnds s → (bound i : ℕ) → i < bound → i < s.count → AreEqual s s i i
  equal_below below zero i low h = absurd (omega (arith, low))
  equal_below below (suc bound) i low h = equal i i (like_itself i h) (λ x y n outside.
      let is = same_names i x y n in
      let less = named_outside section i x below h (
        n.k,
        (n.place, n.first_member),
        names_what_stands (s.definition n.k) n.position x n.first_name,
        outside,
      ) in
      subst (λ (u : ℕ). AreEqual s s x u) is
      (equal_below below bound x (omega (arith, less, low)) (omega (arith, less, h))))

  pub equal_itself : NamesBelowEnds s → (i : ℕ) → i < s.count → AreEqual s s i i
  equal_itself below i h = equal_below below (suc i) i (omega arith) h

-- ---- both ways round

names_back : (s t : IndexSpace) (i j x y : ℕ) → NameAtOnce s t i j x y → NameAtOnce t s j i y x
names_back s t i j x y n = at_once n.position n.second_member n.first_member n.second_name n.first_name

groups_back : (s t : IndexSpace) (i j : ℕ) → HaveLikeGroups s t i j → HaveLikeGroups t s j i
groups_back s t i j g = record {
  own_place = g.own_place;
  first_own = g.second_own;
  second_own = g.first_own;
  first_places = g.second_places;
  second_places = g.first_places;
  shapes = λ k l place x y. sym (g.shapes l k place y x);
  inside = λ y x place n. (let h = g.inside x y place (names_back t s j i y x n) in (h.1, h.0));
}

pub equal_back : (s t : IndexSpace) (i j : ℕ) → AreEqual s t i j → AreEqual t s j i
equal_back s t _ _ (equal i j g rest) = equal j i (groups_back s t i j g) (λ y x n outside.
    let m = names_back t s j i y x n in
    equal_back s t x y (rest x y m (λ h. outside (h.0, (g.inside x y h.0 m).0 h.1))))

-- ---- over a third one

names_between :
    (s t u : IndexSpace) (i j k x z : ℕ) → HaveLikeGroups s t i j → NameAtOnce s u i k x z →
    (y : ℕ) × NameAtOnce s t i j x y × NameAtOnce t u j k y z
names_between s t u i j k x z g n =
    let l = g.first_places n.k n.place n.first_member in
    let same = g.shapes n.k l.0 n.place n.first_member l.1 in
    let y = named_too (s.definition n.k) (t.definition l.0) n.position x same n.first_name in (
      y.0,
      at_once n.position n.first_member l.1 n.first_name y.1,
      at_once n.position l.1 n.second_member y.1 n.second_name,
    )

groups_over :
    (s t u : IndexSpace) (i j k : ℕ) → HaveLikeGroups s t i j → HaveLikeGroups t u j k →
    HaveLikeGroups s u i k
groups_over s t u i j k g h = record {
  own_place = g.own_place;
  first_own = g.first_own;
  second_own = subst (λ (p : ℕ). IsMember u k p k)
      (place_once t j h.own_place g.own_place j h.first_own g.second_own) h.second_own;
  first_places = λ a place m. (
      let b = g.first_places a place m in h.first_places b.0 place b.1);
  second_places = λ c place m. (
      let b = h.second_places c place m in g.second_places b.0 place b.1);
  shapes = λ a c place x z. (
      let b = g.first_places a place x in
      g.shapes a b.0 place x b.1 ∙ h.shapes b.0 c place b.1 z);
  inside = λ x z place n. (
      let b = names_between s t u i j k x z g n in
      let p = g.inside x b.0 place b.1 in
      let q = h.inside b.0 z place b.2 in
      (λ m. q.0 (p.0 m), λ m. p.1 (q.1 m)));
}

pub equal_over :
    (s t u : IndexSpace) (i j k : ℕ) → AreEqual s t i j → AreEqual t u j k → AreEqual s u i k
equal_over s t u _ _ k (equal i j g rest) e =
    equal i k (groups_over s t u i j k g (groups_of t u j k e)) (λ x z n outside.
    let b = names_between s t u i j k x z g n in
    equal_over s t u x b.0 z (rest x b.0 b.1 outside)
    (named_of t u j k e b.0 z b.2 (λ m. outside (m.0, (g.inside x b.0 m.0 b.1).1 m.1))))

-- ---- the other types of their groups, and what they name

module _ (s t : IndexSpace) (i j place k l : ℕ) (e : AreEqual s t i j) (at_k : IsMember s i place k)
    (at_l : IsMember t j place l) where
  names_to : (x y : ℕ) → NameAtOnce s t k l x y → NameAtOnce s t i j x y
  names_to x y n = at_once n.position (mate_to s i place k n.place n.k at_k n.first_member)
      (mate_to t j place l n.place n.l at_l n.second_member) n.first_name n.second_name

  mates_alike : HaveLikeGroups s t i j → HaveLikeGroups s t k l
  mates_alike g = record {
    own_place = place;
    first_own = mate_from s i place k place k at_k at_k;
    second_own = mate_from t j place l place l at_l at_l;
    first_places = λ a p m. (
        let b = g.first_places a p (mate_to s i place k p a at_k m) in
        (b.0, mate_from t j place l p b.0 at_l b.1));
    second_places = λ b p m. (
        let a = g.second_places b p (mate_to t j place l p b at_l m) in
        (a.0, mate_from s i place k p a.0 at_k a.1));
    shapes = λ a b p x y.
        g.shapes a b p (mate_to s i place k p a at_k x) (mate_to t j place l p b at_l y);
    inside = λ x y p n. (
        let h = g.inside x y p (names_to x y n) in (
          λ m. mate_from t j place l p y at_l (h.0 (mate_to s i place k p x at_k m)),
          λ m. mate_from s i place k p x at_k (h.1 (mate_to t j place l p y at_l m)),
        ));
  }

  pub equal_mates : AreEqual s t k l
  equal_mates = equal k l (mates_alike (groups_of s t i j e)) (λ x y n outside.
      named_of s t i j e x y (names_to x y n) (λ m.
      outside (m.0, mate_from s i place k m.0 x at_k m.1)))

-- types that equal types name at once
pub equal_at_once :
    (s t : IndexSpace) (i j x y : ℕ) → AreEqual s t i j → NameAtOnce s t i j x y → AreEqual s t x y
equal_at_once s t i j x y e n =
    let g = groups_of s t i j e in
    elim (in_group_or_not s i g.own_place x g.first_own) [
      | inl m ↦ equal_mates s t i j m.0 x y e m.1 ((g.inside x y m.0 n).0 m.1)
      | inr outside ↦ named_of s t i j e x y n outside
    ]

pub equal_names :
    (s t : IndexSpace) (i j position x y : ℕ) → AreEqual s t i j →
    NamesAt (s.definition i) position x → NamesAt (t.definition j) position y → AreEqual s t x y
equal_names s t i j position x y e at_x at_y =
    let g = groups_of s t i j e in
    equal_at_once s t i j x y e (at_once position g.first_own g.second_own at_x at_y)

-- what the one group names, the other one names too
pub named_there :
    (s t : IndexSpace) (i j k x : ℕ) → HaveLikeGroups s t i j → IsInGroup s i k →
    Names (s.definition k) x → (y : ℕ) × NameAtOnce s t i j x y
named_there s t i j k x g m names =
    let l = g.first_places k m.0 m.1 in
    let at_x = position_of (s.definition k) x names in
    let y = named_too (s.definition k) (t.definition l.0) at_x.0 x (g.shapes k l.0 m.0 m.1 l.1) at_x.1 in
    (y.0, at_once at_x.0 m.1 l.1 at_x.1 y.1)

-- ---- in sections

pub equal_within :
    (s t : Section) (i j : ℕ) → AreEqual (index_space s) (index_space t) i j →
    (i < (index_space s).count) × (j < (index_space t).count)
equal_within s t i j e = let h = groups_of (index_space s) (index_space t) i j e in (
  member_within s i h.own_place i h.first_own,
  member_within t j h.own_place j h.second_own,
)

-- in a section whose types are apart, equal types are one
pub one_type :
    (n : Section) →
    ((p q : ℕ) → p < q → q < (index_space n).count →
    ¬ (AreEqual (index_space n) (index_space n) p q)) →
    (p q : ℕ) → AreEqual (index_space n) (index_space n) p q → p ≡ q
one_type n apart p q e =
    let N = index_space n in
    let h = equal_within n n p q e in
    elim (cases_lt p q) [
      | inl less ↦ absurd (apart p q less h.1 e)
      | inr over ↦ elim (cases_lt q p) [
        | inl less ↦ absurd (apart q p less h.0 (equal_back N N p q e))
        | inr under ↦ omega (arith, over, under)
      ]
    ]
