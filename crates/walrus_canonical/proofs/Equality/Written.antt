-- The definitions of a group with other numbers for what it names. Equal groups have the same, where
-- numbers are told by what they stand for, and groups with the same are equal.
use Rattle.std.proofs.Common.{◌≡◌, ℕ, zero, suc, ◌+◌, ◌<◌, ◌≤◌, List, [], ◌∷◌, length, map, refl, sym, ap, subst, ◌∙◌, inl, inr, Some, slice_get, get_or, arith}
use Rattle.std.proofs.lemmas.Bool.{cases_lt}
use Rattle.std.proofs.lemmas.List.{length-map, ext_get_or}
use Rattle.std.proofs.lemmas.Option.{same_Some, slice_get_within, slice_get-get_or}
use Rattle.walrus_ty.specs.Definition.{Definition, Names, rename}
use Rattle.walrus_sections.specs.Section.{IndexSpace, no_place}
use Rattle.walrus_canonical.specs.EqualTypes.{IsMember, IsInGroup, AreShapedAlike, NamesAt, NamesOutside, NameAtOnce, HaveLikeGroups, AreEqual, equal}
use Rattle.walrus_canonical.specs.Greedy.{StandsFor, IsWrittenBy}
use Rattle.walrus_canonical.proofs.Equality.Definitions.{named_too, named_once, names_what_stands, position_of, renamed_shape, renamed_name, same_by_names}
use Rattle.walrus_canonical.proofs.Equality.EqualTypes.{at_once, groups_of, named_of}
use Rattle.walrus_canonical.proofs.Equality.Members.{in_group_or_not, mate_from, mate_to}
use Rattle.walrus_canonical.proofs.Forms.NextGroups.{BeginsAt}

pub stands :
    {s : IndexSpace} {i x y place k : ℕ} {ds : List Definition} {d : Definition} (position : ℕ) →
    IsMember s i place k → slice_get ds place ≡ Some d → NamesAt (s.definition k) position x →
    NamesAt d position y → StandsFor s i ds x y
stands {place = p} {k = k} {d = d} position m at old new = record {
  place = p;
  position = position;
  k = k;
  definition = d;
  member = m;
  written = at;
  old_name = old;
  new_name = new;
}

-- ---- what is named from outside of a group

pub outside_first :
    {s t : IndexSpace} {i j x y : ℕ} (n : NameAtOnce s t i j x y) → (IsInGroup s i x → ⊥) →
    NamesOutside s i x
outside_first {s = s} {x = x} n out =
    (n.k, (n.place, n.first_member), names_what_stands (s.definition n.k) n.position x n.first_name, out)

pub outside_second :
    {s t : IndexSpace} {i j x y : ℕ} (n : NameAtOnce s t i j x y) → (IsInGroup t j y → ⊥) →
    NamesOutside t j y
outside_second {t = t} {y = y} n out =
    (n.l, (n.place, n.second_member), names_what_stands (t.definition n.l) n.position y n.second_name, out)

pub outside_stood :
    {s : IndexSpace} {i x y : ℕ} {ds : List Definition} (f : StandsFor s i ds x y) →
    (IsInGroup s i x → ⊥) → NamesOutside s i x
outside_stood {s = s} {x = x} f out =
    (f.k, (f.place, f.member), names_what_stands (s.definition f.k) f.position x f.old_name, out)

renamed_item :
    (g : ℕ → ℕ) (ds : List Definition) (place : ℕ) (e : Definition) →
    slice_get (map (rename g) ds) place ≡ Some e → (d : Definition) × (slice_get ds place ≡ Some d)
    × (e ≡ rename g d)
renamed_item g [] place e at = absurd cc
renamed_item g (d ∷ ds) zero e at = (d, refl, cc)
renamed_item g (d ∷ ds) (suc place) e at = renamed_item g ds place e at

module _ (s : IndexSpace) (inner : ℕ → ℕ) (Outer : ℕ → ℕ → Type 0) (i : ℕ) (ds : List Definition)
    (w : IsWrittenBy s inner Outer i ds) where
  item : (k place : ℕ) → IsMember s i place k → (d : Definition) × (slice_get ds place ≡ Some d)
  item k place m =
      let none = no_place.definition in
      (get_or ds place none, slice_get-get_or ds place none (w.places k place m))

  -- what stands for a name of the group
  pub stands_there :
      (k x : ℕ) → IsInGroup s i k → Names (s.definition k) x → (y : ℕ) × StandsFor s i ds x y
  stands_there k x g names =
      let d = item k g.0 g.1 in
      let at_x = position_of (s.definition k) x names in
      let y = named_too (s.definition k) d.0 at_x.0 x (w.shapes k g.0 d.0 g.1 d.1) at_x.1 in
      (y.0, stands at_x.0 g.1 d.1 at_x.1 y.1)

  -- the name that a number stands for
  pub name_there :
      (place y : ℕ) (d : Definition) → slice_get ds place ≡ Some d → Names d y →
      (x : ℕ) × StandsFor s i ds x y
  name_there place y d at names =
      let k = w.members place (slice_get_within ds place d at) in
      let at_y = position_of d y names in
      let x = named_too d (s.definition k.0) at_y.0 y (sym (w.shapes k.0 place d k.1 at)) at_y.1 in
      (x.0, stands at_y.0 k.1 at x.1 at_y.1)

  -- numbers of which the same can be said in other words
  pub said_anew :
      (inner' : ℕ → ℕ) (Outer' : ℕ → ℕ → Type 0) → ((p : ℕ) → p < length ds → inner p ≡ inner' p) →
      ((x y : ℕ) → NamesOutside s i x → Outer x y → Outer' x y) → IsWrittenBy s inner' Outer' i ds
  said_anew inner' Outer' in_is out_is = record {
    places = w.places;
    members = w.members;
    shapes = w.shapes;
    own = λ x y place f m. w.own x y place f m ∙ in_is place (w.places x place m);
    others = λ x y f out. out_is x y (outside_stood f out) (w.others x y f out);
  }

  -- what stands in the definitions with other numbers
  stands_before :
      (g : ℕ → ℕ) (x z : ℕ) → StandsFor s i (map (rename g) ds) x z →
      (y : ℕ) × StandsFor s i ds x y × (z ≡ g y)
  stands_before g x z f =
      let d = renamed_item g ds f.place f.definition f.written in
      let at_z : NamesAt (rename g d.0) f.position z =
      subst (λ (e : Definition). NamesAt e f.position z) d.2 f.new_name in
      let y = named_too (rename g d.0) d.0 f.position z (sym (renamed_shape g d.0)) at_z in (
        y.0,
        stands f.position f.member d.1 f.old_name y.1,
        renamed_name g d.0 f.position y.0 z y.1 at_z,
      )

  pub numbered_anew :
      (g inner' : ℕ → ℕ) (Outer' : ℕ → ℕ → Type 0) →
      ((p : ℕ) → p < length ds → g (inner p) ≡ inner' p) →
      ((x y : ℕ) → NamesOutside s i x → Outer x y → Outer' x (g y)) →
      IsWrittenBy s inner' Outer' i (map (rename g) ds)
  numbered_anew g inner' Outer' in_is out_is = record {
    places = λ k place m. omega (arith, w.places k place m, long);
    members = λ place low. w.members place (omega (arith, low, long));
    shapes = λ k place d m at. (
        let e = renamed_item g ds place d at in
        subst (λ (u : Definition). AreShapedAlike (s.definition k) u) (sym e.2)
        (w.shapes k place e.0 m e.1 ∙ renamed_shape g e.0));
    own = λ x y place f m. (
        let b = stands_before g x y f in
        b.2 ∙ (ap g (w.own x b.0 place b.1 m) ∙ in_is place (w.places x place m)));
    others = λ x y f out. (
        let b = stands_before g x y f in
        subst (λ (u : ℕ). Outer' x u) (sym b.2)
        (out_is x b.0 (outside_stood f out) (w.others x b.0 b.1 out)));
  }
    where
      long : length (map (rename g) ds) ≡ length ds
      long = length-map ds (rename g)

  -- the same definitions are those of another member
  pub of_mate : (t k : ℕ) → IsMember s i t k → IsWrittenBy s inner Outer k ds
  of_mate t k m = record {
    places = λ x p z. w.places x p (to p x z);
    members = λ p low. (let z = w.members p low in (z.0, back p z.0 z.1));
    shapes = λ x p d z at. w.shapes x p d (to p x z) at;
    own = λ x y p f z. w.own x y p (stood x y f) (to p x z);
    others = λ x y f out. w.others x y (stood x y f) (λ g. out (g.0, back g.0 x g.1));
  }
    where
      to : (p x : ℕ) → IsMember s k p x → IsMember s i p x
      to p x z = mate_to s i t k p x m z

      back : (p x : ℕ) → IsMember s i p x → IsMember s k p x
      back p x z = mate_from s i t k p x m z

      stood : (x y : ℕ) → StandsFor s k ds x y → StandsFor s i ds x y
      stood x y f = stands f.position (to f.place f.k f.member) f.written f.old_name f.new_name

-- the definitions of a group as they are
pub own_written :
    (n : IndexSpace) (b : ℕ) (ds : List Definition) → BeginsAt n b ds →
    IsWrittenBy n (λ p. b + p) (λ x y. y ≡ x) b ds
own_written n b ds g = record {
  places = λ k place m. (g.only place k m).0;
  members = λ place low. (b + place, g.member place low);
  shapes = λ k place d m at. ap (rename (λ u. 0)) (definition_is k place d m at);
  own = λ x y place f m. same x y f ∙ (g.only place x m).1;
  others = λ x y f out. same x y f;
}
  where
    definition_is :
        (k place : ℕ) (d : Definition) → IsMember n b place k → slice_get ds place ≡ Some d →
        n.definition k ≡ d
    definition_is k place d m at =
        let z = g.only place k m in
        ap n.definition z.1
        ∙ same_Some (n.definition (b + place)) d (sym (g.definition place z.0) ∙ at)

    same : (x y : ℕ) → StandsFor n b ds x y → y ≡ x
    same x y f = named_once f.definition f.position y x f.new_name
        (subst (λ (d : Definition). NamesAt d f.position x)
        (definition_is f.k f.place f.definition f.member f.written) f.old_name)

-- ---- the definitions of an equal type

module _ (s t : IndexSpace) (i j : ℕ) (e : AreEqual s t i j) (inner : ℕ → ℕ) (Outer : ℕ → ℕ → Type 0)
    (ds : List Definition) (w : IsWrittenBy t inner Outer j ds) where
  like : HaveLikeGroups s t i j
  like = groups_of s t i j e

  -- what stands for x stands for the name there in the other group
  other_name :
      (x z : ℕ) → StandsFor s i ds x z → (y : ℕ) × StandsFor t j ds y z × NameAtOnce s t i j x y
  other_name x z f =
      let l = like.first_places f.k f.place f.member in
      let shape = like.shapes f.k l.0 f.place f.member l.1 in
      let y = named_too (s.definition f.k) (t.definition l.0) f.position x shape f.old_name in (
        y.0,
        stands f.position l.1 f.written y.1 f.new_name,
        at_once f.position f.member l.1 f.old_name y.1,
      )

  pub of_equal :
      IsWrittenBy s inner (λ x z. (y : ℕ) × NamesOutside t j y × AreEqual s t x y × Outer y z) i ds
  of_equal = record {
    places = λ k p m. (let l = like.first_places k p m in w.places l.0 p l.1);
    members = λ p low. (let l = w.members p low in like.second_places l.0 p l.1);
    shapes = λ k p d m at. (
        let l = like.first_places k p m in like.shapes k l.0 p m l.1 ∙ w.shapes l.0 p d l.1 at);
    own = λ x z p f m. (
        let o = other_name x z f in w.own o.0 z p o.1 ((like.inside x o.0 p o.2).0 m));
    others = λ x z f out. (
        let o = other_name x z f in
        let out_too : IsInGroup t j o.0 → ⊥ = λ g. out (g.0, (like.inside x o.0 g.0 o.2).1 g.1) in (
          o.0,
          outside_stood o.1 out_too,
          named_of s t i j e x o.0 o.2 out,
          w.others o.0 z o.1 out_too,
        ));
  }

-- ---- groups with the same definitions are equal

module _ (s t : IndexSpace) (inner inner' : ℕ → ℕ) (Outer Outer' : ℕ → ℕ → Type 0) (i j place : ℕ)
    (own_i : IsMember s i place i) (own_j : IsMember t j place j) (ds : List Definition)
    (v : IsWrittenBy s inner Outer i ds) (w : IsWrittenBy t inner' Outer' j ds)
    (once : (p q : ℕ) → p < length ds → q < length ds → inner p ≡ inner' q → p ≡ q)
    (first_apart : (x p : ℕ) → NamesOutside s i x → p < length ds → Outer x (inner' p) → ⊥)
    (second_apart : (y p : ℕ) → NamesOutside t j y → p < length ds → Outer' y (inner p) → ⊥)
    (tells : (x y z : ℕ) → NameAtOnce s t i j x y → NamesOutside s i x → NamesOutside t j y →
    Outer x z → Outer' y z → AreEqual s t x y) where
  -- one number stands for both names
  both :
      (x y : ℕ) → NameAtOnce s t i j x y → (z : ℕ) × StandsFor s i ds x z × StandsFor t j ds y z
  both x y n =
      let d = item s inner Outer i ds v n.k n.place n.first_member in
      let shape = v.shapes n.k n.place d.0 n.first_member d.1 in
      let z = named_too (s.definition n.k) d.0 n.position x shape n.first_name in (
        z.0,
        stands n.position n.first_member d.1 n.first_name z.1,
        stands n.position n.second_member d.1 n.second_name z.1,
      )

  goes_in : (x y q : ℕ) → NameAtOnce s t i j x y → IsMember s i q x → IsMember t j q y
  goes_in x y q n m =
      let b = both x y n in
      let is = v.own x b.0 q b.1 m in
      let low = v.places x q m in
      elim (in_group_or_not t j place y own_j) [
        | inl a ↦
            let same = once q a.0 low (w.places y a.0 a.1) (sym is ∙ w.own y b.0 a.0 b.2 a.1) in
            subst (λ (u : ℕ). IsMember t j u y) (sym same) a.1
        | inr out ↦ absurd (second_apart y q (outside_second n out) low
            (subst (λ (u : ℕ). Outer' y u) is (w.others y b.0 b.2 out)))
      ]

  comes_from : (x y q : ℕ) → NameAtOnce s t i j x y → IsMember t j q y → IsMember s i q x
  comes_from x y q n m =
      let b = both x y n in
      let is = w.own y b.0 q b.2 m in
      let low = w.places y q m in
      elim (in_group_or_not s i place x own_i) [
        | inl a ↦
            let same = once a.0 q (v.places x a.0 a.1) low (sym (v.own x b.0 a.0 b.1 a.1) ∙ is) in
            subst (λ (u : ℕ). IsMember s i u x) same a.1
        | inr out ↦ absurd (first_apart x q (outside_first n out) low
            (subst (λ (u : ℕ). Outer x u) is (v.others x b.0 b.1 out)))
      ]

  pub equal_if_one : AreEqual s t i j
  equal_if_one = equal i j (record {
    own_place = place;
    first_own = own_i;
    second_own = own_j;
    first_places = λ k q m. w.members q (v.places k q m);
    second_places = λ l q m. v.members q (w.places l q m);
    shapes = λ k l q x y. (
        let d = item s inner Outer i ds v k q x in
        v.shapes k q d.0 x d.1 ∙ sym (w.shapes l q d.0 y d.1));
    inside = λ x y q n. (goes_in x y q n, comes_from x y q n);
  }) (λ x y n out.
      let b = both x y n in
      let out_too : IsInGroup t j y → ⊥ = λ m. out (m.0, comes_from x y m.0 n m.1) in
      tells x y b.0 n (outside_first n out) (outside_second n out_too) (v.others x b.0 b.1 out)
      (w.others y b.0 b.2 out_too))

-- ---- equal groups have the same definitions

-- a group with a member for each member of another has no fewer definitions
no_fewer :
    (s t : IndexSpace) (inner inner' : ℕ → ℕ) (Outer Outer' : ℕ → ℕ → Type 0) (i j : ℕ)
    (ds es : List Definition) → IsWrittenBy s inner Outer i ds → IsWrittenBy t inner' Outer' j es →
    ((k place : ℕ) → IsMember s i place k → (l : ℕ) × IsMember t j place l) → length ds ≤ length es
no_fewer s t inner inner' Outer Outer' i j ds es v w places = elim (cases_lt (length es) (length ds)) [
  | inr over ↦ over
  | inl less ↦ absurd (
      let k = v.members (length es) less in
      let l = places k.0 (length es) k.1 in
      omega (arith, w.places l.0 (length es) l.1))
]

pub as_many :
    (s t : IndexSpace) (inner inner' : ℕ → ℕ) (Outer Outer' : ℕ → ℕ → Type 0) (i j : ℕ) →
    HaveLikeGroups s t i j → (ds es : List Definition) → IsWrittenBy s inner Outer i ds →
    IsWrittenBy t inner' Outer' j es → length ds ≡ length es
as_many s t inner inner' Outer Outer' i j same ds es v w = omega (
  arith,
  no_fewer s t inner inner' Outer Outer' i j ds es v w same.first_places,
  no_fewer t s inner' inner Outer' Outer j i es ds w v same.second_places,
)

module _ (s t : IndexSpace) (inner inner' : ℕ → ℕ) (Outer Outer' : ℕ → ℕ → Type 0) (i j : ℕ)
    (same : HaveLikeGroups s t i j) (ds es : List Definition) (v : IsWrittenBy s inner Outer i ds)
    (w : IsWrittenBy t inner' Outer' j es)
    (same_inner : (p : ℕ) → p < length ds → inner p ≡ inner' p)
    (same_outer : (x y a b : ℕ) → NameAtOnce s t i j x y → NamesOutside s i x → NamesOutside t j y →
    Outer x a → Outer' y b → a ≡ b) where
  -- the numbers that stand for names at one position are one
  same_number :
      (x y a b : ℕ) → NameAtOnce s t i j x y → StandsFor s i ds x a → StandsFor t j es y b → a ≡ b
  same_number x y a b n left right = elim (in_group_or_not s i same.own_place x same.first_own) [
    | inl m ↦ v.own x a m.0 left m.1 ∙ (same_inner m.0 (v.places x m.0 m.1)
        ∙ sym (w.own y b m.0 right ((same.inside x y m.0 n).0 m.1)))
    | inr out ↦
        let out_too : IsInGroup t j y → ⊥ = λ m. out (m.0, (same.inside x y m.0 n).1 m.1) in
        same_outer x y a b n (outside_first n out) (outside_second n out_too) (v.others x a left out)
        (w.others y b right out_too)
  ]

  same_item :
      (q : ℕ) (c d : Definition) → slice_get ds q ≡ Some c → slice_get es q ≡ Some d → (k : ℕ) →
      IsMember s i q k → c ≡ d
  same_item q c d at_c at_d k m =
      let l = same.first_places k q m in
      let shape_c = v.shapes k q c m at_c in
      let shape_d = w.shapes l.0 q d l.1 at_d in
      same_by_names c d (sym shape_c ∙ (same.shapes k l.0 q m l.1 ∙ shape_d)) (λ position a b at_a at_b.
      let x = named_too c (s.definition k) position a (sym shape_c) at_a in
      let y = named_too d (t.definition l.0) position b (sym shape_d) at_b in
      same_number x.0 y.0 a b (at_once position m l.1 x.1 y.1) (stands position m at_c x.1 at_a)
      (stands position l.1 at_d y.1 at_b))

  pub one_if_equal : ds ≡ es
  one_if_equal =
      let none = no_place.definition in
      let long = as_many s t inner inner' Outer Outer' i j same ds es v w in
      ext_get_or none ds es long (λ q h.
      let k = v.members q h in
      same_item q (get_or ds q none) (get_or es q none) (slice_get-get_or ds q none h)
      (slice_get-get_or es q none (omega (arith, h, long))) k.0 k.1)
