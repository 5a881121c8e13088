-- Whether types are equal can be decided.
use Rattle.std.proofs.Common.{◌≡◌, ℕ, zero, suc, ◌<◌, length, sym, subst, ◌∙◌, inl, inr, get_or, arith}
use Rattle.std.specs.Prelude.{◌↔◌}
use Rattle.std.proofs.lemmas.Bool.{cases_lt, cases_eq}
use Rattle.std.proofs.lemmas.Option.{slice_get_within, slice_get-get_or, get_or_from_slice_get}
use Rattle.walrus_ty.specs.Definition.{Names, names_of, rename}
use Rattle.walrus_ty.specs.Groups.{Section}
use Rattle.walrus_sections.specs.Section.{IndexSpace, index_space, NamesBelowEnds}
use Rattle.walrus_canonical.specs.EqualTypes.{IsMember, IsInGroup, AreShapedAlike, NamesAt, NameAtOnce, AreEqual, equal}
use Rattle.walrus_canonical.proofs.Equality.Definitions.{same_length, names_what_stands}
use Rattle.walrus_canonical.proofs.Equality.EqualTypes.{groups_of, named_of, equal_within}
use Rattle.walrus_canonical.proofs.Equality.Members.{place_once, in_group_or_not, own_member, member_within, member_once, named_outside}
use Rattle.walrus_canonical.proofs.Equality.Decisions.{Decided, some_below, all_below, same_definition_or_not}

pub member_or_not : (s : IndexSpace) (i own q k : ℕ) → IsMember s i own i → Decided (IsMember s i q k)
member_or_not s i own q k o = elim (in_group_or_not s i own k o) [
  | inr outside ↦ inr (λ m. outside (q, m))
  | inl m ↦ elim (cases_eq m.0 q) [
    | inl same ↦ inl (subst (λ (u : ℕ). IsMember s i u k) same m.1)
    | inr other ↦ inr (λ x. other (place_once s i m.0 q k m.1 x))
  ]
]

module _ (first second : Section) where
  abbrev s : IndexSpace
  s = index_space first

  abbrev t : IndexSpace
  t = index_space second

  -- x in the group of i and y in that of j mean the same
  record Agree (i j x y : ℕ) : Type 0 where
    pub inside : (place : ℕ) → IsMember s i place x ↔ IsMember t j place y
    pub outside : (IsInGroup s i x → ⊥) → AreEqual s t x y

  record IsRow (i j k l : ℕ) : Type 0 where
    pub shape : AreShapedAlike (s.definition k) (t.definition l)
    pub names :
        (position x y : ℕ) → NamesAt (s.definition k) position x
        → NamesAt (t.definition l) position y → Agree i j x y

  module _ (i j p q : ℕ) (own_i : IsMember s i p i) (own_j : IsMember t j q j) where
    agree_or_not :
        (x y : ℕ) → ((IsInGroup s i x → ⊥) → Decided (AreEqual s t x y)) → Decided (Agree i j x y)
    agree_or_not x y d = elim (in_group_or_not s i p x own_i) [
      | inl m ↦ elim (in_group_or_not t j q y own_j) [
        | inl n ↦ elim (cases_eq m.0 n.0) [
          | inl same ↦ inl (record {
            inside = λ place. (
              λ a. subst (λ (u : ℕ). IsMember t j u y) (sym same ∙ place_once s i m.0 place x m.1 a) n.1,
              λ a. subst (λ (u : ℕ). IsMember s i u x) (same ∙ place_once t j n.0 place y n.1 a) m.1,
            );
            outside = λ o. absurd (o m);
          })
          | inr other ↦ inr (λ a. other (place_once t j m.0 n.0 y ((a.inside m.0).0 m.1) n.1))
        ]
        | inr out ↦ inr (λ a. out (m.0, (a.inside m.0).0 m.1))
      ]
      | inr out ↦ elim (in_group_or_not t j q y own_j) [
        | inl n ↦ inr (λ a. out (n.0, (a.inside n.0).1 n.1))
        | inr out_too ↦ elim (d out) [
          | inl e ↦ inl (record {
            inside = λ place. (λ a. absurd (out (place, a)), λ a. absurd (out_too (place, a)));
            outside = λ o. e;
          })
          | inr not_so ↦ inr (λ a. not_so (a.outside out))
        ]
      ]
    ]

    abbrev AgreeAt : ℕ → ℕ → ℕ → Type 0
    AgreeAt k l position =
        Agree i j (get_or (names_of (s.definition k)) position 0)
        (get_or (names_of (t.definition l)) position 0)

    row_or_not :
        (k l : ℕ) →
        ((x y : ℕ) → Names (s.definition k) x → (IsInGroup s i x → ⊥) → Decided (AreEqual s t x y)) →
        Decided (IsRow i j k l)
    row_or_not k l d =
        let ns = names_of (s.definition k) in
        let ms = names_of (t.definition l) in
        elim (same_definition_or_not (rename (λ n. 0) (s.definition k)) (rename (λ n. 0) (t.definition l))) [
          | inr not_so ↦ inr (λ r. not_so r.shape)
          | inl shape ↦
              let long = same_length (s.definition k) (t.definition l) shape in
              elim (all_below (length ns) (AgreeAt k l) (λ position h.
              agree_or_not (get_or ns position 0) (get_or ms position 0) (d (get_or ns position 0)
              (get_or ms position 0) (names_what_stands (s.definition k) position (get_or ns position 0)
              (slice_get-get_or ns position 0 h))))) [
                | inl each ↦ inl (record {
                  shape = shape;
                  names = λ position x y at_x at_y.
                      rw (
                        ← get_or_from_slice_get ns position x 0 at_x,
                        ← get_or_from_slice_get ms position y 0 at_y,
                      )
                      (each position (slice_get_within ns position x at_x));
                })
                | inr x ↦ (let low = x.1 in inr (λ r. x.2 (r.names x.0 (get_or ns x.0 0) (get_or ms x.0 0)
                    (slice_get-get_or ns x.0 0 low)
                    (slice_get-get_or ms x.0 0 (omega (arith, low, long))))))
              ]
        ]

    abbrev HasRow : ℕ → Type 0
    HasRow k = (g : IsInGroup s i k) → (l : ℕ) × IsMember t j g.0 l × IsRow i j k l

    has_row_or_not :
        (k : ℕ) →
        ((x y : ℕ) → IsInGroup s i k → Names (s.definition k) x → (IsInGroup s i x → ⊥) →
        Decided (AreEqual s t x y)) → Decided (HasRow k)
    has_row_or_not k d = elim (in_group_or_not s i p k own_i) [
      | inr out ↦ inl (λ g. absurd (out g))
      | inl m ↦ elim (some_below t.count (λ l. IsMember t j m.0 l × IsRow i j k l) (λ l h.
          elim (member_or_not t j q m.0 l own_j) [
            | inr not_so ↦ inr (λ x. not_so x.0)
            | inl n ↦ elim (row_or_not k l (λ x y. d x y m)) [
              | inr not_so ↦ inr (λ x. not_so x.1)
              | inl r ↦ inl (n, r)
            ]
          ])) [
            | inl x ↦ inl (λ g. (
                let same = place_once s i m.0 g.0 k m.1 g.1 in
                (x.0, subst (λ (u : ℕ). IsMember t j u x.0) same x.2.0, x.2.1)))
            | inr none ↦ inr (λ a. (
                let x = a m in none x.0 (member_within second j m.0 x.0 x.1) (x.1, x.2)))
          ]
    ]

    abbrev HasMate : ℕ → Type 0
    HasMate l = (g : IsInGroup t j l) → (k : ℕ) × IsMember s i g.0 k

    has_mate_or_not : (l : ℕ) → Decided (HasMate l)
    has_mate_or_not l = elim (in_group_or_not t j q l own_j) [
      | inr out ↦ inl (λ g. absurd (out g))
      | inl m ↦ elim (some_below s.count (λ k. IsMember s i m.0 k) (λ k h. member_or_not s i p m.0 k own_i)) [
        | inl x ↦ inl (λ g. (
          x.0,
          subst (λ (u : ℕ). IsMember s i u x.0) (place_once t j m.0 g.0 l m.1 g.1) x.2,
        ))
        | inr none ↦ inr (λ a. (let x = a m in none x.0 (member_within first i m.0 x.0 x.1) x.1))
      ]
    ]

    -- these together are equality

    row_names :
        ((k : ℕ) → k < s.count → HasRow k) → (x y : ℕ) → NameAtOnce s t i j x y → Agree i j x y
    row_names rows x y n =
        let r = rows n.k (member_within first i n.place n.k n.first_member) (n.place, n.first_member) in
        let is = member_once second j n.place r.0 n.l r.1 n.second_member in
        r.2.names n.position x y n.first_name
        (subst (λ (u : ℕ). NamesAt (t.definition u) n.position y) (sym is) n.second_name)

    equal_by_rows :
        p ≡ q → ((k : ℕ) → k < s.count → HasRow k) → ((l : ℕ) → l < t.count → HasMate l) →
        AreEqual s t i j
    equal_by_rows same rows mates = equal i j (record {
      own_place = p;
      first_own = own_i;
      second_own = subst (λ (u : ℕ). IsMember t j u j) (sym same) own_j;
      first_places = λ k place m. (
          let r = rows k (member_within first i place k m) (place, m) in (r.0, r.1));
      second_places = λ l place m. mates l (member_within second j place l m) (place, m);
      shapes = λ k l place x y. (
          let r = rows k (member_within first i place k x) (place, x) in
          subst (λ (u : ℕ). AreShapedAlike (s.definition k) (t.definition u))
          (member_once second j place r.0 l r.1 y) r.2.shape);
      inside = λ x y place n. (row_names rows x y n).inside place;
    }) (λ x y n out. (row_names rows x y n).outside out)

    rows_if_equal : AreEqual s t i j → (k : ℕ) → HasRow k
    rows_if_equal e k g =
        let h = groups_of s t i j e in
        let l = h.first_places k g.0 g.1 in (
          l.0,
          l.1,
          record {
            shape = h.shapes k l.0 g.0 g.1 l.1;
            names = λ position x y at_x at_y. (
                let n : NameAtOnce s t i j x y = record {
                  place = g.0;
                  position = position;
                  k = k;
                  l = l.0;
                  first_member = g.1;
                  second_member = l.1;
                  first_name = at_x;
                  second_name = at_y;
                } in record {
                  inside = λ place. h.inside x y place n;
                  outside = named_of s t i j e x y n;
                });
          },
        )

    mates_if_equal : AreEqual s t i j → (l : ℕ) → HasMate l
    mates_if_equal e l g = (groups_of s t i j e).second_places l g.0 g.1

    places_if_equal : AreEqual s t i j → p ≡ q
    places_if_equal e =
        let h = groups_of s t i j e in
        place_once s i p h.own_place i own_i h.first_own ∙ place_once t j h.own_place q j h.second_own own_j

    by_rows :
        ((x y k : ℕ) → IsInGroup s i k → Names (s.definition k) x → (IsInGroup s i x → ⊥) →
        Decided (AreEqual s t x y)) → Decided (AreEqual s t i j)
    by_rows d = elim (cases_eq p q) [
      | inr other ↦ inr (λ e. other (places_if_equal e))
      | inl same ↦ elim (all_below s.count HasRow (λ k h. has_row_or_not k (λ x y. d x y k))) [
        | inr x ↦ inr (λ e. x.2 (rows_if_equal e x.0))
        | inl rows ↦ elim (all_below t.count HasMate (λ l h. has_mate_or_not l)) [
          | inr x ↦ inr (λ e. x.2 (mates_if_equal e x.0))
          | inl mates ↦ inl (equal_by_rows same rows mates)
        ]
      ]
    ]

  decided_below :
      NamesBelowEnds s → (bound i j : ℕ) → i < bound → i < s.count → Decided (AreEqual s t i j)
  decided_below below zero i j low h = absurd (omega (arith, low))
  decided_below below (suc bound) i j low h = elim (cases_lt j t.count) [
    | inr over ↦ inr (λ e. (omega (arith, over, (equal_within first second i j e).1)))
    | inl hj ↦
        let p = own_member s i h in
        let q = own_member t j hj in
        by_rows i j p.0 q.0 p.1 q.1 (λ x y k g names out.
        let less = named_outside first i x below h (k, g, names, out) in
        decided_below below bound x y (omega (arith, less, low)) (omega (arith, less, h)))
  ]

  pub equal_or_not : NamesBelowEnds s → (i j : ℕ) → Decided (AreEqual s t i j)
  equal_or_not below i j = elim (cases_lt i s.count) [
    | inl h ↦ decided_below below (suc i) i j (omega arith) h
    | inr over ↦ inr (λ e. (omega (arith, over, (equal_within first second i j e).0)))
  ]
