-- Groups that are written in order obey the rule on pairs of groups.
use Rattle.std.proofs.Common.{◌≡◌, ℕ, zero, suc, ◌+◌, ◌<◌, ◌≤◌, List, [], ◌∷◌, map, take, length, refl, sym, ap, subst, ◌∙◌, arith, Some, Bool, true, false, length-append, inl, inr, Contains}
use Rattle.std.specs.List.{slice_get, slice_index}
use Rattle.std.proofs.lemmas.{List.length-map, List.get_or-map, List.Elements.Contains-append_left, List.Elements.Contains-append_right, List.Elements.Contains-append_cases, Option.slice_get_within, Option.slice_get-get_or, Option.get_or_from_slice_get, Bool.cases_lt, Bool.cases_eq}
use Rattle.walrus_ty.specs.{Definition.Definition, Definition.rename, Groups.Section}
use Rattle.walrus_sections.specs.{Section.places_from, Section.index_space, Section.IsFilled, SlotMap.TypeGroup, Refusal.NameUse, Refusal.HasIndexBy, Refusal.IsMissing, Refusal.NamePrecedes, Refusal.IsFirstMissing}
use Rattle.walrus_sections.specs.Emission.{TableView, no_group, group_at, IsMember, IsWritten, WrittenMember, IsInversion, IsWrittenBefore, IsEmission}
use Rattle.walrus_sections.specs.WritingOrders.{ids_in, in_order, written_group, IsWritingOrder}
use Rattle.walrus_sections.specs.MissingNames.{IsMissingIn, IndexPrecedes, IsFirstMissingIn, FirstMissingIs}
use Rattle.walrus_sections.proofs.Emission.IndexOfId as places
use Rattle.walrus_sections.proofs.Emission.IndexOfId.{IsTidy, AllTidy, recs, rec_position_of, home, member_at}
use Rattle.walrus_ty.proofs.Basics.{some_inj}
use Rattle.walrus_sections.proofs.Emission.WrittenMembers.{written_member}

-- members, as places of a list of ids

pub at_member :
    (gs : List TypeGroup) (g u i : ℕ) → IsMember gs g u i → slice_get (group_at gs g).ids u ≡ Some i
at_member gs g u i m = slice_get-get_or (group_at gs g).ids u 0 m.place ∙ ap (λ (n : ℕ). Some n) m.is

in_list :
    (gs : List TypeGroup) (g u i : ℕ) → slice_get (group_at gs g).ids u ≡ Some i → g < length gs
in_list [] g u i h = cc
in_list (w ∷ gs) zero u i h = omega arith
in_list (w ∷ gs) (suc g) u i h = omega (arith, in_list gs g u i h)

pub to_member :
    (gs : List TypeGroup) (g u i : ℕ) → slice_get (group_at gs g).ids u ≡ Some i → IsMember gs g u i
to_member gs g u i h = record {
  group = in_list gs g u i h;
  place = slice_get_within (group_at gs g).ids u i h;
  is = get_or_from_slice_get (group_at gs g).ids u i 0 h;
}

-- what stands before in the list of groups stands before among the ids

start_past :
    (ws : List TypeGroup) (a b u i : ℕ) → a < b → slice_get (group_at ws a).ids u ≡ Some i →
    length (ids_in (take a ws)) + u < length (ids_in (take b ws))
start_past [] a b u i lt h = cc
start_past (w ∷ ws) a zero u i lt h = absurd (omega (arith, lt))
start_past (w ∷ ws) zero (suc b) u i lt h = omega (
  arith,
  slice_get_within w.ids u i h,
  length-append w.ids (ids_in (take b ws)),
)
start_past (w ∷ ws) (suc a) (suc b) u i lt h =
    omega (
      arith,
      start_past ws a b u i (omega (arith, lt)) h,
      length-append w.ids (ids_in (take a ws)),
      length-append w.ids (ids_in (take b ws)),
    )

recs_cons :
    (w : TypeGroup) (ws : List TypeGroup) → w.is_explicit ≡ true → recs (w ∷ ws) ≡ 1 + recs ws
recs_cons w ws e = go w.is_explicit e refl
  where
    go : (b : Bool) → b ≡ true → w.is_explicit ≡ b → recs (w ∷ ws) ≡ 1 + recs ws
    go true e f = rw f refl
    go false e f = cc

recs_past :
    (ws : List TypeGroup) (a b : ℕ) → a < b → (group_at ws a).is_explicit ≡ true →
    recs (take a ws) < recs (take b ws)
recs_past [] a b lt h = cc
recs_past (w ∷ ws) a zero lt h = absurd (omega (arith, lt))
recs_past (w ∷ ws) zero (suc b) lt h = omega (arith, recs_cons w (take b ws) h)
recs_past (w ∷ ws) (suc a) (suc b) lt h = omega (arith, recs_past ws a b (omega (arith, lt)) h)

contains_up :
    (ws : List TypeGroup) (n b v k : ℕ) → b < n → slice_get (group_at ws b).ids v ≡ Some k →
    Contains (ids_in (take n ws)) k
contains_up [] n b v k lt h = cc
contains_up (w ∷ ws) zero b v k lt h = absurd (omega (arith, lt))
contains_up (w ∷ ws) (suc n) zero v k lt h =
    Contains-append_left w.ids (ids_in (take n ws)) k (
      v,
      slice_get_within w.ids v k h,
      get_or_from_slice_get w.ids v k k h,
    )
contains_up (w ∷ ws) (suc n) (suc b) v k lt h =
    Contains-append_right w.ids (ids_in (take n ws)) k (contains_up ws n b v k (omega (arith, lt)) h)

contains_down :
    (ws : List TypeGroup) (n k : ℕ) → Contains (ids_in (take n ws)) k →
    (b : ℕ) × (v : ℕ) × (b < n) × (slice_get (group_at ws b).ids v ≡ Some k)
contains_down [] zero k c = absurd (omega (arith, c.1))
contains_down [] (suc n) k c = absurd (omega (arith, c.1))
contains_down (w ∷ ws) zero k c = absurd (omega (arith, c.1))
contains_down (w ∷ ws) (suc n) k c = elim (Contains-append_cases w.ids (ids_in (take n ws)) k c) [
  | inl x ↦ (0, x.0, omega arith, slice_get-get_or w.ids x.0 k x.1 ∙ ap (λ (m : ℕ). Some m) x.2)
  | inr x ↦ (let r : _ = contains_down ws n k x in (suc r.0, r.1, omega (arith, r.2), r.3))
]

all_tidy : (ws : List TypeGroup) → ((a : ℕ) → a < length ws → IsTidy (group_at ws a)) → AllTidy ws
all_tidy [] each = tt
all_tidy (w ∷ ws) each = (each 0 (omega arith), all_tidy ws (λ a h. each (suc a) (omega (arith, h))))

filled_all :
    (d : ℕ → Definition) (ws : List TypeGroup) → AllTidy ws → IsFilled (map (written_group d) ws)
filled_all d [] tidy = tt
filled_all d (w ∷ ws) tidy = one w.is_explicit w.ids tidy.0.filled (filled_all d ws tidy.1)
  where
    one : (e : Bool) (ids : List ℕ) → 0 < length ids → IsFilled (map (written_group d) ws) →
        IsFilled (written_group d (record { ids = ids; is_explicit = e }) ∷ map (written_group d) ws)
    one false ids some rest = rest
    one true [] some rest = absurd (omega (arith, some))
    one true (i ∷ ids) some rest = rest

module _ (table : TableView) (order : List ℕ) (ord : IsWritingOrder table order) where
  abbrev gs : List TypeGroup
  gs = table.groups

  abbrev definition : ℕ → Definition
  definition = table.definition

  abbrev ws : List TypeGroup
  ws = in_order gs order

  at_place : (a : ℕ) → a < length order → group_at ws a ≡ group_at gs (slice_index order a)
  at_place a below = get_or-map (group_at gs) order a 0 no_group below

  as_many : length ws ≡ length order
  as_many = length-map order (group_at gs)

  -- where a written group stands in the order
  place_of : (g : ℕ) → IsWritten table g → ℕ
  place_of g w = (ord.onto g w).0

  place_below : (g : ℕ) (w : IsWritten table g) → place_of g w < length order
  unfolding place_of
  place_below g w = (ord.onto g w).1

  place_is : (g : ℕ) (w : IsWritten table g) → slice_index order (place_of g w) ≡ g
  unfolding place_of
  place_is g w = (ord.onto g w).2

  group_is : (g : ℕ) (w : IsWritten table g) → group_at ws (place_of g w) ≡ group_at gs g
  group_is g w = at_place (place_of g w) (place_below g w) ∙ ap (group_at gs) (place_is g w)

  member_in : (g u i : ℕ) (w : IsWritten table g) → IsMember gs g u i →
      slice_get (group_at ws (place_of g w)).ids u ≡ Some i
  member_in g u i w m = ap (λ (x : TypeGroup). slice_get x.ids u) (group_is g w) ∙ at_member gs g u i m

  member_from : (a u i : ℕ) → a < length order → slice_get (group_at ws a).ids u ≡ Some i →
      IsMember gs (slice_index order a) u i
  member_from a u i below h = to_member gs (slice_index order a) u i
      (ap (λ (x : TypeGroup). slice_get x.ids u) (sym (at_place a below)) ∙ h)

  stands_both : (g h : ℕ) → IsWrittenBefore table g h → IsWrittenBefore table h g → ⊥
  stands_both g h (inl x) (inl y) = omega (arith, x.0, y.0)
  stands_both g h (inl x) (inr y) = x.1 y.1
  stands_both g h (inr x) (inl y) = y.1 x.1
  stands_both g h (inr x) (inr y) = omega (arith, x.0, y.0)

  stands_self : (g : ℕ) → IsWrittenBefore table g g → ⊥
  stands_self g (inl x) = omega (arith, x.0)
  stands_self g (inr x) = omega (arith, x.0)

  -- the order of places
  before_from : (a b : ℕ) → a < length order → b < length order →
      IsWrittenBefore table (slice_index order a) (slice_index order b) → a < b
  before_from a b in_a in_b s = elim (cases_lt a b) [
    | inl x ↦ x
    | inr x ↦ (elim (cases_eq a b) [
      | inl y ↦ absurd (stands_self (slice_index order b)
          (subst (λ (n : ℕ). IsWrittenBefore table (slice_index order n) (slice_index order b)) y s))
      | inr y ↦ absurd (stands_both (slice_index order a) (slice_index order b) s
          (ord.stands b a (omega (arith, x, y)) in_a))
    ])
  ]

  pub same_from : (a b : ℕ) → a < length order → b < length order →
      slice_index order a ≡ slice_index order b → a ≡ b
  same_from a b in_a in_b e = elim (cases_eq a b) [
    | inl x ↦ x
    | inr x ↦ (elim (cases_lt a b) [
      | inl y ↦ absurd (stands_self (slice_index order b)
          (subst (λ (n : ℕ). IsWrittenBefore table n (slice_index order b)) e
          (ord.stands a b y in_b)))
      | inr y ↦ absurd (stands_self (slice_index order b)
          (subst (λ (n : ℕ). IsWrittenBefore table (slice_index order b) n) e
          (ord.stands b a (omega (arith, x, y)) in_a)))
    ])
  ]

  -- a member of a group in the order, and that the group stands there alone
  pub placed_member : (a u i : ℕ) → slice_get (group_at ws a).ids u ≡ Some i → (a < length order)
      × IsMember gs (slice_index order a) u i × ((b : ℕ) → b < length order →
      slice_index order a ≡ slice_index order b → a ≡ b)
  placed_member a u i h =
      let below : a < length order = omega (arith, in_list ws a u i h, as_many) in
      (below, member_from a u i below h, λ b in_b e. same_from a b below in_b e)

  places_stand : (g h : ℕ) (w : IsWritten table g) (w' : IsWritten table h) →
      IsWrittenBefore table g h → place_of g w < place_of h w'
  places_stand g h w w' s = before_from (place_of g w) (place_of h w') (place_below g w) (place_below h w')
      (rw (place_is g w, place_is h w') s)

  -- names that have no index

  pub has_index : (a k : ℕ) → a < length order → HasIndexBy table (slice_index order a) k →
      Contains (ids_in (take (a + 1) ws)) k
  has_index a k below h =
      let b : ℕ = place_of h.home h.written in
      let le : b < a + 1 = elim h.by [
        | inl e ↦ (let same : b ≡ a = same_from b a (place_below h.home h.written) below
            (place_is h.home h.written ∙ e) in omega (arith, same))
        | inr s ↦ (let lt : b < a = before_from b a (place_below h.home h.written) below
            (subst (λ (n : ℕ). IsWrittenBefore table n (slice_index order a))
            (sym (place_is h.home h.written)) s) in omega (arith, lt))
      ] in
      contains_up ws (a + 1) b h.place k le (member_in h.home h.place k h.written h.member)

  has_index_from : (a k : ℕ) → a < length order → Contains (ids_in (take (a + 1) ws)) k →
      HasIndexBy table (slice_index order a) k
  has_index_from a k below c =
      let r : _ = contains_down ws (a + 1) k c in
      let in_b : r.0 < length order = omega (arith, r.2, below) in
      record {
        home = slice_index order r.0;
        place = r.1;
        written = ord.written r.0 in_b;
        member = member_from r.0 r.1 k in_b r.3;
        by = elim (cases_lt r.0 a) [
          | inl x ↦ inr (ord.stands r.0 a x below)
          | inr x ↦ inl (let e : r.0 ≡ a = omega (arith, x, r.2) in ap (slice_index order) e)
        ];
      }

  -- a name, by the place of its group in the order, and by its group
  abbrev in_the_order : (name : NameUse) → IsWritten table name.group → NameUse
  in_the_order name w = record name { group = place_of name.group w }

  abbrev in_the_table : NameUse → NameUse
  in_the_table name = record name { group = slice_index order name.group }

  missing_in : (name : NameUse) (m : IsMissing table name) →
      IsMissingIn definition ws (in_the_order name m.written)
  missing_in name m = record {
    group = omega (arith, place_below name.group m.written, as_many);
    member = member_in name.group name.place name.id m.written m.member;
    used = m.used;
    missing = λ c. m.missing (subst (λ (n : ℕ). HasIndexBy table n name.named)
        (place_is name.group m.written)
        (has_index_from (place_of name.group m.written) name.named (place_below name.group m.written) c));
  }

  missing_from : (name : NameUse) → IsMissingIn definition ws name → IsMissing table (in_the_table name)
  missing_from name m =
      let below : name.group < length order = omega (arith, m.group, as_many) in
      record {
        written = ord.written name.group below;
        member = member_from name.group name.place name.id below m.member;
        used = m.used;
        missing = λ h. m.missing (has_index name.group name.named below h);
      }

  pub none_missing : ((name : NameUse) → ¬ (IsMissingIn definition ws name)) → (name : NameUse) →
      ¬ (IsMissing table name)
  none_missing none name m = none (in_the_order name m.written) (missing_in name m)

  precedes : (name second : NameUse) (w : IsWritten table name.group) → second.group < length order →
      NamePrecedes table name (in_the_table second) → IndexPrecedes (in_the_order name w) second
  precedes name second w below (inl x) = inl (before_from (place_of name.group w) second.group
      (place_below name.group w) below (subst (λ (n : ℕ).
      IsWrittenBefore table n (slice_index order second.group)) (sym (place_is name.group w)) x))
  precedes name second w below (inr x) = inr (
    same_from (place_of name.group w) second.group (place_below name.group w) below
        (place_is name.group w ∙ x.0),
    x.1,
  )

  first_missing_at : (name : NameUse) → IsFirstMissingIn definition ws name →
      IsFirstMissing table (in_the_table name)
  first_missing_at name f =
      let below : name.group < length order = omega (arith, f.is.group, as_many) in
      record {
        is = missing_from name f.is;
        first = λ other m p. f.first (in_the_order other m.written) (missing_in other m)
            (precedes other name m.written below p);
      }

  pub first_missing : (from to : ℕ) → FirstMissingIs definition ws from to →
      (name : NameUse) × IsFirstMissing table name × (name.id ≡ from) × (name.named ≡ to)
  first_missing from to f = (in_the_table f.0, first_missing_at f.0 f.1, f.2, f.3)

  -- the section

  module _ (single : (g : ℕ) → (group_at gs g).is_explicit ≡ false → length (group_at gs g).ids ≤ 1)
      (m : ℕ → ℕ) (is : (i p : ℕ) → slice_get (ids_in ws) p ≡ Some i → m i ≡ p) where
    abbrev d : ℕ → Definition
    d i = rename m (definition i)

    abbrev n : Section
    n = map (written_group d) ws

    abbrev start : ℕ → ℕ
    start a = length (ids_in (take a ws))

    tidy_at : (a : ℕ) → a < length ws → IsTidy (group_at ws a)
    tidy_at a h =
        let below : a < length order = omega (arith, h, as_many) in
        let w : _ = ord.written a below in
        let some : 0 < length (group_at gs (slice_index order a)).ids = omega (arith, w.2.place) in
        rw (at_place a below) (record {
          filled = some;
          single = λ e.
              (let le : _ = single (slice_index order a) e in omega (arith, some, le));
        })

    tidy : AllTidy ws
    tidy = all_tidy ws tidy_at

    index_at : (a u i : ℕ) → slice_get (group_at ws a).ids u ≡ Some i → m i ≡ start a + u
    index_at a u i h = is i (start a + u) (member_at ws a u i h)

    stands_at : (a u i : ℕ) → slice_get (group_at ws a).ids u ≡ Some i →
        places.Stands (places_from 0 0 n) (start a + u) (d i)
        (rec_position_of (group_at ws a).is_explicit (0 + recs (take a ws)) u)
    stands_at a u i h = places.stands d ws tidy 0 0 a u i h

    -- what stands at the index of a member
    module _ (y : WrittenMember table) where
      abbrev group_place : ℕ
      group_place = place_of y.group y.is_written

      abbrev explicit_as : Bool → Type 0
      explicit_as e = (group_at gs y.group).is_explicit ≡ e

      member_there : slice_get (group_at ws group_place).ids y.place ≡ Some y.id
      member_there = member_in y.group y.place y.id y.is_written y.is_member

      at : m y.id ≡ start group_place + y.place
      at = index_at group_place y.place y.id member_there

      below_at : m y.id < (index_space n).count
      below_at = let s : _ = stands_at group_place y.place y.id member_there in omega (arith, at, s.within)

      same_at : (index_space n).definition (m y.id) ≡ rename m (definition y.id)
      same_at = ap (index_space n).definition at
          ∙ (stands_at group_place y.place y.id member_there).definition

      rec_position_at : (e : Bool) → explicit_as e →
          (index_space n).rec_position (m y.id) ≡ rec_position_of e (0 + recs (take group_place ws)) y.place
      rec_position_at e is_e = ap (index_space n).rec_position at
          ∙ ((stands_at group_place y.place y.id member_there).rec_position
          ∙ ap (λ (b : Bool). rec_position_of b (0 + recs (take group_place ws)) y.place)
          (ap (λ (g : TypeGroup). g.is_explicit) (group_is y.group y.is_written) ∙ is_e))

      explicit_from : (k : ℕ) → (index_space n).rec_position (m y.id) ≡ Some (k, y.place) → explicit_as true
      explicit_from k h = by (group_at gs y.group).is_explicit refl
        where
          by : (e : Bool) → explicit_as e → explicit_as true
          by true f = f
          by false f = let k' : ⊥ = (let z = sym (rec_position_at false f) ∙ h in cc) in absurd k'

      number_from : (k : ℕ) → (index_space n).rec_position (m y.id) ≡ Some (k, y.place) →
          k ≡ 0 + recs (take group_place ws)
      number_from k h = let e : Some (k, y.place) ≡ Some (0 + recs (take group_place ws), y.place) = sym h
          ∙ rec_position_at true (explicit_from k h) in ap (λ (a : ℕ × ℕ). a.0) (some_inj e)

    same_place : (y z : WrittenMember table) → y.group ≡ z.group → group_place y ≡ group_place z
    same_place y z e = same_from (group_place y) (group_place z) (place_below y.group y.is_written)
        (place_below z.group z.is_written) (place_is y.group y.is_written
        ∙ (e ∙ sym (place_is z.group z.is_written)))

    -- of two members, the one whose group stands first has the lesser index
    earlier : (y z : WrittenMember table) → IsWrittenBefore table y.group z.group → m y.id < m z.id
    earlier y z s =
        let lt : group_place y < group_place z = places_stand y.group z.group y.is_written z.is_written s in
        omega (
          arith,
          at y,
          at z,
          start_past ws (group_place y) (group_place z) y.place y.id lt
              (member_there y),
        )

    whole : (y z : WrittenMember table) (k : ℕ) → y.group ≡ z.group → explicit_as y true →
        (index_space n).rec_position (m y.id) ≡ Some (k, y.place) →
        (index_space n).rec_position (m z.id) ≡ Some (k, z.place)
    whole y z k e ex f =
        let ez : explicit_as z true = ap (λ (g : ℕ). (group_at gs g).is_explicit) (sym e) ∙ ex in
        let number : k ≡ 0 + recs (take (group_place z) ws) = number_from y k f
        ∙ ap (λ (a : ℕ). 0 + recs (take a ws)) (same_place y z e) in
        rec_position_at z true ez ∙ ap (λ (a : ℕ). Some (a, z.place)) (sym number)

    recs_in_order : (y z : WrittenMember table) (k l : ℕ) → y.group < z.group →
        (index_space n).rec_position (m y.id) ≡ Some (k, y.place) →
        (index_space n).rec_position (m z.id) ≡ Some (l, z.place) → k < l
    recs_in_order y z k l lt e f =
        let ex : explicit_as y true = explicit_from y k e in
        let not_turned : ¬ (IsInversion table y.group z.group) = λ t.
        (let i = (t.free y.group (omega arith) (omega (arith, lt)) y.place y.id y.is_member).implicit in
        let j = sym ex ∙ i in cc) in
        let a_b : group_place y < group_place z =
        places_stand y.group z.group y.is_written z.is_written (inl (lt, not_turned)) in
        let more : recs (take (group_place y) ws) < recs (take (group_place z) ws) =
        recs_past ws (group_place y) (group_place z) a_b
        (ap (λ (g : TypeGroup). g.is_explicit) (group_is y.group y.is_written) ∙ ex) in
        omega (arith, number_from y k e, number_from z l f, more)

    pub emission : IsEmission table n m
    emission = record {
      below = λ y. below_at y;
      onto = λ p h. (
          let long : p < length (ids_in ws) = omega (arith, h, places.count d ws tidy 0 0) in
          let i : ℕ = slice_index (ids_in ws) p in
          let there : slice_get (ids_in ws) p ≡ Some i = slice_get-get_or (ids_in ws) p 0 long in
          let r : places.Home ws p i = home ws p i there in
          let in_a : r.group < length order = omega (arith, r.within, as_many) in (
            written_member (ord.written r.group in_a) (member_from r.group r.place i in_a r.is),
            is i p there,
          ));
      same = λ y. same_at y;
      filled = filled_all d ws tidy;
      single = λ y e. rec_position_at y false e;
      rec = λ y e. (0 + recs (take (group_place y) ws), rec_position_at y true e);
      whole = whole;
      within = λ y z e lt. omega (arith, at y, at z, ap start (same_place y z e), lt);
      recs = recs_in_order;
      stands = λ y z lt nt. earlier y z (inl (lt, nt));
      inversions = λ y z lt t. earlier z y (inr (lt, t));
    }
