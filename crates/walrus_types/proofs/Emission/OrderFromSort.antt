-- The order in which groups are sorted is the order in which they are written.
use Rattle.std.proofs.Common.{◌≡◌, ℕ, zero, suc, ◌<◌, ◌≤◌, ◌==◌, ◌||◌, ◌&&◌, List, [], ◌∷◌, length, refl, sym, ap, subst, ◌∙◌, arith, Some, None, Option, IsSome, Bool, true, false, not, get_or, eqb-true, eq-eqb, inl, inr}
use Rattle.std.specs.List.{slice_get, slice_index, list_all, list_any, filter, range_with_len}
use Rattle.std.specs.{List.Sorted.IsPermutation, Option.is_none, Ordering.ordering_then}
use Rattle.std.specs.declared.cmp.Ordering.{Ordering, TheVariants.Less, TheVariants.Equal, TheVariants.Greater}
use Rattle.std.proofs.lemmas.{List.Folds.Any-from_list_any, List.Folds.list_any_at, List.Sums.AllPass-from_list_all, List.Sums.list_all-from_AllPass, List.length-map, Option.slice_get_within, Option.slice_get-get_or, Option.get_or_from_slice_get, Bool.cases_lt}
use Rattle.walrus_arena.specs.Arena.{Slots, get, IsLive}
use Rattle.walrus_types.specs.{declared.table.rec_group.RecGroup.RecGroup, declared.emit.order.PendingGroup.PendingGroup, Steps.PendingGroups.pending_groups, Steps.PendingGroups.places_of, Table.Table, Table.IsTable}
use Rattle.walrus_ty.specs.Definition.{Definition, Names, names_of, definition_cmp}
use Rattle.walrus_ty.specs.{Value.bool_cmp, Types.ModuleType, Types.type_definition}
use Rattle.walrus_sections.specs.{SlotMap.TypeGroup, RunStarts.IsTurnedRound, RunStarts.StandsBefore, WritingOrders.IsWritingOrder, WritingOrders.id_count, Refusal.written_count}
use Rattle.walrus_sections.specs.Emission as emission
use Rattle.walrus_sections.specs.Emission.{TableView, IsMember, IsGrouped, IsWritten, IsFreeGroup, IsInversion, IsWrittenBefore}
use Rattle.walrus_types.specs.Table as table
use Rattle.walrus_types.specs.TableEmission.{type_groups, slot_definition, definition_at, slot_is_entry, is_entry_at, table_view}
use Rattle.walrus_types.specs.Steps.FreeGroups.{is_own_or_dead, slot_names_none_other, is_free_of, is_free_at, head, is_written_at}
use Rattle.walrus_types.proofs.Emission.{SortedGroups.each_written, SortedGroups.moved, SortedGroups.onto_written, WrittenCount.count_of_order}
use Rattle.walrus_ty.proofs.{Orders.Types.type_cmp, Orders.Types.type_is, Basics.some_inj, Basics.then_less}
use Rattle.walrus_sections.proofs.Emission.PairsOfGroups.{at_member, to_member}

-- tests of all and of some elements

all_at :
    {X : Type 0} (p : X → Bool) (xs : List X) (u : ℕ) (x : X) → list_all p xs ≡ true →
    slice_get xs u ≡ Some x → p x ≡ true
all_at p xs u x h at = ap p (sym (get_or_from_slice_get xs u x x at))
    ∙ AllPass-from_list_all p xs h u x (slice_get_within xs u x at)

all_from :
    {X : Type 0} (p : X → Bool) (xs : List X) →
    ((u : ℕ) (x : X) → slice_get xs u ≡ Some x → p x ≡ true) → list_all p xs ≡ true
all_from p xs each = list_all-from_AllPass p xs
    (λ k d lt. each k (get_or xs k d) (slice_get-get_or xs k d lt))

any_at :
    {X : Type 0} (p : X → Bool) (xs : List X) → list_any p xs ≡ true →
    (u : ℕ) × (x : X) × (slice_get xs u ≡ Some x) × (p x ≡ true)
any_at p xs h =
    let a = Any-from_list_any p xs h in
    (a.0, a.1, slice_get-get_or xs a.0 a.1 a.2 ∙ ap (λ x. Some x) a.3, a.4)

any_from :
    {X : Type 0} (p : X → Bool) (xs : List X) (u : ℕ) (x : X) → slice_get xs u ≡ Some x →
    p x ≡ true → list_any p xs ≡ true
any_from p xs u x at h = list_any_at p xs u x (slice_get_within xs u x at)
    (ap p (get_or_from_slice_get xs u x x at) ∙ h)

-- the groups of the table, by ids

ids_at :
    (groups : List RecGroup) (g : ℕ) →
    (emission.group_at (type_groups groups) g).ids ≡ (table.rec_group_at groups g).types
ids_at [] g = refl
ids_at (x ∷ groups) zero = refl
ids_at (x ∷ groups) (suc g) = ids_at groups g

explicit_at :
    (groups : List RecGroup) (g : ℕ) → g < length groups →
    (emission.group_at (type_groups groups) g).is_explicit ≡
    (table.rec_group_at groups g).is_explicit
explicit_at [] g h = absurd (omega (arith, h))
explicit_at (x ∷ groups) zero h = refl
explicit_at (x ∷ groups) (suc g) h = explicit_at groups g (omega (arith, h))

-- a type that names no live type but its own

own_or_dead :
    (slots : Slots ModuleType) (i k : ℕ) → is_own_or_dead slots i k ≡ true → IsLive slots k → k ≡ i
own_or_dead slots i k h live = by (k == i) (get slots k) refl h live
  where
    by : (b : Bool) (o : Option ModuleType) → (k == i) ≡ b → (b || is_none o) ≡ true → IsSome o → k ≡ i
    by true o e f l = eqb-true k i e
    by false None e f l = let z : ⊥ = cc in absurd z
    by false (Some t) e f l = cc

from_own_or_dead :
    (slots : Slots ModuleType) (i k : ℕ) → (IsLive slots k → k ≡ i) →
    is_own_or_dead slots i k ≡ true
from_own_or_dead slots i k h = by (get slots k) h
  where
    by : (o : Option ModuleType) → (IsSome o → k ≡ i) → ((k == i) || is_none o) ≡ true
    by None f = any (k == i)
      where
        any : (b : Bool) → (b || true) ≡ true
        any true = refl
        any false = refl
    by (Some t) f = let e : (k == i) ≡ true = eq-eqb k i (f refl) in rw e refl

no_names :
    (o : Option ModuleType) (slots : Slots ModuleType) (i k : ℕ) →
    slot_names_none_other slots i o ≡ true → Names (slot_definition o) k → IsLive slots k → k ≡ i
no_names None slots i k h n live = absurd (omega (arith, n.1))
no_names (Some t) slots i k h n live = own_or_dead slots i k
    (all_at (is_own_or_dead slots i) (names_of (type_definition t)) n.0 k h
    (slice_get-get_or (names_of (type_definition t)) n.0 k n.1 ∙ ap (λ (m : ℕ). Some m) n.2)) live

from_names :
    (o : Option ModuleType) (slots : Slots ModuleType) (i : ℕ) →
    ((k : ℕ) → Names (slot_definition o) k → IsLive slots k → k ≡ i) →
    slot_names_none_other slots i o ≡ true
from_names None slots i h = refl
from_names (Some t) slots i h = all_from (is_own_or_dead slots i) (names_of (type_definition t)) (λ u k at.
    from_own_or_dead slots i k (λ live. h k (
      u,
      slice_get_within (names_of (type_definition t)) u k at,
      get_or_from_slice_get (names_of (type_definition t)) u k k at,
    ) live))

and_left : (a b : Bool) → (not a && b) ≡ true → a ≡ false
and_left true b h = cc
and_left false b h = refl

and_right : (a b : Bool) → (not a && b) ≡ true → b ≡ true
and_right true b h = cc
and_right false b h = h

-- what a free list of ids says
record IsFreeList (slots : Slots ModuleType) (e : Bool) (ids : List ℕ) (u i : ℕ) : Type 0 where
  pub implicit : e ≡ false
  pub first : u ≡ 0
  pub only : (v j : ℕ) → slice_get ids v ≡ Some j → j ≡ i
  pub own : slot_names_none_other slots i (get slots i) ≡ true

free_list :
    (slots : Slots ModuleType) (e : Bool) (ids : List ℕ) (u i : ℕ) → is_free_of slots e ids ≡ true →
    slice_get ids u ≡ Some i → IsFreeList slots e ids u i
free_list slots e [] u i h at = cc
free_list slots e (j ∷ []) zero i h at =
    let same : j ≡ i = some_inj at in
    record {
      implicit = and_left e (slot_names_none_other slots j (get slots j)) h;
      first = refl;
      only = one;
      own = subst (λ (n : ℕ). slot_names_none_other slots n (get slots n) ≡ true) same
          (and_right e (slot_names_none_other slots j (get slots j)) h);
    }
  where
    one : (v k : ℕ) → slice_get (j ∷ []) v ≡ Some k → k ≡ i
    one zero k f = sym (some_inj f) ∙ some_inj at
    one (suc v) k f = cc
free_list slots e (j ∷ []) (suc u) i h at = cc
free_list slots e (j ∷ k ∷ ids) u i h at = cc

from_free_list :
    (slots : Slots ModuleType) (e : Bool) (ids : List ℕ) →
    ((u i : ℕ) → slice_get ids u ≡ Some i →
    (e ≡ false) × (slot_names_none_other slots i (get slots i) ≡ true)) →
    (e ≡ false → length ids ≤ 1) → is_free_of slots e ids ≡ true
from_free_list slots e [] each single = refl
from_free_list slots e (j ∷ []) each single = let r : _ = each 0 j refl in let f : e ≡ false = r.0 in
    let own : slot_names_none_other slots j (get slots j) ≡ true = r.1 in rw (f, own) refl
from_free_list slots e (j ∷ k ∷ ids) each single = let le : _ = single (each 0 j refl).0 in
    absurd (omega (arith, le))

then_equal : (a : Ordering) → ordering_then a Equal ≡ Less → a ≡ Less
then_equal Less h = refl
then_equal Equal h = cc
then_equal Greater h = cc

module _ (t : Table) (is : IsTable t) where
  abbrev slots : Slots ModuleType
  slots = t.types.slots

  abbrev groups : List RecGroup
  groups = t.groups

  abbrev gs : List TypeGroup
  gs = type_groups groups

  abbrev def : ℕ → Definition
  def = definition_at slots

  abbrev view : TableView
  view = table_view t

  abbrev entry : ℕ → Bool
  entry = is_entry_at slots

  many : length gs ≡ length groups
  many = length-map groups _

  in_table : (g u i : ℕ) → IsMember gs g u i → table.IsIdAt groups g u i
  in_table g u i m = ap (λ (ids : List ℕ). slice_get ids u) (sym (ids_at groups g)) ∙ at_member gs g u i m

  from_table : (g u i : ℕ) → table.IsIdAt groups g u i → IsMember gs g u i
  from_table g u i m = to_member gs g u i (ap (λ (ids : List ℕ). slice_get ids u) (ids_at groups g) ∙ m)

  pub live_member : (g u i : ℕ) → IsMember gs g u i → IsLive slots i
  live_member g u i m = is.live g u i (in_table g u i m)

  live_grouped : (k : ℕ) → IsGrouped gs k → IsLive slots k
  live_grouped k x = live_member x.0 x.1 k x.2

  grouped_live : (k : ℕ) → IsLive slots k → IsGrouped gs k
  grouped_live k l = let r : _ = is.grouping k l in (r.0, r.1, from_table r.0 r.1 k r.2)

  in_groups : (g u i : ℕ) → IsMember gs g u i → g < length groups
  in_groups g u i m = omega (arith, m.group, many)

  pub single : (g : ℕ) → (emission.group_at gs g).is_explicit ≡ false →
      length (emission.group_at gs g).ids ≤ 1
  single g e = elim (cases_lt g (length groups)) [
    | inl x ↦ (let le : _ = is.single g (sym (explicit_at groups g x) ∙ e) in let same : _ =
        ap length (ids_at groups g) in omega (arith, le, same))
    | inr x ↦ nothing (emission.group_at gs g).ids (λ i h.
        (let m : IsMember gs g 0 i = to_member gs g 0 i h in omega (arith, in_groups g 0 i m, x)))
  ]
    where
      nothing : (ids : List ℕ) → ((i : ℕ) → slice_get ids 0 ≡ Some i → ⊥) → length ids ≤ 1
      nothing [] f = omega arith
      nothing (i ∷ ids) f = absurd (f i refl)

  -- the test for free groups

  abbrev free : ℕ → Bool
  free = is_free_at slots groups

  free_group : (a u i : ℕ) → free a ≡ true → IsMember gs a u i → IsFreeGroup view a
  free_group a u i h m =
      let l : _ = free_list slots (table.rec_group_at groups a).is_explicit
      (table.rec_group_at groups a).types u i h (in_table a u i m) in
      record {
        implicit = explicit_at groups a (in_groups a u i m) ∙ l.implicit;
        own = λ v j mem k n x.
            (let l' : _ = free_list slots (table.rec_group_at groups a).is_explicit
            (table.rec_group_at groups a).types v j h (in_table a v j mem) in
            no_names (get slots j) slots j k l'.own n (live_grouped k x));
      }

  from_free_group : (a : ℕ) → a < length groups → ((u i : ℕ) → IsMember gs a u i → IsFreeGroup view a) →
      free a ≡ true
  from_free_group a below each =
      from_free_list slots (table.rec_group_at groups a).is_explicit (table.rec_group_at groups a).types
      (λ u i at.
      (let m : IsMember gs a u i = from_table a u i at in let f : IsFreeGroup view a = each u i m in (
        sym (explicit_at groups a below) ∙ f.implicit,
        from_names (get slots i) slots i (λ k n live. f.own u i m k n (grouped_live k live)),
      )))
      (is.single a)

  only_member : (a u i v j : ℕ) → free a ≡ true → IsMember gs a u i → IsMember gs a v j → j ≡ i
  only_member a u i v j h m m' =
      (free_list slots (table.rec_group_at groups a).is_explicit (table.rec_group_at groups a).types u i h
      (in_table a u i m)).only v j (in_table a v j m')

  -- the type that stands for a group

  heads_at : (g i : ℕ) (x : ModuleType) → IsMember gs g 0 i → get slots i ≡ Some x →
      head slots (table.rec_group_at groups g) ≡ Some x
  heads_at g i x m at = first (table.rec_group_at groups g).types (in_table g 0 i m)
    where
      first : (ids : List ℕ) → slice_get ids 0 ≡ Some i →
          head slots (record { types = ids; is_explicit = (table.rec_group_at groups g).is_explicit }) ≡ Some
          x
      first [] h = cc
      first (j ∷ ids) h = ap (get slots) (some_inj h) ∙ at

  -- a written group has a first type
  record Headed (g : ℕ) : Type 0 where
    pub id : ℕ
    pub type : ModuleType
    pub member : IsMember gs g 0 id
    pub at : get slots id ≡ Some type

  live_type : (i : ℕ) → IsLive slots i → (x : ModuleType) × (get slots i ≡ Some x)
  live_type i l = by (get slots i) l
    where
      by : (o : Option ModuleType) → IsSome o → (x : ModuleType) × (o ≡ Some x)
      by None h = let z : ⊥ = cc in absurd z
      by (Some x) h = (x, refl)

  headed : (g : ℕ) → IsWritten view g → Headed g
  headed g w =
      let m : IsMember gs g w.0 w.1 = w.2 in
      let i : ℕ = get_or (emission.group_at gs g).ids 0 0 in
      let some : 0 < length (emission.group_at gs g).ids = omega (arith, m.place) in
      let m0 : IsMember gs g 0 i = to_member gs g 0 i (slice_get-get_or (emission.group_at gs g).ids 0 0 some)
      in
      let x : _ = live_type i (live_member g 0 i m0) in
      record { id = i; type = x.0; member = m0; at = x.1 }

  -- a free group that is written has no mark of an entry
  unmarked : (g : ℕ) (w : IsWritten view g) (h : Headed g) → free g ≡ true →
      h.type.is_for_function_entry ≡ false
  unmarked g w h f =
      let same : w.1 ≡ h.id = only_member g 0 h.id w.0 w.1 f h.member w.2 in
      ap slot_is_entry (sym h.at) ∙ (ap entry (sym same) ∙ w.3)

  less_is : (i j : ℕ) (x y : ModuleType) → get slots i ≡ Some x → get slots j ≡ Some y →
      definition_cmp (def j) (def i) ≡ definition_cmp (type_definition y) (type_definition x)
  less_is i j x y at_i at_j = rw (at_i, at_j) refl

  turned_round : (g h : ℕ) (a : Headed g) (b : Headed h) → IsInversion view g h →
      IsTurnedRound type_cmp free g a.type h b.type
  turned_round g h a b tr = record {
    all_free = λ c low high. from_free_group c (omega (arith, high, in_groups h 0 b.id b.member)) (λ u i m.
        tr.free c low high u i m);
    less = type_is b.type a.type ∙ then_less _ _ (sym (less_is a.id b.id a.type b.type a.at b.at)
        ∙ tr.less 0 a.id 0 b.id a.member b.member);
  }

  from_turned_round : (g h : ℕ) (w : IsWritten view g) (w' : IsWritten view h) (a : Headed g)
      (b : Headed h) → g < h → IsTurnedRound type_cmp free g a.type h b.type → IsInversion view g h
  from_turned_round g h w w' a b lt tr =
      let free_g : free g ≡ true = tr.all_free g (omega arith) (omega (arith, lt)) in
      let free_h : free h ≡ true = tr.all_free h (omega (arith, lt)) (omega arith) in
      let ea : a.type.is_for_function_entry ≡ false = unmarked g w a free_g in
      let eb : b.type.is_for_function_entry ≡ false = unmarked h w' b free_h in
      let both : ordering_then (definition_cmp (type_definition b.type) (type_definition a.type)) Equal ≡ Less
      = ap (λ (p : Bool). ordering_then (definition_cmp (type_definition b.type) (type_definition a.type))
      (bool_cmp false p)) (sym ea) ∙ (ap (λ (p : Bool). ordering_then
      (definition_cmp (type_definition b.type) (type_definition a.type))
      (bool_cmp p a.type.is_for_function_entry)) (sym eb) ∙ (sym (type_is b.type a.type) ∙ tr.less)) in
      let less : definition_cmp (def b.id) (def a.id) ≡ Less = less_is a.id b.id a.type b.type a.at b.at
      ∙ then_equal _ both in
      record {
        free = λ c low high u i m. free_group c u i (tr.all_free c low high) m;
        less = λ u i v j m m'.
            (let e : i ≡ a.id = only_member g 0 a.id u i free_g a.member m in
            let f : j ≡ b.id = only_member h 0 b.id v j free_h b.member m' in
            ap (λ (n : ℕ). definition_cmp (def n) (def i)) f
            ∙ (ap (λ (n : ℕ). definition_cmp (def b.id) (def n)) e ∙ less));
      }

  stands_from : (g h : ℕ) (w : IsWritten view g) (w' : IsWritten view h) (a : Headed g) (b : Headed h)
      → StandsBefore type_cmp free g a.type h b.type → IsWrittenBefore view g h
  stands_from g h w w' a b (inl x) = inl (x.0, λ tr. x.1 (turned_round g h a b tr))
  stands_from g h w w' a b (inr x) = inr (x.0, from_turned_round h g w' w b a x.0 x.1)

  -- the test for written groups

  abbrev written : ℕ → Bool
  written = is_written_at slots groups

  is_written_from : (g : ℕ) → written g ≡ true → IsWritten view g
  is_written_from g h =
      let r : _ = any_at (λ i. not (entry i)) (table.rec_group_at groups g).types h in
      (r.0, r.1, from_table g r.0 r.1 r.2, flip (entry r.1) r.3)
    where
      flip : (b : Bool) → not b ≡ true → b ≡ false
      flip true e = cc
      flip false e = refl

  is_written_to : (g : ℕ) → IsWritten view g → written g ≡ true
  is_written_to g w = any_from (λ i. not (entry i)) (table.rec_group_at groups g).types w.0 w.1
      (in_table g w.0 w.1 w.2) (ap not w.3)

  written_tests : (g : ℕ) → written g ≡ list_any (λ i. not (entry i)) (emission.group_at gs g).ids
  written_tests g = ap (list_any (λ i. not (entry i))) (sym (ids_at groups g))

  -- the order, from the groups that are written when they are sorted

  module _ (ps : List PendingGroup) (perm : IsPermutation (pending_groups slots groups (length groups)) ps)
    where
      abbrev order : List ℕ
      order = places_of ps

      written_at : (a : ℕ) → a < length order → IsWritten view (slice_index order a)
      written_at a below = is_written_from (slice_index order a)
          (each_written free written (λ g. head slots (table.rec_group_at groups g)) (length groups) ps perm a
          below)

      onto_at : (g : ℕ) → IsWritten view g → (a : ℕ) × (a < length order) × (slice_index order a ≡ g)
      onto_at g w = onto_written free written (λ g. head slots (table.rec_group_at groups g)) (length groups)
          ps
          perm g (in_groups g w.0 w.1 w.2) (is_written_to g w)

      pub count_from_sort : id_count gs order ≡ written_count entry gs
      count_from_sort =
          let all : IsPermutation (filter written (range_with_len 0 (length groups))) order =
          moved free written (λ g. head slots (table.rec_group_at groups g)) (length groups) ps perm in
          count_of_order entry gs written written_tests order
          (subst (λ (n : ℕ). IsPermutation (filter written (range_with_len 0 n)) order) (sym many) all)

      pub order_from_sort : ((a b : ℕ) → a < b → b < length order → (x y : ModuleType) →
          head slots (table.rec_group_at groups (slice_index order a)) ≡ Some x →
          head slots (table.rec_group_at groups (slice_index order b)) ≡ Some y →
          StandsBefore type_cmp free (slice_index order a) x (slice_index order b) y) →
          IsWritingOrder view order
      order_from_sort sorted = record {
        written = written_at;
        onto = onto_at;
        stands = λ a b less below.
            let g : ℕ = slice_index order a in
            let h : ℕ = slice_index order b in
            let w : IsWritten view g = written_at a (omega (arith, less, below)) in
            let w' : IsWritten view h = written_at b below in
            let x : Headed g = headed g w in
            let y : Headed h = headed h w' in
            stands_from g h w w' x y (sorted a b less below x.type y.type
            (heads_at g x.id x.type x.member x.at)
            (heads_at h y.id y.type y.member y.at));
      }

  pub same_member : (g u h v i : ℕ) → IsMember gs g u i → IsMember gs h v i → (g ≡ h) × (u ≡ v)
  same_member g u h v i m n = is.once g u h v i (in_table g u i m) (in_table h v i n)

pub sorted_from :
    (t : Table) (groups : List RecGroup) → groups ≡ t.groups → (ps qs : List PendingGroup) →
    ps ≡ pending_groups t.types.slots groups (length groups) → IsPermutation ps qs →
    IsPermutation (pending_groups t.types.slots t.groups (length t.groups)) qs
sorted_from t groups same ps qs is perm =
    let all : ps ≡ pending_groups t.types.slots t.groups (length t.groups) = is
    ∙ ap (λ (gs : List RecGroup). pending_groups t.types.slots gs (length gs)) same in
    subst (λ (rs : List PendingGroup). IsPermutation rs qs) all perm
