-- Each call keeps a table sound.
use Rattle.std.proofs.Common.{◌≡◌, ℕ, zero, suc, ◌+◌, ◌<◌, List, [], ◌∷◌, ◌++◌, length, refl, sym, ap, subst, ◌∙◌, arith, Some, None, Option, IsSome, set, inl, inr, get_or-set_same, get_or-set_other, append-nil, All, Bool, true, false, nat_eq, is_some, map, if◌then◌else◌, MatchBool, MatchOption}
use Rattle.std.specs.{List.slice_index, List.range_with_len, List.IsDistinct, Option.IsSomeAnd}
use Rattle.std.proofs.lemmas.{List.FromFn.length-map-range_with_len, List.FromFn.get_or-map-range_with_len, Bool.cases_eq, List.length-set, List.length_push}
use Rattle.walrus_arena.specs.{Arena.Slots, Arena.get, Arena.IsLive, HashKeys.InitialHasher}
use Rattle.walrus_types.specs.declared.table.rec_group.RecGroup.{RecGroup}
use Rattle.walrus_ty.specs.{Types.ModuleType, Groups.Section}
use Rattle.walrus_types.specs.{TypesById.LosesAll, TypesById.found_id, TypesById.known_id, ReaderState.IsReadInto, TableLends.with_type, Steps.TableIndex.IsIndexed}
use Rattle.walrus_types.specs.Table.{Table, empty_table, IsTable, IsIdAt, IsSameTable, AddsType, rec_group_at, next_id, Deletes, DeletesAll, DeletesGroup, member_types}
use Rattle.walrus_types.specs.TableCalls.{Call, Adds, AddFails, AddsRec, AddRecFails, Writes, DeletesOne, DeletesMany, TriesToDelete, DeletesWhole, Clones, new_ids, Calls, Start, Read, Then, EveryTableIsSound}
use Rattle.walrus_types.proofs.Tables.Places.{IsHome, is_table, indexed_same, live_below, member_below, group_answer, none_some, many_grown}
use Rattle.walrus_types.proofs.Tables.{Clones.clone_indexed, NewType.table_added, NewGroup.table_grouped, NewGroup.length-placed, DeadTypes.table_deleted, DeadGroup.table_ended, DeadGroup.groups_are, Deletions.others_stay}

-- a table for which some list has the groups of its ids
IsSomewhere : Table → Type 0
IsSomewhere t = (go : List ℕ) × IsIndexed t go

empty_indexed : (keys : InitialHasher) → IsIndexed (empty_table keys) []
empty_indexed keys = record {
  one_each = refl;
  grouping = λ id live. (let c : ⊥ = cc in absurd c);
  live = λ k u id h. absurd (none_some h);
  own = λ k u id h. absurd (none_some h);
  once = λ k u v id h h'. absurd (none_some h);
  single = λ k h. (let c : ⊥ = cc in absurd c);
  known_implicit = λ q id h live. absurd (none_some h);
  known_below = λ q id h. absurd (none_some h);
}

-- a write of a live type
written_live :
    {T : Type 0} (s : Slots T) (at id : ℕ) (x : T) → IsLive s at → IsLive (set s at (Some x)) id →
    IsLive s id
written_live s at id x live h = elim (cases_eq id at) [
  | inl e ↦ subst (IsLive s) (sym e) live
  | inr n ↦ subst IsSome (get_or-set_other s at id (Some x) None (λ e. n (omega (arith, e)))) h
]

live_written :
    {T : Type 0} (s : Slots T) (at id : ℕ) (x : T) → IsLive s at → IsLive s id →
    IsLive (set s at (Some x)) id
live_written s at id x live h = elim (cases_eq id at) [
  | inl e ↦ subst IsSome (sym (ap (get (set s at (Some x))) e
      ∙ get_or-set_same s at (Some x) None (live_below s at live))) refl
  | inr n ↦ subst IsSome (sym (get_or-set_other s at id (Some x) None (λ e. n (omega (arith, e))))) h
]

indexed_written :
    (t : Table) (go : List ℕ) (id : ℕ) (ty : ModuleType) → IsIndexed t go →
    IsLive t.types.slots id → IsIndexed (with_type t id ty) go
indexed_written t go id ty is live = record {
  one_each = is.one_each ∙ sym (length-set t.types.slots id (Some ty));
  grouping = λ i h. is.grouping i (written_live t.types.slots id i ty live h);
  live = λ k u i h. live_written t.types.slots id i ty live (is.live k u i h);
  own = is.own;
  once = is.once;
  single = is.single;
  known_implicit = λ q i h l. is.known_implicit q i h (written_live t.types.slots id i ty live l);
  known_below = λ q i h. (let below : i < length t.types.slots = is.known_below q i h in
      omega (arith, below, length-set t.types.slots id (Some ty)));
}

home_of_live :
    (t : Table) (go : List ℕ) (id : ℕ) → IsIndexed t go → IsLive t.types.slots id →
    IsHome t id (slice_index go id) (rec_group_at t.groups (slice_index go id))
home_of_live t go id is live =
    let p : _ = is.grouping id live in
    record {
      live = live;
      inside = member_below t.groups (slice_index go id) p.0 id p.1;
      here = refl;
      member = (p.0, p.1);
      only = λ l v h. sym (is.own l v id h);
    }

group_end :
    (t new : Table) (go : List ℕ) (id : ℕ) → IsIndexed t go → IsLive t.types.slots id →
    DeletesGroup t new id → IsIndexed new go
group_end t new go id is live ends =
    let at : ℕ = slice_index go id in
    let g : RecGroup = rec_group_at t.groups (slice_index go id) in
    let home : IsHome t id (slice_index go id) (rec_group_at t.groups (slice_index go id)) =
    home_of_live t go id is live in
    let removes : LosesAll t.types (rec_group_at t.groups (slice_index go id)).types new.types =
    subst (λ (o : Option RecGroup). IsSomeAnd o (λ r. LosesAll t.types r.types new.types))
    (sym (group_answer t id (slice_index go id) (rec_group_at t.groups (slice_index go id)) home))
    ends.types in
    let done : _ = table_ended t go id (slice_index go id) (rec_group_at t.groups (slice_index go id))
    new.types is home removes in
    subst (λ (gs : List RecGroup). IsIndexed (record { types = new.types; groups = gs }) go)
    (groups_are t go id (slice_index go id) (rec_group_at t.groups (slice_index go id)) new.types is home
    removes ∙ sym ends.groups) done

-- the table after an addition that found the type or made it
found_or_added :
    (old new : Table) (ty : ModuleType) (id : ℕ) (o : Option ℕ) →
    MatchOption o (AddsType old new ty id) (λ found. (id ≡ found) × IsSameTable old new) →
    IsSomewhere old → IsSomewhere new
unfolding IsSomewhere
found_or_added old new ty id None ok at = (
  at.0 ++ length old.groups ∷ [],
  table_added old new at.0 ty id at.1 ok,
)
found_or_added old new ty id (Some found) ok at = (at.0, indexed_same old new at.0 at.1 ok.1)

all_deleted :
    (old new : Table) (go ids : List ℕ) → IsIndexed old go → All (IsLive old.types.slots) ids →
    IsDistinct nat_eq ids → DeletesAll old ids new → IsIndexed new go
unfolding IsDistinct
all_deleted old new go [] is live distinct all = subst (λ (t : Table). IsIndexed t go) (sym all) is
all_deleted old new go (id ∷ ids) is live distinct (mid, all, last) =
    let rest : All (IsLive old.types.slots) ids = λ k d below. live (suc k) d (omega (arith, below)) in
    let before : IsIndexed mid go = all_deleted old mid go ids is rest distinct.1 all in
    let still : IsLive mid.types.slots id = others_stay old mid ids id all distinct.0 (live 0 0 (omega arith))
    in
    table_deleted mid new go id before still last

tried : (old new : Table) (go : List ℕ) (id : ℕ) (deleted : Bool) → IsIndexed old go →
    IsLive old.types.slots id → MatchBool deleted (Deletes old new id) (new ≡ old) →
    IsIndexed new go
tried old new go id true is live ok = table_deleted old new go id is live ok
tried old new go id false is live ok = subst (λ (t : Table). IsIndexed t go) (sym ok) is

after_call : (old new : Table) → Call old new → IsSomewhere old → IsSomewhere new
unfolding IsSomewhere
after_call old new (Adds ty id ok) at = found_or_added old new ty id (found_id old.types ty) ok at
after_call old new (AddFails err) at = (at.0, indexed_same old new at.0 at.1 err)
after_call old new (AddsRec count members ok) at = (_, table_grouped old new at.0 members at.1 ok.1)
after_call old new (AddRecFails err) at = (at.0, subst (λ (t : Table). IsIndexed t at.0) (sym err) at.1)
after_call old new (Writes id ty live writes) at =
    (at.0, subst (λ (t : Table). IsIndexed t at.0) (sym writes) (indexed_written old at.0 id ty at.1 live))
after_call old new (DeletesOne id live ok) at = (at.0, table_deleted old new at.0 id at.1 live ok)
after_call old new (DeletesMany ids live distinct ok) at =
    (at.0, all_deleted old new at.0 ids at.1 live distinct ok)
after_call old new (TriesToDelete id deleted live ok) at = (at.0, tried old new at.0 id deleted at.1 live ok)
after_call old new (DeletesWhole id live ok) at = (at.0, group_end old new at.0 id at.1 live ok)
after_call old new (Clones ok) at = (at.0, clone_indexed old new at.0 at.1 ok)

-- a table that a section was read into

module _ (t : Table) (is : IsTable t) (known : (q : ModuleType) (id : ℕ) → known_id t.types q ≡ Some id →
    id < length t.types.slots) where
  abbrev InGroup : ℕ → ℕ → Type 0
  InGroup id k = (u : ℕ) × IsIdAt t.groups k u id

  group-place : (id : ℕ) (o : Option ModuleType) → (IsSome o → (k : ℕ) × InGroup id k) → ℕ
  group-place id None in_group = 0
  group-place id (Some ty) in_group = (in_group refl).0

  place_is : (id : ℕ) (o : Option ModuleType) (in_group : IsSome o → (k : ℕ) × InGroup id k) → IsSome o →
      InGroup id (group-place id o in_group)
  unfolding group-place
  place_is id None in_group live = let c : ⊥ = cc in absurd c
  place_is id (Some ty) in_group live = (in_group refl).1

  home : ℕ → ℕ
  home id = group-place id (get t.types.slots id) (λ live. (let p = is.grouping id live in (p.0, (p.1, p.2))))

  home_is : (id : ℕ) → IsLive t.types.slots id → InGroup id (home id)
  unfolding home
  home_is id live = place_is id (get t.types.slots id) (λ live.
      (let p = is.grouping id live in (p.0, (p.1, p.2)))) live

  homes : List ℕ
  homes = map home (range_with_len 0 (length t.types.slots))

  at_home : (id : ℕ) → id < length t.types.slots → slice_index homes id ≡ home id
  unfolding homes
  at_home id below = let e : 0 + id ≡ id = omega arith in
      get_or-map-range_with_len home 0 (length t.types.slots) id id 0 below e

  in_home : (id : ℕ) → IsLive t.types.slots id → InGroup id (slice_index homes id)
  in_home id live = subst (λ (k : ℕ). InGroup id k) (sym (at_home id (live_below t.types.slots id live)))
      (home_is id live)

  table_indexed : IsIndexed t homes
  unfolding homes
  table_indexed = record {
    one_each = length-map-range_with_len home 0 (length t.types.slots);
    grouping = in_home;
    live = is.live;
    own = λ k u id h. (let mine = in_home id (is.live k u id h) in
        (is.once (slice_index homes id) mine.0 k u id mine.1 h).0);
    once = λ k u v id h h'. (is.once k u k v id h h').1;
    single = is.single;
    known_implicit = λ q id h live. (let mine = in_home id live in
        is.known_implicit q id (slice_index homes id) mine.0 h mine.1);
    known_below = known;
  }

read_indexed :
    (s : Section) (t : Table) (ids : List ℕ) → IsReadInto s t ids → IsTable t → IsSomewhere t
unfolding IsSomewhere
read_indexed s t ids has is = (homes t is known, table_indexed t is known)
  where
    known : (q : ModuleType) (id : ℕ) → known_id t.types q ≡ Some id → id < length t.types.slots
    known q id h = let f = (has.candidates q id).0 h in omega (arith, f.below, has.slot_each)

range_join :
    (first a b : ℕ) → range_with_len first a ++ range_with_len (first + a) b ≡
    range_with_len first (a + b)
range_join first zero b = (let e : first + 0 ≡ first = omega arith in let f : b ≡ 0 + b = omega arith in
    ap (λ (n : ℕ). range_with_len n b) e ∙ ap (range_with_len first) f)
range_join first (suc a) b =
    let e : first + suc a ≡ first + 1 + a = omega arith in
    let f : suc (a + b) ≡ suc a + b = omega arith in
    ap (λ (n : ℕ). first ∷ (range_with_len (first + 1) a ++ range_with_len n b)) e
    ∙ ap (λ (ns : List ℕ). first ∷ ns) (range_join (first + 1) a b) ∙ ap (range_with_len first) f

-- the ids that a call gives come after those that were given before

same_ids :
    (old new : Table) (ids : List ℕ) → ids ≡ range_with_len 0 (next_id old) →
    next_id new ≡ next_id old → ids ++ [] ≡ range_with_len 0 (next_id new)
same_ids old new ids e many = append-nil ids ∙ e ∙ ap (range_with_len 0) (sym many)

added_ids :
    (old new : Table) (ids : List ℕ) (ty : ModuleType) (id : ℕ) (o : Option ℕ) →
    MatchOption o (AddsType old new ty id) (λ found. (id ≡ found) × IsSameTable old new) →
    ids ≡ range_with_len 0 (next_id old) →
    ids ++ (if is_some o then [] else id ∷ []) ≡ range_with_len 0 (next_id new)
added_ids old new ids ty id None ok e =
    let one : id ∷ [] ≡ range_with_len (0 + next_id old) 1 =
    (let n : id ≡ 0 + next_id old = omega (arith, ok.types.is_next) in ap (λ (k : ℕ). k ∷ []) n) in
    let many : next_id old + 1 ≡ next_id new = omega (
      arith,
      length_push old.types.slots (Some ty),
      ap length ok.types.slots,
    ) in
    ap (λ (xs : List ℕ). xs ++ id ∷ []) e ∙ ap (λ (xs : List ℕ). range_with_len 0 (next_id old) ++ xs) one
    ∙ range_join 0 (next_id old) 1 ∙ ap (range_with_len 0) many
added_ids old new ids ty id (Some found) ok e = same_ids old new ids e (ap length ok.1.types.slots)

ids_after :
    (old new : Table) (call : Call old new) (ids : List ℕ) (go : List ℕ) → IsIndexed old go →
    ids ≡ range_with_len 0 (next_id old) → ids ++ new_ids call ≡ range_with_len 0 (next_id new)
ids_after old new (Adds ty id ok) ids go is e = added_ids old new ids ty id (found_id old.types ty) ok e
ids_after old new (AddFails err) ids go is e = same_ids old new ids e (ap length err.types.slots)
ids_after old new (AddsRec count members ok) ids go is e =
    let zeroed : next_id old ≡ 0 + next_id old = omega arith in
    let slots : length new.types.slots ≡ length old.types.slots + length (member_types (next_id old) members)
    = ap (λ s. length s.slots) ok.1.types ∙ many_grown old.types.slots
    (member_types (next_id old) members) in
    let many : next_id old + count ≡ next_id new =
    omega (arith, slots, length-placed (next_id old) members, ok.0) in
    ap (λ (xs : List ℕ). xs ++ range_with_len (next_id old) count) e
    ∙ ap (λ (n : ℕ). range_with_len 0 (next_id old) ++ range_with_len n count) zeroed ∙ range_join
    0 (next_id old) count ∙ ap (range_with_len 0) many
ids_after old new (AddRecFails err) ids go is e = same_ids old new ids e (ap next_id err)
ids_after old new (Writes id ty live writes) ids go is e =
    same_ids old new ids e (ap (λ t. length t.types.slots) writes ∙ length-set old.types.slots id (Some ty))
ids_after old new (DeletesOne id live ok) ids go is e =
    same_ids old new ids e (ap length ok.types.slots ∙ length-set old.types.slots id None)
ids_after old new (DeletesMany gone live distinct ok) ids go is e =
    let after : IsIndexed new go = all_deleted old new go gone is live distinct ok in
    same_ids old new ids e (sym after.one_each ∙ is.one_each)
ids_after old new (TriesToDelete id deleted live ok) ids go is e =
    let after : IsIndexed new go = tried old new go id deleted is live ok in
    same_ids old new ids e (sym after.one_each ∙ is.one_each)
ids_after old new (DeletesWhole id live ok) ids go is e =
    let after : IsIndexed new go = group_end old new go id is live ok in
    same_ids old new ids e (sym after.one_each ∙ is.one_each)
ids_after old new (Clones ok) ids go is e =
    let after : IsIndexed new go = clone_indexed old new go is ok in
    same_ids old new ids e (sym after.one_each ∙ is.one_each)

somewhere :
    (t : Table) (ids : List ℕ) → Calls t ids → IsSomewhere t × (ids ≡ range_with_len 0 (next_id t))
unfolding IsSomewhere
somewhere t ids (Start keys) = (([], empty_indexed keys), refl)
somewhere t ids (Read s _ read_ids read grouping) = (read_indexed s t read_ids read grouping, refl)
somewhere t ids (Then old _ before made call) =
    let was : _ = somewhere old before made in
    (after_call old t call was.0, ids_after old t call before was.0.0 was.0.1 was.1)

pub every_table_is_sound : EveryTableIsSound
unfolding IsSomewhere
every_table_is_sound t ids calls =
    let at : _ = somewhere t ids calls in
    record { table = is_table t at.0.0 at.0.1; ids_in_order = at.1 }
