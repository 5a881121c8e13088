-- A table of types: the types of a module by id, and the recursion groups that they stand in.
-- WebAssembly core specification, "Types": recursive types; "Modules", types: the list of a
-- module's recursion groups.
use Rattle.walrus_ty.specs.Views.{names}
use Rattle.std.specs.Prelude.{◌≡◌, ℕ, ◌<◌, ◌≤◌, Bool, true, false, List, [], ◌∷◌, ◌++◌, length, map, ◌+◌, slice_get, slice_index_or, nat_eq, filter, filter_map, not, ◌≢◌, Option, Some, None, MatchOption, IsSomeAnd, option_and_then, option_map, is_some, if◌then◌else◌, Result, Ok}
use Rattle.std.specs.declared.vec.Vec.{Vec}
use Rattle.std.specs.declared.alloc.Global.{Global}
use Rattle.std.specs.declared.alloc.AllocError.{AllocError}
use Rattle.std.specs.List.{Contains, list_any, range_with_len}
use Rattle.walrus_arena.specs.Arena.{AreClones}
use Rattle.walrus_arena.specs.HashKeys.{InitialHasher}
use Rattle.walrus_ty.specs.declared.ty.composite.CompositeType.{CompositeType}
use Rattle.walrus_types.specs.declared.table.rec_group.RecGroup.{RecGroup}
use Rattle.walrus_ty.specs.Signature.{Signature}
use Rattle.walrus_ty.specs.Types.{ModuleType, signature_of, unnamed_type, function}
use Rattle.walrus_ty.specs.SameTypes.{IsSameType}
use Rattle.walrus_ty.specs.contracts.ty.TypeClone.TheImpl.{ghosts as type_clone}
use Rattle.walrus_types.specs.TypesById.{TypesById, live_type, IsLive, known_id, found_id, IsUnchanged, KnowsSame, Gains, Loses, LosesAll}
use Rattle.walrus_ty.specs.declared.ty.value.Val.{Val}
use Rattle.std.specs.String.{string_bytes}

-- the types by id, and the groups in the order in which they came
pub record Table : Type 0 where
  pub types : TypesById
  pub groups : List RecGroup

-- the table without types, with these keys of its hash
abbrev pub empty_table : InitialHasher → Table
empty_table keys = record { types = record { slots = []; entries = []; keys = keys }; groups = [] }

-- stands for a group that is not there
abbrev pub no_rec_group : RecGroup
no_rec_group = record { types = []; is_explicit = true }

abbrev pub rec_group_at : List RecGroup → ℕ → RecGroup
rec_group_at groups k = slice_index_or groups k no_rec_group

-- the id is the u-th of the group k
abbrev pub IsIdAt : List RecGroup → ℕ → ℕ → ℕ → Type 0
IsIdAt groups k u id = slice_get (rec_group_at groups k).types u ≡ Some id

-- each live id stands in exactly one group, once, and no dead id stands in one;
-- a group that was not given as one has one id at most; and only the ids of such groups are known
-- for a type
pub record IsTable (t : Table) : Type 0 where
  pub grouping : (id : ℕ) → IsLive t.types.slots id → (k : ℕ) × (u : ℕ) × IsIdAt t.groups k u id
  pub live : (k u id : ℕ) → IsIdAt t.groups k u id → IsLive t.types.slots id
  pub once : (k u l v id : ℕ) → IsIdAt t.groups k u id → IsIdAt t.groups l v id → (k ≡ l) × (u ≡ v)
  pub single :
      (k : ℕ) → (rec_group_at t.groups k).is_explicit ≡ false →
      length (rec_group_at t.groups k).types ≤ 1
  pub known_implicit :
      (q : ModuleType) (id k u : ℕ) → known_id t.types q ≡ Some id → IsIdAt t.groups k u id →
      (rec_group_at t.groups k).is_explicit ≡ false

-- the live types in the order of their ids
abbrev pub live_types : Table → List ModuleType
live_types t = filter_map (λ slot. slot) t.types.slots

-- the ids of the live types in order
abbrev pub live_ids : Table → List ℕ
live_ids t =
    filter (λ id. is_some (live_type t.types.slots id)) (range_with_len 0 (length t.types.slots))

-- the parameters and results of the type of this id, if it is live and a function type
abbrev pub signature_at : Table → ℕ → Option Signature
signature_at t id = option_and_then (λ ty. signature_of ty.kind) (live_type t.types.slots id)

-- the first group that has the id
abbrev pub group_with : List RecGroup → ℕ → Option RecGroup
group_with [] id = None
group_with (g ∷ groups) id = if list_any (nat_eq id) g.types then Some g else group_with groups id

-- the group that an id gets that no group was given for
abbrev pub own_group : ℕ → RecGroup
own_group id = record { types = id ∷ []; is_explicit = false }

module _ (old new : Table) where
  -- the same types, found in the same way and with the same keys, and the same groups
  pub record IsSameTable : Type 0 where
    pub types : IsUnchanged old.types new.types
    pub groups : new.groups ≡ old.groups

  -- clones of the types at the same ids, which are found in the same way and with the same keys, and
  -- the same groups
  pub record IsTableClone : Type 0 where
    pub slots : AreClones type_clone.is_clone old.types.slots new.types.slots
    pub map : KnowsSame old.types new.types
    pub keys : new.types.keys ≡ old.types.keys
    pub groups : new.groups ≡ old.groups

  -- the type goes into a new slot at the end, is found there, and has a group of its own at the end
  pub record AddsType (ty : ModuleType) (id : ℕ) : Type 0 where
    pub types : Gains old.types new.types ty id
    pub groups : new.groups ≡ old.groups ++ own_group id ∷ []

-- what is found is returned and nothing changes; where nothing is found the type is added
abbrev pub FindsOrAdds : Table → Table → ModuleType → ℕ → Type 0
FindsOrAdds old new ty id =
    MatchOption (found_id old.types ty) (AddsType old new ty id)
    (λ found. (id ≡ found) × IsSameTable old new)

-- the id is live, its type is the same, and it has a group of its own
pub record HoldsAlone (t : Table) (ty : ModuleType) (id : ℕ) : Type 0 where
  pub same : IsSomeAnd (live_type t.types.slots id) (IsSameType ty)
  pub alone : Contains t.groups (own_group id)

-- the id of the next new type
abbrev pub next_id : Table → ℕ
next_id t = length t.types.slots

-- what is said of a new type of a group: its composite, whether it is final, and its supertype
abbrev pub Member : Type 0
Member = CompositeType × Bool × Option ℕ

-- the types that are so described, with ids from this one on
abbrev pub member_types : ℕ → List Member → List ModuleType
member_types id [] = []
member_types id (m ∷ rest) = unnamed_type m.0 m.1 m.2 false id ∷ member_types (id + 1) rest

-- the types go into new slots at the end, and stand in one explicit group at the end; none of them
-- is found by value
pub record AddsGroup (old new : Table) (members : List Member) : Type 0 where
  pub types :
      new.types ≡ record old.types
      { slots = old.types.slots ++ map Some (member_types (next_id old) members) }
  pub groups :
      new.groups ≡ old.groups ++
      record { types = range_with_len (next_id old) (length members); is_explicit = true } ∷ []

-- at these ids something was built of which P holds
abbrev pub Builds :
    (List ℕ → Result (Vec Member Global) (AllocError) → Type 0) → List ℕ → (List Member → Type 0) →
    Type 0
Builds gives ids P = (members : Vec Member Global) × gives ids (Ok members) × P members.items

-- the first live id, by id, of whose type P holds; none only where P holds of no live type
abbrev pub IsFirst : Table → (ModuleType → Type 0) → Option ℕ → Type 0
IsFirst t P None = (id : ℕ) → IsSomeAnd (live_type t.types.slots id) P → ⊥
IsFirst t P (Some id) =
    IsSomeAnd (live_type t.types.slots id) P ×
    ((j : ℕ) → j < id → IsSomeAnd (live_type t.types.slots j) P → ⊥)

-- its name is this text
abbrev pub IsNamed : List ℕ → ModuleType → Type 0
IsNamed text ty = option_map string_bytes ty.name ≡ Some text

-- a function type with these parameters and results that stands for no function body
abbrev pub IsPlainFunction : List (Val ℕ) → List (Val ℕ) → ModuleType → Type 0
IsPlainFunction params results ty =
    (ty.kind ≡ function params results) × (ty.is_for_function_entry ≡ false)

-- the type that stands for a function body with these results
abbrev pub IsEntryType : List (Val ℕ) → ModuleType → Type 0
IsEntryType results ty = (ty.kind ≡ function [] results) × (ty.is_for_function_entry ≡ true)

-- the group without this id
abbrev pub group_without : ℕ → RecGroup → RecGroup
group_without id g =
    record { types = filter (λ i. not (nat_eq i id)) g.types; is_explicit = g.is_explicit }

-- the group with no type left, if it has this id
abbrev pub group_ended : ℕ → RecGroup → RecGroup
group_ended id g =
    if list_any (nat_eq id) g.types then record { types = []; is_explicit = g.is_explicit } else g

module _ (old new : Table) (id : ℕ) where
  -- the type died and left its group
  pub record Deletes : Type 0 where
    pub types : Loses old.types new.types id
    pub groups : new.groups ≡ map (group_without id) old.groups

  -- all types of the id's group died, and the group stays without types
  pub record DeletesGroup : Type 0 where
    pub types : IsSomeAnd (group_with old.groups id) (λ g. LosesAll old.types g.types new.types)
    pub groups : new.groups ≡ map (group_ended id) old.groups

-- the types of these ids died, one after the other, the last one first, and left their groups
abbrev pub DeletesAll : Table → List ℕ → Table → Type 0
DeletesAll old [] new = new ≡ old
DeletesAll old (id ∷ ids) new =
    (between : Table) × DeletesAll old ids between × Deletes between new id

-- the type of this other id is live and names the id
abbrev pub IsOtherNamer : Table → ℕ → ℕ → Type 0
IsOtherNamer t other id =
    (other ≢ id) × IsSomeAnd (live_type t.types.slots other) (λ ty. names ty id ≡ true)

-- another type of the id's group names it
abbrev pub IsNamedInGroup : Table → ℕ → Type 0
IsNamedInGroup t id =
    IsSomeAnd (group_with t.groups id)
    (λ g. (u : ℕ) × (other : ℕ) × (slice_get g.types u ≡ Some other) × IsOtherNamer t other id)
