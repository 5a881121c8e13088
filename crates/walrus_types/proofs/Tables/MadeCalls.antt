-- What the contracts of a table's calls say, as calls.
use Rattle.std.proofs.Common.{◌≡◌, ℕ, List, length, Bool, Result, Ok, Err, IfOk, OnOk, OnErr, MatchBool, MatchResult, All, nat_eq, refl, sym, []}
use Rattle.std.specs.List.{range_with_len, IsDistinct}
use Rattle.std.specs.declared.{alloc.Global.Global, alloc.AllocError.AllocError, vec.Vec.Vec}
use Rattle.walrus_ty.specs.Types.{ModuleType}
use Rattle.walrus_types.specs.TypesById.{IsLive}
use Rattle.walrus_types.specs.Table.{Table, Member, next_id, IsSameTable, IsTableClone, FindsOrAdds, AddsGroup, Builds, Deletes, DeletesAll, DeletesGroup}
use Rattle.walrus_types.specs.TableCalls.{Adds, AddFails, AddsRec, AddRecFails, DeletesOne, DeletesMany, TriesToDelete, DeletesWhole, Clones, IsCall, IsAddition}

module _ {E : Type 0} (old new : Table) where
  pub added : (ty : ModuleType) (r : Result ℕ E) → IfOk r (λ id. FindsOrAdds old new ty id) →
      IfOk r (IsAddition old new ty)
  added ty (Ok id) ok = (Adds ty id ok, refl)
  added ty (Err e) ok = tt

  pub not_added : {X : Type 0} (r : Result X E) → OnErr r (IsSameTable old new) → OnErr r (IsCall old new [])
  not_added (Ok x) same = tt
  not_added (Err e) same = (AddFails same, refl)

  pub group_added : {X : Type 0} (items : X → List ℕ) (count : ℕ) (gives : List ℕ →
      Result (Vec Member Global) AllocError → Type 0) (at : List ℕ) (r : Result X E) →
      IfOk r (λ all. items all ≡ range_with_len (next_id old) count) →
      OnOk r (Builds gives at (λ members. (length members ≡ count) × AddsGroup old new members)) →
      IfOk r (λ all. IsCall old new (items all))
  group_added items count gives at (Ok all) named built = (AddsRec count built.0.items built.2, sym named)
  group_added items count gives at (Err e) named built = tt

  pub no_group_added : {X : Type 0} (r : Result X E) → OnErr r (new ≡ old) → OnErr r (IsCall old new [])
  no_group_added (Ok x) same = tt
  no_group_added (Err e) same = (AddRecFails same, refl)

  pub deleted : {X : Type 0} (id : ℕ) → IsLive old.types.slots id → (r : Result X E) →
      OnOk r (Deletes old new id) → OnOk r (IsCall old new [])
  deleted id live (Ok x) ok = (DeletesOne id live ok, refl)
  deleted id live (Err e) ok = tt

  pub deleted_all : {X : Type 0} (ids : List ℕ) → All (IsLive old.types.slots) ids → IsDistinct nat_eq ids →
      (r : Result X E) → OnOk r (DeletesAll old ids new) → OnOk r (IsCall old new [])
  deleted_all ids live distinct (Ok x) ok = (DeletesMany ids live distinct ok, refl)
  deleted_all ids live distinct (Err e) ok = tt

  pub tried : (id : ℕ) → IsLive old.types.slots id → (r : Result Bool E) →
      IfOk r (λ deleted. MatchBool deleted (Deletes old new id) (new ≡ old)) → OnOk r (IsCall old new [])
  tried id live (Ok was_deleted) ok = (TriesToDelete id was_deleted live ok, refl)
  tried id live (Err e) ok = tt

  pub group_deleted : {X : Type 0} (id : ℕ) → IsLive old.types.slots id → (r : Result X E) →
      OnOk r (DeletesGroup old new id) → OnOk r (IsCall old new [])
  group_deleted id live (Ok x) ok = (DeletesWhole id live ok, refl)
  group_deleted id live (Err e) ok = tt

pub cloned : {E : Type 0} (Fails : E → Type 0) (old : Table) (r : Result Table E) →
    MatchResult r (IsTableClone old) Fails → IfOk r (λ new. IsCall old new [])
cloned Fails old (Ok new) is = (Clones is, refl)
cloned Fails old (Err e) is = tt
