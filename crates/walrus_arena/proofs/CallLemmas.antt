-- The new ids that a list of calls answers are the numbers from the count of slots on.
use Rattle.std.proofs.Common.{◌≡◌, ℕ, zero, suc, ◌+◌, ◌<◌, ◌≤◌, List, [], ◌∷◌, ◌++◌, length, map, Bool, Option, Some, None, Result, Ok, Err, IfOk, OnOk, OnErr, MatchOption, All, nat_eq, false, refl, sym, ap, subst, ◌∙◌, arith, length-append, zero-add, add-zero}
use Rattle.std.proofs.lemmas.Bool.Decides.{nat_tests}
use Rattle.std.proofs.lemmas.List.{length-map, length-set}
use Rattle.std.proofs.lemmas.List.Elements.{All-from_recursion}
use Rattle.std.specs.List.{IsDistinct, AllByRecursion}
use Rattle.walrus_arena.specs.Arena.{Slots, without, without_all, range}
use Rattle.walrus_arena.specs.Calls.{Call, Step, AreCalls, new_ids, AnswersFreshIds}
use Rattle.walrus_arena.specs.Calls.Call.{allocates, allocates_all, writes, deletes, deletes_all, stays}
use Rattle.walrus_arena.specs.Set.{Set, found_id, Adds, IsSame, Registers, Removes, RemovesAll}
use Rattle.walrus_arena.proofs.ArenaLemmas.{length-range, died_at_once}

-- two runs of ids, the second where the first ends
range-append : (first a b : ℕ) → range first (a + b) ≡ range first a ++ range (first + a) b
range-append first zero b = ap (range first) (zero-add b) ∙ ap (λ k. range k b) (sym (add-zero first))
range-append first (suc a) b =
    let one_more : suc a + b ≡ suc (a + b) = omega arith in
    let later : first + 1 + a ≡ first + suc a = omega arith in
    ap (range first) one_more ∙ ap (λ xs. first ∷ xs) (range-append (first + 1) a b
    ∙ ap (λ k. range (first + 1) a ++ range k b) later)

-- each id of a run is at least the first
range_from :
    (low first count : ℕ) → low ≤ first → AllByRecursion (λ id. low ≤ id) (range first count)
range_from low first zero below = tt
range_from low first (suc count) below = (below, range_from low (first + 1) count (omega arith))

differ : (a b : ℕ) → a < b → nat_eq a b ≡ false
differ a b below = grind (arith, nat_tests)

-- an id below a run is none of it
apart_from_run :
    (id first count : ℕ) → id < first →
    AllByRecursion (λ other. nat_eq id other ≡ false) (range first count)
apart_from_run id first zero below = tt
apart_from_run id first (suc count) below = (
  differ id first below,
  apart_from_run id (first + 1) count (omega arith),
)

-- the ids of a run are distinct
distinct-range : (first count : ℕ) → IsDistinct nat_eq (range first count)
unfolding IsDistinct
distinct-range first zero = tt
distinct-range first (suc count) = (
  apart_from_run first (first + 1) count (omega arith),
  distinct-range (first + 1) count,
)

both : {X : Type 0} (a b c d : List X) → a ≡ c → b ≡ d → a ++ b ≡ c ++ d
both a b c d first second = cc

module _ {T : Type 0} where
  -- a deletion keeps the count of slots
  length-without_all : (s : Slots T) (ids : List ℕ) → length (without_all s ids) ≡ length s
  length-without_all s [] = refl
  length-without_all s (id ∷ ids) = length-without_all (without s id) ids ∙ length-set s id None

  -- the new ids of a call are a run from the count of slots on, and it adds as many slots
  record IsRun (old new : Slots T) (ids : List ℕ) : Type 0 where
    run : ids ≡ range (length old) (length ids)
    grown : length new ≡ length old + length ids

  no_ids : (old new : Slots T) (ids : List ℕ) → ids ≡ [] → length new ≡ length old → IsRun old new ids
  no_ids old new ids none same =
      let count : length ids ≡ 0 = ap length none in
      record {
        run = none ∙ sym (ap (range (length old)) count);
        grown = omega (arith, same, count);
      }

  run_of_call : (old new : Slots T) (ids : List ℕ) → Call old new ids → IsRun old new ids
  run_of_call old new ids (allocates value id one named put) =
      let count : length ids ≡ 1 = ap length one in
      record {
        run = one ∙ ap (λ (k : ℕ). k ∷ []) named ∙ sym (ap (range (length old)) count);
        grown = omega (arith, count, ap length put, length-append old (Some value ∷ []));
      }
  run_of_call old new ids (allocates_all values all put) =
      let count : length ids ≡ length values = ap length all ∙ length-range (length old) (length values) in
      record {
        run = all ∙ sym (ap (range (length old)) count);
        grown = omega (
          arith,
          count,
          ap length put,
          length-append old (map Some values),
          length-map values (λ (v : T). Some v),
        );
      }
  run_of_call old new ids (writes id value none put) =
      no_ids old new ids none (ap length put ∙ length-set old id (Some value))
  run_of_call old new ids (deletes id none put) =
      no_ids old new ids none (ap length put ∙ length-set old id None)
  run_of_call old new ids (deletes_all dead none put) =
      no_ids old new ids none (ap length put ∙ length-without_all old dead)
  run_of_call old new ids (stays none same) = no_ids old new ids none (ap length same)

  -- so are the new ids of a list of calls
  run_of_calls : (s : Slots T) (steps : List (Step T)) → AreCalls s steps →
      new_ids steps ≡ range (length s) (length (new_ids steps))
  run_of_calls s [] calls = refl
  run_of_calls s (step ∷ steps) calls =
      let rest = new_ids steps in
      let here = run_of_call s step.slots step.ids calls.0 in
      let at_rest : range (length s + length step.ids) (length rest) ≡ rest =
      ap (λ k. range k (length rest)) (sym here.grown) ∙ sym (run_of_calls step.slots steps calls.1) in
      sym (ap (range (length s)) (length-append step.ids rest)
      ∙ range-append (length s) (length step.ids) (length rest)
      ∙ both _ _ step.ids rest (sym here.run) at_rest)

  pub fresh_ids : (s : Slots T) (steps : List (Step T)) → AreCalls s steps → AnswersFreshIds s steps
  fresh_ids s steps calls =
      let ids = new_ids steps in
      let run = sym (run_of_calls s steps calls) in
      let fresh = All-from_recursion (λ (id : ℕ). length s ≤ id) _
      (range_from (length s) (length s) (length ids) (omega arith)) in record {
        once = subst (IsDistinct nat_eq) run (distinct-range (length s) (length ids));
        fresh = subst (All (λ (id : ℕ). length s ≤ id)) run fresh;
      }

-- what the contracts of the calls say, as calls
module _ {T E : Type 0} where
  pub allocated : (old new : Slots T) (value : T) (r : Result ℕ E) → IfOk r (λ id. id ≡ length old) →
      OnOk r (new ≡ old ++ Some value ∷ []) → IfOk r (λ id. Call old new (id ∷ []))
  allocated old new value (Ok id) named put = allocates value id refl named put
  allocated old new value (Err e) named put = tt

  pub allocated_by : (old new : Slots T) (P : T → Type 0) (r : Result ℕ E) → IfOk r (λ id. id ≡ length old) →
      OnOk r ((value : T) × P value × (new ≡ old ++ Some value ∷ [])) → IfOk r (λ id. Call old new (id ∷ []))
  allocated_by old new P (Ok id) named put = allocates put.0 id refl named put.2
  allocated_by old new P (Err e) named put = tt

  pub allocated_all : {X : Type 0} (items : X → List ℕ) (old new : Slots T) (values : List T) (count : ℕ)
      (r : Result X E) → count ≡ length values → IfOk r (λ all. items all ≡ range (length old) count) →
      OnOk r (new ≡ old ++ map Some values) → IfOk r (λ all. Call old new (items all))
  allocated_all items old new values count (Ok all) same named put =
      allocates_all values (named ∙ ap (range (length old)) same) put
  allocated_all items old new values count (Err e) same named put = tt

  pub refused : {X : Type 0} (old new : Slots T) (r : Result X E) → OnErr r (new ≡ old) →
      OnErr r (Call old new [])
  refused old new (Ok x) same = tt
  refused old new (Err e) same = stays refl same

  pub deleted : {X : Type 0} (old new : Slots T) (id : ℕ) (r : Result X E) → OnOk r (new ≡ without old id) →
      OnOk r (Call old new [])
  deleted old new id (Ok x) put = deletes id refl put
  deleted old new id (Err e) put = tt

  pub deleted_all : {X : Type 0} (old new : Slots T) (dead : List ℕ) (r : Result X E) →
      OnOk r (new ≡ without_all old dead) → OnOk r (Call old new [])
  deleted_all old new dead (Ok x) put = deletes_all dead refl put
  deleted_all old new dead (Err e) put = tt

-- the slots after removals in turn
slots_after : {T : Type 0} (eq : T → T → Bool) (ids : List ℕ) (old new : Set T) → RemovesAll eq old ids new →
    new.slots ≡ without_all old.slots ids
slots_after eq [] old new same = same.slots
slots_after eq (id ∷ ids) old new (between, gone, rest) = slots_after eq ids between new rest
    ∙ ap (λ s. without_all s ids) gone.slots

module _ {T E : Type 0} (eq : T → T → Bool) (old new : Set T) where
  pub inserted : (value : T) (r : Result ℕ E) →
      IfOk r (λ id. MatchOption (found_id eq old value) (Adds eq old new value id) (λ known. (id ≡ known)
      × IsSame eq old new)) → IfOk r (λ id. MatchOption (found_id eq old value)
      (Call old.slots new.slots (id ∷ [])) (λ _. Call old.slots new.slots []))
  inserted value (Err e) said = tt
  inserted value (Ok id) said = by_found (found_id eq old value) said
    where
      by_found : (o : Option ℕ) → MatchOption o (Adds eq old new value id) (λ known. (id ≡ known)
          × IsSame eq old new) → MatchOption o (Call old.slots new.slots (id ∷ [])) (λ _.
          Call old.slots new.slots [])
      by_found None adds = allocates value id refl adds.named adds.slots
      by_found (Some known) same = stays refl same.1.slots

  pub set_refused : {X : Type 0} (r : Result X E) → OnErr r (IsSame eq old new) →
      OnErr r (Call old.slots new.slots [])
  set_refused (Ok x) same = tt
  set_refused (Err e) same = stays refl same.slots

  pub registered : {X : Type 0} (id : ℕ) (value : T) (r : Result X E) →
      OnOk r (Registers eq old new id value) → OnOk r (Call old.slots new.slots [])
  registered id value (Ok x) put = writes id value refl put.slots
  registered id value (Err e) put = tt

  pub removed : {X : Type 0} (id : ℕ) (r : Result X E) → OnOk r (Removes eq old new id) →
      OnOk r (Call old.slots new.slots [])
  removed id (Ok x) gone = deletes id refl gone.slots
  removed id (Err e) gone = tt

  -- a new slot with the value, whatever the map has
  pub added : (value : T) (r : Result ℕ E) → IfOk r (Adds eq old new value) →
      IfOk r (λ id. Call old.slots new.slots (id ∷ []))
  added value (Ok id) adds = allocates value id refl adds.named adds.slots
  added value (Err e) adds = tt

  pub left_without : {X : Type 0} (ids : List ℕ) (r : Result X E) → OnOk r (RemovesAll eq old ids new) →
      OnOk r (new.slots ≡ without_all old.slots ids)
  left_without ids (Ok x) gone = slots_after eq ids old new gone
  left_without ids (Err e) gone = tt

  pub removed_all : {X : Type 0} (ids : List ℕ) (r : Result X E) → OnOk r (RemovesAll eq old ids new) →
      OnOk r (Call old.slots new.slots [])
  removed_all ids (Ok x) gone = deletes_all ids refl (slots_after eq ids old new gone)
  removed_all ids (Err e) gone = tt

module _ {T E : Type 0} (old new : Set T) where
  pub put_apart : (value : T) (r : Result ℕ E) → IfOk r (λ id. id ≡ length old.slots) →
      OnOk r (new ≡ record old { slots = old.slots ++ Some value ∷ [] }) →
      IfOk r (λ id. Call old.slots new.slots (id ∷ []))
  put_apart value (Ok id) named put = allocates value id refl named (ap (λ (s : Set T). s.slots) put)
  put_apart value (Err e) named put = tt

  pub put_all_apart : {X : Type 0} (items : X → List ℕ) (values : List T) (r : Result X E) →
      IfOk r (λ all. items all ≡ range (length old.slots) (length values)) →
      OnOk r (new ≡ record old { slots = old.slots ++ map Some values }) →
      IfOk r (λ all. Call old.slots new.slots (items all))
  put_all_apart items values (Ok all) named put = allocates_all values named (ap (λ (s : Set T). s.slots) put)
  put_all_apart items values (Err e) named put = tt

  pub put_dead : (value : T) (r : Result ℕ E) → IfOk r (λ id. id ≡ length old.slots) →
      OnOk r (new ≡ record old { slots = old.slots ++ None ∷ [] }) →
      IfOk r (λ id. (between : Slots T) × Call old.slots between (id ∷ []) × Call between new.slots [])
  put_dead value (Err e) named put = tt
  put_dead value (Ok id) named put =
      let died = ap (λ (s : Set T). s.slots) put ∙ sym (died_at_once old.slots value id named) in
      (old.slots ++ Some value ∷ [], allocates value id refl named refl, deletes id refl died)

  pub stayed : {X : Type 0} (r : Result X E) → OnErr r (new ≡ old) → OnErr r (Call old.slots new.slots [])
  stayed (Ok x) same = tt
  stayed (Err e) same = stays refl (ap (λ (s : Set T). s.slots) same)
