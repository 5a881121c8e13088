-- Lists of ids and the indices that they are given.
use Rattle.std.proofs.Common.{◌≡◌, ℕ, zero, suc, ◌+◌, ◌<◌, ◌==◌, cond, List, [], ◌∷◌, ◌++◌, take, length, get_or, refl, sym, ap, subst, ◌∙◌, arith, length-append, Some, None, true, false, Bool, eq-eqb, eqb-true, All, nat_eq, ◌⊎◌, inl, inr}
use Rattle.std.specs.List.{slice_get, Contains, IsDistinct}
use Rattle.std.proofs.lemmas.List.{take_more, length_push, length-take, get_or-take, get_or_default}
use Rattle.std.proofs.lemmas.{List.Elements.All-contains, List.Elements.Contains-append_left, List.Elements.Contains-push, Option.slice_get_within, Option.slice_get-get_or, Option.get_or_from_slice_get, Map.Keys.apart_from_distinct}
use Rattle.walrus_ty.specs.Indices.{IndexMap, Indexes, GivesNext, GivesAll}
use Rattle.walrus_ty.proofs.Basics.{slice_get-left, slice_get-right, slice_get-parts}

slice_get-single : (x y j : ℕ) → slice_get (x ∷ []) j ≡ Some y → (j ≡ 0) × (x ≡ y)
slice_get-single x y zero h = (refl, cc)
slice_get-single x y (suc j) h = cc

-- the id stands nowhere in the list
abbrev IsAbsent : List ℕ → ℕ → Type 0
IsAbsent known id = (k : ℕ) → slice_get known k ≡ Some id → ⊥

not_contained : (ids : List ℕ) (id : ℕ) → IsAbsent ids id → ¬ (Contains ids id)
not_contained ids id absent has = absent has.0 (slice_get-get_or ids has.0 id has.1 ∙ ap (λ n. Some n) has.2)

-- one more id is given the next index
gives_push :
    (ids : List ℕ) (id : ℕ) (first old new : IndexMap) → IsAbsent ids id →
    GivesAll first old ids → GivesNext old new id → GivesAll first new (ids ++ id ∷ [])
gives_push ids id first old new absent all next = record {
  count = omega (arith, next.count, all.count, length_push ids id);
  given = λ k other h. given k other (id == other) refl h;
  kept = λ other none. kept other (id == other) refl none;
}
  where
    earlier : (k other : ℕ) (b : Bool) → b ≡ (id == other) → slice_get ids k ≡ Some other →
        new.index other ≡ Some (first.count + k)
    earlier k other true e w = absurd (absent k (w ∙ ap (λ n. Some n) (sym (eqb-true id other (sym e)))))
    earlier k other false e w = next.index other ∙ ap (λ b. cond b (Some old.count) (old.index other)) (sym e)
        ∙ all.given k other w

    given : (k other : ℕ) (b : Bool) → b ≡ (id == other) → slice_get (ids ++ id ∷ []) k ≡ Some other →
        new.index other ≡ Some (first.count + k)
    given k other b e h = elim (slice_get-parts ids (id ∷ []) k other h) [
      | inl w ↦ earlier k other b e w
      | inr w ↦
          let single : (w.0 ≡ 0) × (id ≡ other) = slice_get-single id other w.0 w.2 in
          let test : (id == other) ≡ true = eq-eqb id other single.1 in
          next.index other ∙ ap (λ b. cond b (Some old.count) (old.index other)) test
          ∙ ap (λ n. Some n) (let place : old.count ≡ first.count + k =
          omega (arith, all.count, w.1, single.0) in place)
    ]

    kept : (other : ℕ) (b : Bool) → b ≡ (id == other) → ¬ (Contains (ids ++ id ∷ []) other) →
        new.index other ≡ first.index other
    kept other true e none =
        absurd (none (subst (λ n. Contains (ids ++ id ∷ []) n) (eqb-true id other (sym e))
        (Contains-push ids id)))
    kept other false e none = next.index other ∙ ap (λ b. cond b (Some old.count) (old.index other)) (sym e)
        ∙ all.kept other (λ has. none (Contains-append_left ids (id ∷ []) other has))

-- a list of distinct ids has the one at i nowhere before
absent_before :
    (ids : List ℕ) (i : ℕ) → i < length ids → IsDistinct nat_eq ids →
    IsAbsent (take i ids) (get_or ids i 0)
absent_before ids i below distinct k h =
    let within : k < i = (let w : k < length (take i ids) = slice_get_within
    (take i ids) k (get_or ids i 0) h in omega (arith, w, length-take i ids)) in
    let same : get_or ids k 0 ≡ get_or ids i 0 = sym (get_or-take i ids k 0 within)
    ∙ get_or_from_slice_get (take i ids) k (get_or ids i 0) 0 h in
    let apart : (get_or ids k 0 == get_or ids i 0) ≡ false =
    apart_from_distinct nat_eq ids k i 0 distinct within below in
    let equal : (get_or ids k 0 == get_or ids i 0) ≡ true = eq-eqb (get_or ids k 0) (get_or ids i 0) same in
    cc

-- the next of several ids is given the next index
pub gives_next :
    (ids : List ℕ) (i id : ℕ) (first old new : IndexMap) → i < length ids →
    id ≡ get_or ids i id → IsDistinct nat_eq ids → GivesAll first old (take i ids) →
    GivesNext old new id → GivesAll first new (take (i + 1) ids)
gives_next ids i id first old new below at distinct all next =
    let place : id ≡ get_or ids i 0 = at ∙ get_or_default ids i id 0 below in
    let here : take (i + 1) ids ≡ take i ids ++ id ∷ [] = take_more ids i 0 below
    ∙ ap (λ (n : ℕ). take i ids ++ n ∷ []) (sym place) in
    let absent : IsAbsent (take i ids) id = subst (λ n. IsAbsent (take i ids) n) (sym place)
    (absent_before ids i below distinct) in
    subst (λ (given : List ℕ). GivesAll first new given) (sym here)
    (gives_push (take i ids) id first old new absent all next)

-- an id has a place in a list, or stands nowhere in it
place_or_absent : (ids : List ℕ) (id : ℕ) → ((k : ℕ) × (slice_get ids k ≡ Some id)) ⊎ IsAbsent ids id
place_or_absent [] id = inr (λ k h. (let c : ⊥ = cc in c))
place_or_absent (x ∷ ids) id = by_test (x == id) refl (place_or_absent ids id)
  where
    behind : false ≡ (x == id) → IsAbsent ids id → IsAbsent (x ∷ ids) id
    behind e absent zero h = let test : (x == id) ≡ true = eq-eqb x id cc in let c : ⊥ = cc in c
    behind e absent (suc k) h = absent k h

    by_test : (b : Bool) → b ≡ (x == id) → ((k : ℕ) × (slice_get ids k ≡ Some id)) ⊎ IsAbsent ids id →
        ((k : ℕ) × (slice_get (x ∷ ids) k ≡ Some id)) ⊎ IsAbsent (x ∷ ids) id
    by_test true e rest = inl (0, ap (λ n. Some n) (eqb-true x id (sym e)))
    by_test false e (inl w) = inl (suc w.0, w.1)
    by_test false e (inr absent) = inr (behind e absent)

-- ids without an index that are given the next ones go to the end of the list of those that have one
pub indexes_all :
    (known ids : List ℕ) (old new : IndexMap) → All (λ id. old.index id ≡ None) ids →
    GivesAll old new ids → Indexes known old → Indexes (known ++ ids) new
indexes_all known ids old new fresh all is = record {
  count = omega (arith, all.count, is.count, length-append known ids);
  index = λ id k. (to id k (place_or_absent ids id), from id k);
}
  where
    to : (id k : ℕ) → ((j : ℕ) × (slice_get ids j ≡ Some id)) ⊎ IsAbsent ids id → new.index id ≡ Some k →
        slice_get (known ++ ids) k ≡ Some id
    to id k (inl w) h =
        let same : Some (old.count + w.0) ≡ Some k = sym (all.given w.0 id w.1) ∙ h in
        let number : old.count + w.0 ≡ k = cc in
        let place : k ≡ length known + w.0 = omega (arith, number, is.count) in
        subst (λ n. slice_get (known ++ ids) n ≡ Some id) (sym place) (slice_get-right known ids w.0 id w.1)
    to id k (inr absent) h = slice_get-left known ids k id
        ((is.index id k).0 (sym (all.kept id (not_contained ids id absent)) ∙ h))

    from : (id k : ℕ) → slice_get (known ++ ids) k ≡ Some id → new.index id ≡ Some k
    from id k h = elim (slice_get-parts known ids k id h) [
      | inl w ↦
          let has : old.index id ≡ Some k = (is.index id k).1 w in
          all.kept id (λ inside. (let none : old.index id ≡ None =
          All-contains (λ id. old.index id ≡ None) ids id fresh inside in let c : ⊥ = cc in c)) ∙ has
      | inr w ↦ all.given w.0 id w.2 ∙ ap (λ n. Some n) (let place : old.count + w.0 ≡ k =
          omega (arith, is.count, w.1) in place)
    ]
