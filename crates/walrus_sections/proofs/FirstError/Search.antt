-- The first index of a list of definitions that is at or past an end.
use Rattle.std.proofs.Common.{◌≡◌, ℕ, ◌+◌, ◌<◌, suc, Bool, true, false, nat_le, List, [], ◌∷◌, ◌++◌, length, get_or, drop, drop-cons, add-one, map, find, Option, option_map, refl, sym, ap, ◌∙◌, arith, zero, cond, ◌^◌, None, Some, inl, inr}
use Rattle.std.specs.{Option.option_or, List.position_or_len}
use Rattle.std.proofs.lemmas.{Bool.leb-false, Bool.cases_lt, List.Folds.find-append, List.Folds.find_at, List.Sums.fails_before_first, Option.slice_get-get_or}
use Rattle.walrus_ty.specs.declared.records.EntryAt.{EntryAt}
use Rattle.walrus_sections.specs.declared.error.ReadError.TheVariants.{BadIndex, TooMany}
use Rattle.walrus_ty.specs.{Definition.Definition, Definition.Names, Definition.names_of, Records.entry_definition}
use Rattle.walrus_sections.specs.FirstError.{IndexUse, index_uses_from, first_out_of_range, group_error, entry_limit}

-- the first of two lists is that of the first list, or else that of the second
pub find_in_two :
    {X : Type 0} (p : X → Bool) (xs ys : List X) →
    find p (xs ++ ys) ≡ option_or (find p xs) (find p ys)
find_in_two p xs ys = find-append p xs ys

pub naming : ℕ → ℕ → IndexUse
naming i k = record { entry = i; index = k }

one_more :
    (b : Bool) (end i k : ℕ) (ks : List ℕ) → b ≡ nat_le end k →
    first_out_of_range end (map (naming i) ks) ≡ option_map (naming i) (find (nat_le end) ks) →
    first_out_of_range end (map (naming i) (k ∷ ks)) ≡
    option_map (naming i) (find (nat_le end) (k ∷ ks))
unfolding naming
one_more true end i k ks e h = rw (← e) refl
one_more false end i k ks e h = rw (← e) h

bad_of_one :
    (end i : ℕ) (ks : List ℕ) →
    first_out_of_range end (map (naming i) ks) ≡ option_map (naming i) (find (nat_le end) ks)
bad_of_one end i [] = refl
bad_of_one end i (k ∷ ks) = one_more (nat_le end k) end i k ks refl (bad_of_one end i ks)

pub bad_of_cons :
    (end i : ℕ) (d : Definition) (ds : List Definition) (o : Option ℕ) →
    o ≡ find (nat_le end) (names_of d) →
    first_out_of_range end (index_uses_from i (d ∷ ds)) ≡
    option_or (option_map (naming i) o) (first_out_of_range end (index_uses_from (i + 1) ds))
unfolding naming
bad_of_cons end i d ds o found =
    find_in_two (λ n. nat_le end n.index) (map (λ k. record { entry = i; index = k }) (names_of d))
    (index_uses_from (i + 1) ds) ∙ ap (λ (f : Option IndexUse).
    option_or f (first_out_of_range end (index_uses_from (i + 1) ds))) (bad_of_one end i (names_of d)
    ∙ ap (option_map (naming i)) (sym found))

from_drop :
    (es : List EntryAt) (e : EntryAt) (i : ℕ) → i < length es → e ≡ get_or es i e →
    drop i es ≡ e ∷ drop (i + 1) es
from_drop es e i within is = rw add-one (drop-cons es i e within ∙ ap (λ x. x ∷ drop (suc i) es) (sym is))

-- the bad indices from the i-th definition on are its own, and then those from the next one on
pub bad_from :
    (end start i : ℕ) (es : List EntryAt) (e : EntryAt) (o : Option ℕ) → i < length es →
    e ≡ get_or es i e → o ≡ find (nat_le end) (names_of (entry_definition e)) →
    first_out_of_range end (index_uses_from (start + i) (map entry_definition (drop i es))) ≡ option_or
    (option_map (λ k. record { entry = start + i; index = k }) o)
    (first_out_of_range end (index_uses_from (start + (i + 1)) (map entry_definition (drop (i + 1) es))))
unfolding naming
bad_from end start i es e o within is found =
    let rest : List Definition = map entry_definition (drop (i + 1) es) in
    let next : start + i + 1 ≡ start + (i + 1) = omega arith in
    ap (λ (l : List EntryAt). first_out_of_range end (index_uses_from (start + i) (map entry_definition l)))
    (from_drop es e i within is)
    ∙ (bad_of_cons end (start + i) (entry_definition e) rest o found
    ∙ ap (λ (n : ℕ). option_or (option_map (naming (start + i)) o)
    (first_out_of_range end (index_uses_from n rest))) next)

-- where nothing is found, nothing passes
pub none_found :
    {X : Type 0} (p : X → Bool) (xs : List X) → find p xs ≡ None → (i : ℕ) (d : X) → i < length xs →
    p (get_or xs i d) ≡ false
none_found p xs h i d below = fails_before_first p xs i d (elim (cases_lt i (position_or_len p xs)) [
  | inl w ↦ w
  | inr w ↦ absurd (let at = slice_get-get_or xs (position_or_len p xs) d (omega (arith, w, below)) in
      let found = sym (find_at p xs) ∙ h in cc)
])

none_past :
    (end : ℕ) (ks : List ℕ) → find (nat_le end) ks ≡ None → (i k : ℕ) → i < length ks →
    get_or ks i k ≡ k → k < end
none_past end ks h i k w e = leb-false end k (ap (nat_le end) (sym e) ∙ none_found (nat_le end) ks h i k w)

left_none : {X : Type 0} (o p : Option X) → option_or o p ≡ None → o ≡ None
left_none None p h = refl
left_none (Some x) p h = cc

right_none : {X : Type 0} (o p : Option X) → option_or o p ≡ None → p ≡ None
right_none None p h = h
right_none (Some x) p h = cc

mapped_none : {X Y : Type 0} (f : X → Y) (o : Option X) → option_map f o ≡ None → o ≡ None
mapped_none f None h = refl
mapped_none f (Some x) h = cc

none_bad :
    (end i : ℕ) (ds : List Definition) → first_out_of_range end (index_uses_from i ds) ≡ None →
    (u k : ℕ) (d : Definition) → u < length ds → Names (get_or ds u d) k → k < end
none_bad end i [] h u k d w named = absurd (omega arith)
none_bad end i (e ∷ ds) h zero k d w named =
    let both = sym (bad_of_cons end i e ds (find (nat_le end) (names_of e)) refl) ∙ h in
    let own = mapped_none (naming i) (find (nat_le end) (names_of e))
    (left_none _ (first_out_of_range end (index_uses_from (i + 1) ds)) both) in
    none_past end (names_of e) own named.0 k named.1 named.2
none_bad end i (e ∷ ds) h (suc u) k d w named =
    let both = sym (bad_of_cons end i e ds (find (nat_le end) (names_of e)) refl) ∙ h in
    none_bad end (i + 1) ds (right_none (option_map (naming i) (find (nat_le end) (names_of e))) _ both) u k d
    (omega arith) named

-- a group without error: few entries, each of which names only indices below its end
pub record IsSound (start : ℕ) (ds : List Definition) : Type 0 where
  pub few : start + length ds < 2 ^ 32
  pub below : (u k : ℕ) (d : Definition) → u < length ds → Names (get_or ds u d) k → k < start + length ds

sound : (b : Bool) (start : ℕ) (ds : List Definition) → b ≡ nat_le entry_limit (start + length ds) →
    (cond b (Some TooMany) (option_map
    (λ (n : IndexUse). BadIndex n.entry n.index (start + length ds))
    (first_out_of_range (start + length ds) (index_uses_from start ds)))) ≡ None → IsSound start ds
sound true start ds e h = absurd cc
sound false start ds e h = record {
  few = leb-false entry_limit (start + length ds) (sym e);
  below = none_bad (start + length ds) start ds
      (mapped_none (λ (n : IndexUse). BadIndex n.entry n.index (start + length ds)) _ h);
}

pub sound_from_no_error :
    (start : ℕ) (ds : List Definition) → group_error start ds ≡ None → IsSound start ds
sound_from_no_error start ds h = sound (nat_le entry_limit (start + length ds)) start ds refl h
