-- Entries of a map from types are kept where each index is its own.
use Rattle.std.proofs.Common.{◌≡◌, ℕ, zero, suc, ◌<◌, ◌≤◌, List, [], ◌∷◌, ◌++◌, length, map, Some, inl, inr, refl, sym, ap, subst, ◌∙◌, arith}
use Rattle.std.specs.List.{All, Contains}
use Rattle.std.specs.List.Sorted.{IsStrictlyIncreasing}
use Rattle.std.proofs.lemmas.List.{length-map}
use Rattle.std.proofs.lemmas.List.Elements.{All-weaker, All-contains_itself, Contains-append_left, Contains-append_right}
use Rattle.std.proofs.lemmas.List.Kept.{AllPairs-from_increasing}
use Rattle.wasm_binary.specs.Grammar.{AreItems, none, next}
use Rattle.wasm_module.specs.NameSections.{TypeEntry, IsEntry, entry, IsLeast, AreKept}
use Rattle.wasm_module.specs.Renaming.{NewIndices, new_index}
use Rattle.wasm_module.proofs.Entries.{Ascend, first_or_later, later_in, first_in, none_in, later_above, tail_ascends, Kept, keys}
use Rattle.wasm_module.proofs.Rewriting.{some_number, same_number}

-- ---- lists

pub all_from : {A : Type 0} (P : A → Type 0) (xs : List A) → ((x : A) → Contains xs x → P x) → All P xs
all_from P xs f = All-weaker (λ x. Contains xs x) P f xs (All-contains_itself xs)

pub in_map : {A B : Type 0} (f : A → B) (x : A) (xs : List A) → Contains xs x → Contains (map f xs) (f x)
in_map f x [] h = absurd (none_in x h)
in_map f x (y ∷ ys) h =
    elim (first_or_later y x ys h) [
      | inl same ↦ subst (λ z. Contains (f y ∷ map f ys) (f z)) same (first_in (f y) (map f ys))
      | inr later ↦ later_in (f y) (f x) (map f ys) (in_map f x ys later)
    ]

-- what is around an element
pub record Around {A : Type 0} (xs : List A) (x : A) : Type 0 where
  pub before : List A
  pub after : List A
  pub parts : xs ≡ before ++ x ∷ after

pub around : {A : Type 0} (x : A) (xs : List A) → Contains xs x → Around xs x
around x [] h = absurd (none_in x h)
around x (y ∷ ys) h =
    elim (first_or_later y x ys h) [
      | inl same ↦ record { before = []; after = ys; parts = ap (λ z. z ∷ ys) same }
      | inr later ↦ let r = around x ys later in
          record { before = y ∷ r.before; after = r.after; parts = ap (λ u. y ∷ u) r.parts }
    ]

-- ---- entries

abbrev pub indices_of : List TypeEntry → List ℕ
indices_of es = map (λ (e : TypeEntry). e.index) es

pub no_entries : (es : List TypeEntry) → indices_of es ≡ [] → es ≡ []
no_entries [] e = refl
no_entries (x ∷ es) e = absurd cc

-- as many are kept as were found
pub found_long : (found : List TypeEntry) (kept : Kept) → indices_of found ≡ keys kept →
    length found ≡ length kept
found_long found kept e =
    sym (length-map found (λ (f : TypeEntry). f.index)) ∙ ap (λ (u : List ℕ). length u) e
    ∙ length-map kept (λ (p : ℕ × TypeEntry). p.0)

-- the entries behind their own indices
abbrev pub numbered : List TypeEntry → Kept
numbered es = map (λ (e : TypeEntry). (e.index, e)) es

pub numbered_keys : (es : List TypeEntry) → keys (numbered es) ≡ indices_of es
numbered_keys [] = refl
numbered_keys (e ∷ es) = ap (λ (u : List ℕ). e.index ∷ u) (numbered_keys es)

pub numbered_long : (es : List TypeEntry) → length (numbered es) ≡ length es
numbered_long [] = refl
numbered_long (e ∷ es) = ap (λ n. suc n) (numbered_long es)

numbered_in : (es : List TypeEntry) (n : ℕ) (e : TypeEntry) → Contains (numbered es) (n, e) →
    (e.index ≡ n) × Contains es e
numbered_in [] n e h = absurd (none_in (n, e) h)
numbered_in (x ∷ es) n e h =
    elim (first_or_later (x.index, x) (n, e) (numbered es) h) [
      | inl same ↦ (let is : x ≡ e = ap (λ (k : ℕ × TypeEntry). k.1) same in
          let its : x.index ≡ n = ap (λ (k : ℕ × TypeEntry). k.0) same in (
            sym (ap (λ (k : TypeEntry). k.index) is) ∙ its,
            subst (λ k. Contains (x ∷ es) k) is (first_in x es),
          ))
      | inr later ↦ (let r = numbered_in es n e later in (r.0, later_in x e es r.1))
    ]

before_less : (before : List TypeEntry) (e : TypeEntry) (after : List TypeEntry) →
    Ascend (indices_of (before ++ e ∷ after)) → (f : TypeEntry) → Contains before f → f.index < e.index
before_less [] e after up f h = absurd (none_in f h)
before_less (x ∷ before) e after up f h =
    let rest : List TypeEntry = before ++ e ∷ after in
    let there : Contains (indices_of rest) e.index = in_map (λ (k : TypeEntry). k.index) e rest
    (Contains-append_right before (e ∷ after) e (first_in e after)) in
    elim (first_or_later x f before h) [
      | inl same ↦ subst (λ (k : TypeEntry). k.index < e.index) same
          (later_above x.index e.index (indices_of rest) up there)
      | inr later ↦ before_less before e after (tail_ascends x.index (indices_of rest) up) f later
    ]

-- of ascending entries one that is not above any with the same new index is the least
pub lowest_is_least : (indices : NewIndices) (es : List TypeEntry) → Ascend (indices_of es) →
    (e : TypeEntry) → Contains es e →
    ((f : TypeEntry) → Contains es f → new_index indices f.index ≡ new_index indices e.index →
    e.index ≤ f.index) → IsLeast indices es e
lowest_is_least indices es up e h low =
    let a = around e es h in
    record {
      before = a.before;
      after = a.after;
      parts = a.parts;
      less = all_from (λ f. new_index indices f.index ≡ new_index indices e.index → e.index < f.index)
          a.before
          (λ f k same. let le = low f (subst (λ (u : List TypeEntry). Contains u f) (sym a.parts)
          (Contains-append_left a.before (e ∷ a.after) f k)) same in
          let less = before_less a.before e a.after
          (subst (λ (u : List TypeEntry). Ascend (indices_of u)) a.parts up) f k in
          absurd (omega (arith, le, less)));
      least = all_from (λ f. new_index indices f.index ≡ new_index indices e.index → e.index ≤ f.index)
          a.after
          (λ f k same. low f (subst (λ (u : List TypeEntry). Contains u f) (sym a.parts)
          (Contains-append_right a.before (e ∷ a.after) f (later_in e f a.after k))) same);
    }

-- where each index is its own, all entries are kept
pub least_of_own : (indices : NewIndices) (es : List TypeEntry) → Ascend (indices_of es) →
    ((f : TypeEntry) → Contains es f → new_index indices f.index ≡ Some f.index) → (e : TypeEntry) →
    Contains es e → IsLeast indices es e
least_of_own indices es up its e h =
    lowest_is_least indices es up e h (λ f k same.
    let one = same_number f.index e.index (sym (its f k) ∙ same ∙ its e h) in omega (arith, one))

-- an index that has a new one is below the number of indices
pub has_new_one : (indices : NewIndices) (k n : ℕ) → new_index indices k ≡ Some n → k < length indices
has_new_one [] k n e = absurd cc
has_new_one (x ∷ xs) zero n e = omega arith
has_new_one (x ∷ xs) (suc k) n e = let less = has_new_one xs k n e in omega (arith, less)

pub own_kept : (indices : NewIndices) (es : List TypeEntry) → IsStrictlyIncreasing (indices_of es) →
    ((f : TypeEntry) → Contains es f → new_index indices f.index ≡ Some f.index) →
    AreKept indices es (numbered es)
own_kept indices es up its =
    let ascend = AllPairs-from_increasing (indices_of es) up in
    record {
      known = all_from (λ e. e.index < length indices) es
          (λ e h. has_new_one indices e.index e.index (its e h));
      ascending = subst (λ (u : List ℕ). IsStrictlyIncreasing u) (sym (numbered_keys es)) up;
      are_least = λ n e h. (let k = numbered_in es n e h in (
        its e k.1 ∙ ap some_number k.0,
        least_of_own indices es ascend its e k.1,
      ));
      none_missing =
          all_from (λ e. (n : ℕ) → new_index indices e.index ≡ Some n → Contains (keys (numbered es)) n) es
          (λ e h n is. subst (λ m. Contains (keys (numbered es)) m)
          (same_number e.index n (sym (its e h) ∙ is))
          (subst (λ (u : List ℕ). Contains u e.index) (sym (numbered_keys es))
          (in_map (λ (k : TypeEntry). k.index) e es h)));
    }

module _ (Follows : List ℕ → Type 0) where
  follows_entry : (text : List ℕ) (e : TypeEntry) → IsEntry Follows text e → Follows e.follows
  follows_entry _ _ (entry text follows index h f) = f

  pub follows_in : (texts : List ℕ) (es : List TypeEntry) → AreItems (IsEntry Follows) texts es →
      (e : TypeEntry) → Contains es e → Follows e.follows
  follows_in _ _ none e h = absurd (none_in e h)
  follows_in _ _ (next text others x xs t ts) e h =
      elim (first_or_later x e xs h) [
        | inl same ↦ subst (λ (k : TypeEntry). Follows k.follows) same (follows_entry text x t)
        | inr later ↦ follows_in others xs ts e later
      ]
