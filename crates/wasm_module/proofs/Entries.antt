-- The entries of a map from types: which of them are kept, and their texts.
use Rattle.std.proofs.Common.{◌≡◌, ℕ, zero, suc, ◌<◌, ◌≤◌, List, [], ◌∷◌, ◌++◌, length, map, Some, ◌⊎◌, inl, inr, refl, sym, ap, subst, ◌∙◌, arith, append_assoc}
use Rattle.std.specs.List.{AllPairs, Contains}
use Rattle.std.proofs.lemmas.List.{append_cancel_right}
use Rattle.std.proofs.lemmas.List.Elements.{All-contains, Contains-append_right, Contains-append_cases}
use Rattle.std.proofs.lemmas.List.Kept.{AllPairs-from_increasing}
use Rattle.wasm_binary.specs.Grammar.{AreItems}
use Rattle.wasm_binary.specs.Leb128.{IsU32}
use Rattle.wasm_binary.specs.Steps.Reading.{u32_at}
use Rattle.wasm_module.specs.NameSections.{TypeEntry, type_entry, IsEntry, entry, IsLeast, AreKept}
use Rattle.wasm_module.specs.Renaming.{NewIndices, new_index}
use Rattle.wasm_module.proofs.SizedContents.{number_read, same_number}
use Rattle.wasm_module.proofs.TextItems.{IsPrefixFree, items_once}

-- ---- ascending numbers

abbrev pub Ascend : List ℕ → Type 0
Ascend = AllPairs (λ x y. x < y)

pub single : {A : Type 0} (x n : A) → Contains (x ∷ []) n → x ≡ n
single x n (zero, lt, e) = e
single x n (suc k, lt, e) = absurd (omega (arith, lt))

pub first_or_later : {A : Type 0} (x n : A) (xs : List A) → Contains (x ∷ xs) n → (x ≡ n) ⊎ Contains xs n
first_or_later x n xs h =
    elim (Contains-append_cases (x ∷ []) xs n h) [ inl one ↦ inl (single x n one) | inr later ↦ inr later ]

pub later_in : {A : Type 0} (x n : A) (xs : List A) → Contains xs n → Contains (x ∷ xs) n
later_in x n xs h = Contains-append_right (x ∷ []) xs n h

pub first_in : {A : Type 0} (x : A) (xs : List A) → Contains (x ∷ xs) x
first_in x xs = (0, omega arith, refl)

pub none_in : {A : Type 0} (n : A) → Contains [] n → ⊥
none_in n h = omega (arith, h.1)

pub later_above : (x n : ℕ) (xs : List ℕ) → Ascend (x ∷ xs) → Contains xs n → x < n
later_above x n xs up h = subst (λ k. x < k) h.2 (up 0 (suc h.0) n (omega arith) (omega (arith, h.1)))

pub tail_ascends : (x : ℕ) (xs : List ℕ) → Ascend (x ∷ xs) → Ascend xs
tail_ascends x xs up = λ i j d lt fits. up (suc i) (suc j) d (omega (arith, lt)) (omega (arith, fits))

same_heads : (x y : ℕ) (xs ys : List ℕ) → Ascend (x ∷ xs) → Ascend (y ∷ ys) → Contains (y ∷ ys) x →
    Contains (x ∷ xs) y → x ≡ y
same_heads x y xs ys up its h g =
    elim (first_or_later y x ys h) [
      | inl e ↦ sym e
      | inr later ↦ elim (first_or_later x y xs g) [
        | inl e ↦ e
        | inr behind ↦ absurd (let a = later_above y x ys its later in let b = later_above x y xs up behind in
            omega (arith, a, b))
      ]
    ]

tail_members : (x y n : ℕ) (xs ys : List ℕ) → x ≡ y → Ascend (x ∷ xs) → Contains (y ∷ ys) n →
    Contains xs n → Contains ys n
tail_members x y n xs ys e up all h =
    elim (first_or_later y n ys all) [
      | inl same ↦ absurd (let a = later_above x n xs up h in omega (arith, a, e, same))
      | inr later ↦ later
    ]

pub same_members : (xs ys : List ℕ) → Ascend xs → Ascend ys → ((n : ℕ) → Contains xs n → Contains ys n) →
    ((n : ℕ) → Contains ys n → Contains xs n) → xs ≡ ys
same_members [] [] up its to from = refl
same_members [] (y ∷ ys) up its to from = absurd (none_in y (from y (first_in y ys)))
same_members (x ∷ xs) [] up its to from = absurd (none_in x (to x (first_in x xs)))
same_members (x ∷ xs) (y ∷ ys) up its to from =
    let e = same_heads x y xs ys up its (to x (first_in x xs)) (from y (first_in y ys)) in
    let rest = same_members xs ys (tail_ascends x xs up) (tail_ascends y ys its)
    (λ n h. tail_members x y n xs ys e up (to n (later_in x n xs h)) h)
    (λ n h. tail_members y x n ys xs (sym e) its (from n (later_in y n ys h)) h) in
    ap (λ k. k ∷ xs) e ∙ ap (λ (u : List ℕ). y ∷ u) rest

-- ---- the entries that are kept

abbrev pub Kept : Type 0
Kept = List (ℕ × TypeEntry)

abbrev pub keys : Kept → List ℕ
keys kept = map (λ (p : ℕ × TypeEntry). p.0) kept

-- where the two entries are among the same ones
splits : (b : List TypeEntry) (e : TypeEntry) (a c : List TypeEntry) (f : TypeEntry) (d : List TypeEntry) →
    b ++ e ∷ a ≡ c ++ f ∷ d →
    (e ≡ f) ⊎ ((Contains c e × Contains a f) ⊎ (Contains b f × Contains d e))
splits [] e a [] f d h = inl cc
splits [] e a (x ∷ c) f d h =
    let first : e ≡ x = cc in
    let rest : a ≡ c ++ f ∷ d = cc in
    inr (inl (
      subst (λ k. Contains (k ∷ c) e) first (first_in e c),
      subst (λ (u : List TypeEntry). Contains u f) (sym rest)
          (Contains-append_right c (f ∷ d) f (first_in f d)),
    ))
splits (x ∷ b) e a [] f d h =
    let first : x ≡ f = cc in
    let rest : b ++ e ∷ a ≡ d = cc in
    inr (inr (
      subst (λ k. Contains (k ∷ b) f) (sym first) (first_in f b),
      subst (λ (u : List TypeEntry). Contains u e) rest
          (Contains-append_right b (e ∷ a) e (first_in e a)),
    ))
splits (x ∷ b) e a (y ∷ c) f d h =
    let rest : b ++ e ∷ a ≡ c ++ f ∷ d = cc in
    elim (splits b e a c f d rest) [
      | inl same ↦ inl same
      | inr (inl k) ↦ inr (inl (later_in y e c k.0, k.1))
      | inr (inr k) ↦ inr (inr (later_in x f b k.0, k.1))
    ]

pub least_in : (indices : NewIndices) (es : List TypeEntry) (e : TypeEntry) → IsLeast indices es e →
    Contains es e
least_in indices es e l =
    subst (λ (u : List TypeEntry). Contains u e) (sym l.parts)
    (Contains-append_right l.before (e ∷ l.after) e (first_in e l.after))

pub least_once : (new_indices : NewIndices) (all : List TypeEntry) (e f : TypeEntry) →
    IsLeast new_indices all e → IsLeast new_indices all f →
    new_index new_indices e.index ≡ new_index new_indices f.index → e ≡ f
least_once new_indices all e f l m same =
    elim (splits l.before e l.after m.before f m.after (sym l.parts ∙ m.parts)) [
      | inl is ↦ is
      | inr (inl k) ↦ absurd (
          let a = All-contains
          (λ g. new_index new_indices g.index ≡ new_index new_indices f.index → f.index < g.index)
          m.before e m.less k.0 same in
          let b = All-contains
          (λ g. new_index new_indices g.index ≡ new_index new_indices e.index → e.index ≤ g.index)
          l.after f l.least k.1 (sym same) in
          omega (arith, a, b))
      | inr (inr k) ↦ absurd (
          let a = All-contains
          (λ g. new_index new_indices g.index ≡ new_index new_indices e.index → e.index < g.index)
          l.before f l.less k.0 (sym same) in
          let b = All-contains
          (λ g. new_index new_indices g.index ≡ new_index new_indices f.index → f.index ≤ g.index)
          m.after e m.least k.1 same in
          omega (arith, a, b))
    ]

pub has_entry : (kept : Kept) (n : ℕ) → Contains (keys kept) n → (e : TypeEntry) × Contains kept (n, e)
has_entry [] n h = absurd (none_in n h)
has_entry (p ∷ kept) n h =
    elim (first_or_later p.0 n (keys kept) h) [
      | inl same ↦ (p.1, subst (λ k. Contains (p ∷ kept) (k, p.1)) same (first_in p kept))
      | inr later ↦ let g = has_entry kept n later in (g.0, later_in p (n, g.0) kept g.1)
    ]

keys_in : (new_indices : NewIndices) (all : List TypeEntry) (a b : Kept) → AreKept new_indices all a →
    AreKept new_indices all b → (n : ℕ) → Contains (keys a) n → Contains (keys b) n
keys_in new_indices all a b h g n has =
    let e = has_entry a n has in
    let l = h.are_least n e.0 e.1 in
    let there : Contains all e.0 = subst (λ (u : List TypeEntry). Contains u e.0) (sym l.1.parts)
    (Contains-append_right l.1.before (e.0 ∷ l.1.after) e.0 (first_in e.0 l.1.after)) in
    All-contains (λ k. (j : ℕ) → new_index new_indices k.index ≡ Some j → Contains (keys b) j) all e.0
    g.none_missing there n l.0

same_pairs : (a b : Kept) → keys a ≡ keys b →
    ((n : ℕ) (e f : TypeEntry) → Contains a (n, e) → Contains b (n, f) → e ≡ f) → a ≡ b
same_pairs [] [] h same = refl
same_pairs [] (q ∷ b) h same = absurd cc
same_pairs (p ∷ a) [] h same = absurd cc
same_pairs (p ∷ a) (q ∷ b) h same =
    let first : p.0 ≡ q.0 = cc in
    let rest : keys a ≡ keys b = cc in
    let entries-are : p.1 ≡ q.1 = same p.0 p.1 q.1 (first_in p a)
    (subst (λ k. Contains (q ∷ b) (k, q.1)) (sym first) (first_in q b)) in
    let pairs : p ≡ q = ap (λ k. (k, p.1)) first ∙ ap (λ k. (q.0, k)) entries-are in
    let others = same_pairs a b rest
    (λ n e f k l. same n e f (later_in p (n, e) a k) (later_in q (n, f) b l)) in
    ap (λ k. k ∷ a) pairs ∙ ap (λ (u : Kept). q ∷ u) others

pub kept_once : (new_indices : NewIndices) (all : List TypeEntry) (a b : Kept) → AreKept new_indices all a →
    AreKept new_indices all b → a ≡ b
kept_once new_indices all a b h g =
    same_pairs a b
    (same_members (keys a) (keys b) (AllPairs-from_increasing (keys a) h.ascending)
    (AllPairs-from_increasing (keys b) g.ascending) (keys_in new_indices all a b h g)
    (keys_in new_indices all b a g h))
    (λ n e f k l. let x = h.are_least n e k in let y = g.are_least n f l in
    least_once new_indices all e f x.1 y.1 (x.0 ∙ sym y.0))

-- ---- the text of a map

entry_once : (Follows : List ℕ → Type 0) → IsPrefixFree Follows → (text other : List ℕ) (e f : TypeEntry)
    (r s : List ℕ) → IsEntry Follows text e → IsEntry Follows other f → text ++ r ≡ other ++ s →
    (e ≡ f) × (r ≡ s)
entry_once Follows free _ _ _ _ r s (entry text follows index h g) (entry text' follows' index' h' g') e =
    let bytes : text ++ (follows ++ r) ≡ text' ++ (follows' ++ s) =
    sym (append_assoc text follows r) ∙ e ∙ append_assoc text' follows' s in
    let n = same_number (u32_at (text ++ (follows ++ r))) index index' (follows ++ r) (follows' ++ s)
    (number_read (text ++ (follows ++ r)) text index (follows ++ r) h refl)
    (number_read (text ++ (follows ++ r)) text' index' (follows' ++ s) h' bytes) in
    let behind : r ≡ s = free follows follows' r s g g' n.1 in
    let its : follows ≡ follows' = append_cancel_right follows follows' r
    (n.1 ∙ ap (λ (u : List ℕ). follows' ++ u) (sym behind)) in
    let prefix : text ≡ text' = append_cancel_right text text' (follows ++ r)
    (bytes ∙ ap (λ (u : List ℕ). text' ++ u) (sym n.1)) in (
      ap (λ k. type_entry k (length text) follows) n.0
          ∙ ap (λ (u : List ℕ). type_entry index' (length u) follows) prefix
          ∙ ap (λ (u : List ℕ). type_entry index' (length text') u) its,
      behind,
    )

-- the entries behind their number
pub entries_counted_once : (Follows : List ℕ → Type 0) → IsPrefixFree Follows →
    (count texts other behind : List ℕ) (es fs : List TypeEntry) → IsU32 count (length es) →
    IsU32 other (length fs) → AreItems (IsEntry Follows) texts es → AreItems (IsEntry Follows) behind fs →
    count ++ texts ≡ other ++ behind → (es ≡ fs) × (texts ≡ behind)
entries_counted_once Follows free count texts other behind es fs h g are its e =
    let n = same_number (u32_at (count ++ texts)) (length es) (length fs) texts behind
    (number_read (count ++ texts) count (length es) texts h refl)
    (number_read (count ++ texts) other (length fs) behind g e) in (
      items_once (IsEntry Follows) (entry_once Follows free) texts es behind fs [] [] are its
          (ap (λ (u : List ℕ). u ++ []) n.1) n.0,
      n.1,
    )
