-- Which entries of a map from types are kept, one entry after another.
use Rattle.std.proofs.Common.{◌≡◌, ℕ, ◌+◌, ◌<◌, ◌≤◌, Bool, true, false, cond, List, [], ◌∷◌, ◌++◌, length, map, Option, Some, None, refl, sym, ap, subst, ◌∙◌, arith, append_assoc, is_some}
use Rattle.std.specs.Prelude.{IsSome, if◌then◌else◌}
use Rattle.std.specs.List.{All, Contains}
use Rattle.std.specs.declared.cmp.Ordering.{Ordering}
use Rattle.std.specs.declared.cmp.Ordering.TheVariants as order
use Rattle.std.specs.Ordering.{nat_cmp, is_eq, MatchOrdering}
use Rattle.std.specs.BTreeMap.{BTreeMap, get, is_at, IsOrdered}
use Rattle.std.proofs.lemmas.Cmp.{nat_cmp_total, ranked}
use Rattle.std.proofs.lemmas.List.Elements.{All-nil, All-cons, All-append, All-push, All-weaker, All-contains, Contains-get_or}
use Rattle.std.proofs.lemmas.Map.Keys.{IsStrictlyIncreasing-from_sorted, sorted_from_strictly_increasing}
use Rattle.std.proofs.lemmas.Map.Lookups.{exact_unsigned}
use Rattle.std.proofs.lemmas.Map.Views.{btree_map_get_iff, btree_map_contains_key_iff}
use Rattle.wasm_module.specs.NameSections.{TypeEntry, IsLeast, AreKept}
use Rattle.wasm_module.specs.Renaming.{NewIndices, new_index}
use Rattle.wasm_module.specs.Steps.NameSections.{Keeps}

pub some_is : {A : Type 0} (x y : A) (o : Option A) → o ≡ Some x → o ≡ Some y → x ≡ y
some_is x y None e h = absurd cc
some_is x y (Some z) e h = cc

equal_is : (o : Ordering) → is_eq o ≡ true → o ≡ order.Equal
equal_is order.Less e = absurd cc
equal_is order.Equal e = refl
equal_is order.Greater e = absurd cc

ranks_itself : (n : ℕ) (o : Ordering) → MatchOrdering o (n < n) (n ≡ n) (n < n) → is_eq o ≡ true
ranks_itself n order.Less h = absurd (omega (arith, h))
ranks_itself n order.Equal h = refl
ranks_itself n order.Greater h = absurd (omega (arith, h))

no_new : (n : ℕ) → Some n ≡ None → ⊥
no_new n e = absurd cc

at_itself : (n : ℕ) → is_at (nat_cmp n) n ≡ true
at_itself n = ranks_itself n (nat_cmp n n) (ranked n n (nat_cmp n n) refl)

not_at : (n m : ℕ) → is_at (nat_cmp n) m ≡ false → n ≡ m → ⊥
not_at n m e same =
    let k : is_at (nat_cmp n) m ≡ true = subst (λ u. is_at (nat_cmp n) u ≡ true) same (at_itself n) in
    absurd cc

at_is : (n m : ℕ) → is_at (nat_cmp n) m ≡ true → n ≡ m
at_is n m e = exact_unsigned n m (equal_is (nat_cmp n m) e)

-- it is below the entry that was there, if there was one
abbrev pub IsBelow : TypeEntry → Option TypeEntry → Type 0
IsBelow e None = Unit {0}
IsBelow e (Some first) = e.index < first.index

module _ (new_indices : NewIndices) where
  -- the type is known
  abbrev IsKnown : TypeEntry → Type 0
  IsKnown e = e.index < length new_indices

  -- there is an entry for the new index of the type
  abbrev HasSome : (ℕ → Option TypeEntry) → TypeEntry → Type 0
  HasSome found e = (n : ℕ) → new_index new_indices e.index ≡ Some n → IsSome (found n)

  -- by what a map has at each new index
  record KeptBy (entries : List TypeEntry) (found : ℕ → Option TypeEntry) : Type 0 where
    least : (n : ℕ) (e : TypeEntry) → found n ≡ Some e
        → (new_index new_indices e.index ≡ Some n) × IsLeast new_indices entries e
    missing : All (λ e. HasSome found e) entries

  abbrev SameNew : TypeEntry → TypeEntry → Type 0
  SameNew e f = new_index new_indices f.index ≡ new_index new_indices e.index

  least_of_all : (entries : List TypeEntry) (e : TypeEntry) → IsLeast new_indices entries e →
      All (λ f. SameNew e f → e.index ≤ f.index) entries
  least_of_all entries e l =
      let prefix = All-weaker (λ f. SameNew e f → e.index < f.index) (λ f. SameNew e f → e.index ≤ f.index)
      (λ f h s. let k = h s in omega (arith, k)) l.before l.less in
      let back = All-cons (λ f. SameNew e f → e.index ≤ f.index) e l.after (λ s. omega arith) l.least in
      subst (λ (u : List TypeEntry). All (λ f. SameNew e f → e.index ≤ f.index) u) (sym l.parts)
      (All-append (λ f. SameNew e f → e.index ≤ f.index) l.before (e ∷ l.after) prefix back)

  least_on : (entries : List TypeEntry) (e last : TypeEntry) → IsLeast new_indices entries e →
      (SameNew e last → e.index ≤ last.index) → IsLeast new_indices (entries ++ last ∷ []) e
  least_on entries e last l h =
      record {
        before = l.before;
        after = l.after ++ last ∷ [];
        parts = ap (λ (u : List TypeEntry). u ++ last ∷ []) l.parts ∙ append_assoc l.before (e ∷ l.after)
            (last ∷ []);
        less = l.less;
        least = All-push (λ f. SameNew e f → e.index ≤ f.index) l.after last l.least h;
      }

  -- another entry has the new index already, and no greater old one
  stays_by : (entries : List TypeEntry) (found : ℕ → Option TypeEntry) (n : ℕ) (first e : TypeEntry) →
      KeptBy entries found → found n ≡ Some first → first.index ≤ e.index →
      new_index new_indices e.index ≡ Some n →
      KeptBy (entries ++ e ∷ []) found
  stays_by entries found n first e k there le mapped =
      record {
        least = λ m f h. let old = k.least m f h in (
          old.0,
          least_on entries f e old.1 (λ same.
              let m-is : n ≡ m = some_is n m (new_index new_indices e.index) mapped (same ∙ old.0) in
              let f-is : first ≡ f = some_is first f (found m) (ap found (sym m-is) ∙ there) h in
              subst (λ (u : TypeEntry). u.index ≤ e.index) f-is le),
        );
        missing = All-push (HasSome found) entries e k.missing
            (λ m has. subst (λ j. IsSome (found j)) (some_is n m (new_index new_indices e.index) mapped has)
            (ap is_some there));
      }

  below_all : (entries : List TypeEntry) (found : ℕ → Option TypeEntry) (n : ℕ) (e f : TypeEntry)
      (o : Option TypeEntry) → KeptBy entries found → found n ≡ o → IsBelow e o →
      new_index new_indices e.index ≡ Some n → Contains entries f → SameNew e f → e.index < f.index
  below_all entries found n e f None k is below mapped there same =
      let some : is_some (found n) ≡ true = All-contains (HasSome found) entries f k.missing there n
      (same ∙ mapped) in
      let none : is_some (found n) ≡ false = ap is_some is in
      absurd cc
  below_all entries found n e f (Some first) k is below mapped there same =
      let old = k.least n first is in
      let le = All-contains (λ f. SameNew first f → first.index ≤ f.index) entries f
      (least_of_all entries first old.1) there in
      let k = le (same ∙ mapped ∙ sym old.0) in
      omega (arith, below, k)

  contained : (P : TypeEntry → Type 0) (entries : List TypeEntry) →
      ((f : TypeEntry) → Contains entries f → P f)
      → All P entries
  contained P entries h = λ k d lt. h _ (Contains-get_or entries k d lt)

  -- the entry takes its place
  put_by : (entries : List TypeEntry) (found after : ℕ → Option TypeEntry) (n : ℕ) (e : TypeEntry) →
      KeptBy entries found → IsBelow e (found n) → new_index new_indices e.index ≡ Some n →
      ((m : ℕ) → after m ≡ cond (is_at (nat_cmp n) m) (Some e) (found m)) →
      KeptBy (entries ++ e ∷ []) after
  put_by entries found after n e k below mapped h =
      record {
        least = λ m f there. at_each m f (is_at (nat_cmp n) m) refl (sym (h m) ∙ there);
        missing =
            All-push (HasSome after) entries e
            (All-weaker (HasSome found) (HasSome after)
            (λ f g m has. ap is_some (h m) ∙ still m (is_at (nat_cmp n) m) (g m has)) entries k.missing)
            (λ m has. subst (λ j. IsSome (after j)) (some_is n m (new_index new_indices e.index) mapped has)
            (ap is_some (h n) ∙ here n));
      }
    where
      new_least : IsLeast new_indices (entries ++ e ∷ []) e
      new_least = record {
        before = entries;
        after = [];
        parts = refl;
        less = contained (λ f. SameNew e f → e.index < f.index) entries
            (λ f there same. below_all entries found n e f (found n) k refl below mapped there same);
        least = All-nil (λ f. SameNew e f → e.index ≤ f.index);
      }

      at_each : (m : ℕ) (f : TypeEntry) (b : Bool) → is_at (nat_cmp n) m ≡ b
          → cond (is_at (nat_cmp n) m) (Some e) (found m) ≡ Some f
          → (new_index new_indices f.index ≡ Some m) × IsLeast new_indices (entries ++ e ∷ []) f
      at_each m f true is there =
          let m-is : n ≡ m = at_is n m is in
          let f-is : e ≡ f = some_is e f (Some e) refl (ap (λ b. cond b (Some e) (found m)) (sym is) ∙ there)
          in
          subst (λ (u : TypeEntry). (new_index new_indices u.index ≡ Some m)
          × IsLeast new_indices (entries ++ e ∷ []) u) f-is (mapped ∙ ap (λ k. Some k) m-is, new_least)
      at_each m f false is there =
          let old = k.least m f (ap (λ b. cond b (Some e) (found m)) (sym is) ∙ there) in (
            old.0,
            least_on entries f e old.1 (λ same.
                absurd (not_at n m is (some_is n m (new_index new_indices e.index) mapped (same ∙ old.0)))),
          )

      still : (m : ℕ) (b : Bool) → is_some (found m) ≡ true → is_some (cond b (Some e) (found m)) ≡ true
      still m true s = refl
      still m false s = s

      here : (m : ℕ) → is_some (cond (is_at (nat_cmp m) m) (Some e) (found m)) ≡ true
      here m = rw (at_itself m) refl

  -- ---- of the map's entries

  -- there is an entry for the new index of the type
  abbrev HasKey : List (ℕ × TypeEntry) → TypeEntry → Type 0
  HasKey kept e =
      (n : ℕ) → new_index new_indices e.index ≡ Some n → Contains (map (λ (p : ℕ × TypeEntry). p.0) kept) n

  by_get : (entries : List TypeEntry) (m : BTreeMap ℕ TypeEntry) → IsOrdered nat_cmp m →
      AreKept new_indices entries m.entries → KeptBy entries (get nat_cmp m)
  by_get entries m ordered k =
      record {
        least = λ n e h. k.are_least n e ((btree_map_get_iff nat_cmp_total exact_unsigned m ordered n e).0 h);
        missing =
            All-weaker (HasKey m.entries) (HasSome (get nat_cmp m))
            (λ e h n has. (btree_map_contains_key_iff nat_cmp_total exact_unsigned m n).1 (h n has)) entries
            k.none_missing;
      }

  from_get : (entries : List TypeEntry) (m : BTreeMap ℕ TypeEntry) → IsOrdered nat_cmp m →
      All IsKnown entries → KeptBy entries (get nat_cmp m) → AreKept new_indices entries m.entries
  from_get entries m ordered known k =
      record {
        known = known;
        ascending = IsStrictlyIncreasing-from_sorted (map (λ (p : ℕ × TypeEntry). p.0) m.entries) ordered;
        are_least = λ n e h. k.least n e ((btree_map_get_iff nat_cmp_total exact_unsigned m ordered n e).1 h);
        none_missing =
            All-weaker (HasSome (get nat_cmp m)) (HasKey m.entries)
            (λ e h n has. (btree_map_contains_key_iff nat_cmp_total exact_unsigned m n).0 (h n has)) entries
            k.missing;
      }

  pub none_kept : AreKept new_indices [] []
  none_kept =
      record {
        known = All-nil IsKnown;
        ascending = λ k lt. absurd (omega (arith, lt));
        are_least = λ n e h. absurd (let k = h.1 in omega (arith, k));
        none_missing = All-nil (HasKey []);
      }

  pub kept_stay : (entries : List TypeEntry) (m : BTreeMap ℕ TypeEntry) (n : ℕ) (first e : TypeEntry) →
      AreKept new_indices entries m.entries → get nat_cmp m n ≡ Some first → first.index ≤ e.index →
      IsKnown e → new_index new_indices e.index ≡ Some n
      → AreKept new_indices (entries ++ e ∷ []) m.entries
  kept_stay entries m n first e k there le known mapped =
      let ordered = sorted_from_strictly_increasing (map (λ (p : ℕ × TypeEntry). p.0) m.entries) k.ascending
      in
      from_get (entries ++ e ∷ []) m ordered (All-push IsKnown entries e k.known known)
      (stays_by entries (get nat_cmp m) n first e (by_get entries m ordered k) there le mapped)

  pub kept_put : (entries : List TypeEntry) (m after : BTreeMap ℕ TypeEntry) (n : ℕ) (e : TypeEntry)
      (o : Option TypeEntry) → IsOrdered nat_cmp m → IsOrdered nat_cmp after →
      AreKept new_indices entries m.entries → get nat_cmp m n ≡ o → IsBelow e o → IsKnown e →
      new_index new_indices e.index ≡ Some n →
      ((q : ℕ) → get nat_cmp after q ≡ cond (is_at (nat_cmp n) q) (Some e) (get nat_cmp m q)) →
      AreKept new_indices (entries ++ e ∷ []) after.entries
  kept_put entries m after n e o ordered was k is below known mapped h =
      from_get (entries ++ e ∷ []) after was (All-push IsKnown entries e k.known known)
      (put_by entries (get nat_cmp m) (get nat_cmp after) n e (by_get entries m ordered k)
      (subst (λ (o : Option TypeEntry). IsBelow e o) (sym is) below) mapped h)

  -- no entry of a deleted type stays
  pub deleted_goes : (entries : List TypeEntry) (kept : List (ℕ × TypeEntry)) (e : TypeEntry) →
      AreKept new_indices entries kept → IsKnown e → new_index new_indices e.index ≡ None →
      AreKept new_indices (entries ++ e ∷ []) kept
  deleted_goes entries kept e k known gone =
      record {
        known = All-push IsKnown entries e k.known known;
        ascending = k.ascending;
        are_least = λ n f h. let old = k.are_least n f h in (
          old.0,
          least_on entries f e old.1 (λ same. absurd (no_new n (sym old.0 ∙ sym same ∙ gone))),
        );
        none_missing = All-push (HasKey kept) entries e k.none_missing
            (λ n has. absurd (no_new n (sym has ∙ gone)));
      }

pub few_more : (n m : ℕ) (b : Bool) → n ≡ m + (if b then 0 else 1) → n ≤ m + 1
few_more n m true e = omega (arith, e)
few_more n m false e = omega (arith, e)

module _ (n : ℕ) (e : TypeEntry) (m after : BTreeMap ℕ TypeEntry) where
  pub keep_first : (first : TypeEntry) → get nat_cmp m n ≡ Some first → first.index ≤ e.index →
      Keeps n e m.entries m.entries
  keep_first first there le =
      record {
        keeps = λ new_indices entries k known mapped.
            kept_stay new_indices entries m n first e k there le known mapped;
        few = omega arith;
      }

  pub keep_new : (o : Option TypeEntry) (b : Bool) → get nat_cmp m n ≡ o → IsBelow e o → IsOrdered nat_cmp m →
      IsOrdered nat_cmp after →
      ((q : ℕ) → get nat_cmp after q ≡ cond (is_at (nat_cmp n) q) (Some e) (get nat_cmp m q)) →
      length after.entries ≡ length m.entries + (if b then 0 else 1) → Keeps n e m.entries after.entries
  keep_new o b is below ordered was h more =
      record {
        keeps = λ new_indices entries k known mapped.
            kept_put new_indices entries m after n e o ordered was k is below known mapped h;
        few = few_more (length after.entries) (length m.entries) b more;
      }
