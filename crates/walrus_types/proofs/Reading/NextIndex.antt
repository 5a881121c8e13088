-- What a table holds of the indices of a section that were read so far, and what the next index
-- adds to it.
-- Over the number of indices, which of them are `Single`s, the type that each one reads as, the id
-- of each one, the slots and the map.
use Rattle.std.proofs.Common.{◌≡◌, ℕ, zero, suc, append_assoc, ◌+◌, ◌<◌, List, [], ◌∷◌, ◌++◌, length, refl, sym, ap, subst, ◌∙◌, arith, Some, None, Option, Bool, true, false, cond, ◌⊎◌, inl, inr}
use Rattle.std.specs.{List.slice_index, Cmp.IsEquivalence, List.range_with_len}
use Rattle.std.proofs.lemmas.{List.length_push, List.get_or_append_left, List.get_or_at, List.append-nil, Bool.cases_lt}
use Rattle.walrus_arena.specs.Arena.{Slots, get}
use Rattle.walrus_types.proofs.Tables.NewType.{one_of}

module _ {D : Type 0} (eq : D → D → Bool) where
  -- a live Single below i that holds what i reads as
  pub record IsEarlier (is_single : ℕ → Bool) (ty : ℕ → D) (r : List ℕ) (i j : ℕ) : Type 0 where
    pub below : j < i
    pub single : is_single j ≡ true
    pub live : slice_index r j ≡ j
    pub same : eq (ty j) (ty i) ≡ true

  pub record Holds (n : ℕ) (is_single : ℕ → Bool) (ty : ℕ → D) (r : List ℕ) (slots : Slots D)
      (map : D → Option ℕ) : Type 0 where
    pub many : length r ≡ n
    pub slots_many : length slots ≡ n
    pub live : (i : ℕ) → i < n → slice_index r i ≡ i → get slots i ≡ Some (ty i)
    pub dead : (i : ℕ) → i < n → ¬ (slice_index r i ≡ i) → get slots i ≡ None
    pub recs : (i : ℕ) → i < n → is_single i ≡ false → slice_index r i ≡ i
    pub to_candidate : (i : ℕ) → i < n → ¬ (slice_index r i ≡ i) →
        IsEarlier is_single ty r i (slice_index r i)
    pub fresh : (i j : ℕ) → i < n → is_single i ≡ true → slice_index r i ≡ i →
        ¬ (IsEarlier is_single ty r i j)
    pub mapped : (q : D) (j : ℕ) → map q ≡ Some j → (j < n) × (is_single j ≡ true) × (slice_index r j ≡ j)
        × (eq (ty j) q ≡ true)
    pub all : (j : ℕ) → j < n → is_single j ≡ true → slice_index r j ≡ j → map (ty j) ≡ Some j

pub below_or_last : (i n : ℕ) → i < n + 1 → (i < n) ⊎ (i ≡ n)
below_or_last i n h = elim (cases_lt i n) [ inl w ↦ inl w | inr w ↦ inr (omega (arith, h, w)) ]

module _ {D : Type 0} (eq : D → D → Bool) (n : ℕ) (is_single : ℕ → Bool) (ty : ℕ → D) (r : List ℕ)
    (slots : Slots D) (map : D → Option ℕ) (is : Holds eq n is_single ty r slots map) where
  -- the index n stands for j, its slot is o, and the map is then map'
  record IsNext (j : ℕ) (o : Option D) (map' : D → Option ℕ) : Type 0 where
    pub live : j ≡ n → o ≡ Some (ty n)
    pub dead : ¬ (j ≡ n) → o ≡ None
    pub rec : is_single n ≡ false → j ≡ n
    pub to_candidate : ¬ (j ≡ n) → IsEarlier eq is_single ty r n j
    pub fresh : (k : ℕ) → is_single n ≡ true → j ≡ n → ¬ (IsEarlier eq is_single ty r n k)
    pub mapped : (q : D) (k : ℕ) → map' q ≡ Some k → (map q ≡ Some k)
        ⊎ ((k ≡ n) × (is_single n ≡ true) × (j ≡ n) × (eq (ty n) q ≡ true))
    pub kept : (k : ℕ) → k < n → is_single k ≡ true → slice_index r k ≡ k → map' (ty k) ≡ Some k
    pub own : is_single n ≡ true → j ≡ n → map' (ty n) ≡ Some n

  module _ (j : ℕ) (o : Option D) (map' : D → Option ℕ) (next : IsNext j o map') where
    old_r : (i : ℕ) → i < n → slice_index (r ++ j ∷ []) i ≡ slice_index r i
    old_r i h = get_or_append_left r (j ∷ []) 0 i (omega (arith, h, is.many))

    last_r : (i : ℕ) → i ≡ n → slice_index (r ++ j ∷ []) i ≡ j
    last_r i e = get_or_at r j [] 0 i (is.many ∙ sym e)

    own_last : (i : ℕ) → i ≡ n → slice_index (r ++ j ∷ []) i ≡ i → j ≡ n
    own_last i e own = sym (last_r i e) ∙ (own ∙ e)

    last_own : (i : ℕ) → i ≡ n → j ≡ n → slice_index (r ++ j ∷ []) i ≡ i
    last_own i e f = last_r i e ∙ (f ∙ sym e)

    old_slot : (i : ℕ) → i < n → get (slots ++ o ∷ []) i ≡ get slots i
    old_slot i h = get_or_append_left slots (o ∷ []) None i (omega (arith, h, is.slots_many))

    last_slot : (i : ℕ) → i ≡ n → get (slots ++ o ∷ []) i ≡ o
    last_slot i e = get_or_at slots o [] None i (is.slots_many ∙ sym e)

    old_candidate : (i k : ℕ) → i < n + 1 → IsEarlier eq is_single ty (r ++ j ∷ []) i k →
        IsEarlier eq is_single ty r i k
    old_candidate i k h c = record {
      below = c.below;
      single = c.single;
      live = sym (old_r k (omega (arith, h, c.below))) ∙ c.live;
      same = c.same;
    }

    new_candidate : (i k : ℕ) → i < n + 1 → IsEarlier eq is_single ty r i k →
        IsEarlier eq is_single ty (r ++ j ∷ []) i k
    new_candidate i k h c = record {
      below = c.below;
      single = c.single;
      live = old_r k (omega (arith, h, c.below)) ∙ c.live;
      same = c.same;
    }

    holds_next : Holds eq (n + 1) is_single ty (r ++ j ∷ []) (slots ++ o ∷ []) map'
    holds_next = record {
      many = omega (arith, length_push r j, is.many);
      slots_many = omega (arith, length_push slots o, is.slots_many);
      live = λ i h own. elim (below_or_last i n h) [
        | inl w ↦ old_slot i w ∙ is.live i w (sym (old_r i w) ∙ own)
        | inr e ↦ last_slot i e ∙ (next.live (own_last i e own) ∙ ap (λ (k : ℕ). Some (ty k)) (sym e))
      ];
      dead = λ i h other. elim (below_or_last i n h) [
        | inl w ↦ old_slot i w ∙ is.dead i w (λ own. other (old_r i w ∙ own))
        | inr e ↦ last_slot i e ∙ next.dead (λ f. other (last_own i e f))
      ];
      recs = λ i h rec. elim (below_or_last i n h) [
        | inl w ↦ old_r i w ∙ is.recs i w rec
        | inr e ↦ last_own i e (next.rec (ap is_single (sym e) ∙ rec))
      ];
      to_candidate = λ i h other. elim (below_or_last i n h) [
        | inl w ↦ subst (λ (k : ℕ). IsEarlier eq is_single ty (r ++ j ∷ []) i k) (sym (old_r i w))
            (new_candidate i (slice_index r i) h (is.to_candidate i w (λ own. other (old_r i w ∙ own))))
        | inr e ↦ subst (λ (k : ℕ). IsEarlier eq is_single ty (r ++ j ∷ []) i k) (sym (last_r i e))
            (new_candidate i j h (subst (λ (k : ℕ). IsEarlier eq is_single ty r k j) (sym e)
            (next.to_candidate (λ f. other (last_own i e f)))))
      ];
      fresh = λ i k h one own c. elim (below_or_last i n h) [
        | inl w ↦ is.fresh i k w one (sym (old_r i w) ∙ own) (old_candidate i k h c)
        | inr e ↦ next.fresh k (ap is_single (sym e) ∙ one) (own_last i e own)
            (subst (λ (a : ℕ). IsEarlier eq is_single ty r a k) e (old_candidate i k h c))
      ];
      mapped = λ q k h. elim (next.mapped q k h) [
        | inl w ↦ (let m : _ = is.mapped q k w in (omega (arith, m.0), m.1, old_r k m.0 ∙ m.2, m.3))
        | inr w ↦ (
          omega (arith, w.0),
          ap is_single w.0 ∙ w.1,
          last_own k w.0 w.2,
          ap (λ (a : ℕ). eq (ty a) q) w.0 ∙ w.3,
        )
      ];
      all = λ k h one own. elim (below_or_last k n h) [
        | inl w ↦ next.kept k w one (sym (old_r k w) ∙ own)
        | inr e ↦ ap (λ (a : ℕ). map' (ty a)) e ∙ (next.own (ap is_single (sym e) ∙ one) (own_last k e own)
            ∙ ap (λ (a : ℕ). Some a) (sym e))
      ];
    }

  -- one more member of a Rec is read: it is live, and the map stays
  pub read_member : is_single n ≡ false →
      Holds eq (n + 1) is_single ty (r ++ n ∷ []) (slots ++ Some (ty n) ∷ []) map
  read_member member =
      let not_one : is_single n ≡ true → ⊥ = λ one. (let k : true ≡ false = sym one ∙ member in cc) in
      holds_next n (Some (ty n)) map (record {
        live = λ e. refl;
        dead = λ other. absurd (other refl);
        rec = λ f. refl;
        to_candidate = λ other. absurd (other refl);
        fresh = λ k one e c. not_one one;
        mapped = λ q k h. inl h;
        kept = is.all;
        own = λ one e. absurd (not_one one);
      })

module _ {D : Type 0} (eq : D → D → Bool) (laws : IsEquivalence eq) (n : ℕ) (is_single : ℕ → Bool) (ty : ℕ →
    D) (r : List ℕ) (slots : Slots D) (map : D → Option ℕ) (respects : (p q : D) → eq p q ≡ true →
    map p ≡ map q) (is : Holds eq n is_single ty r slots map) (single : is_single n ≡ true) where
  -- the map has j at what n reads as: n is sent to j, and its slot is dead
  pub read_found : (j : ℕ) → map (ty n) ≡ Some j →
      Holds eq (n + 1) is_single ty (r ++ j ∷ []) (slots ++ None ∷ []) map
  read_found j found =
      let at_j : _ = is.mapped (ty n) j found in
      let not_own : j ≡ n → ⊥ = λ e. omega (arith, e, at_j.0) in
      holds_next eq n is_single ty r slots map is j None map (record {
        live = λ e. absurd (not_own e);
        dead = λ other. refl;
        rec = λ f. absurd (let k : true ≡ false = sym single ∙ f in cc);
        to_candidate = λ other. record { below = at_j.0; single = at_j.1; live = at_j.2; same = at_j.3 };
        fresh = λ k one e c. not_own e;
        mapped = λ q k h. inl h;
        kept = is.all;
        own = λ one e. absurd (not_own e);
      })

  -- a live Single that holds what n reads as would be found
  none_equal : map (ty n) ≡ None → (k : ℕ) → k < n → is_single k ≡ true → slice_index r k ≡ k →
      eq (ty k) (ty n) ≡ true → ⊥
  none_equal absent k h one own same = let e : Some k ≡ None = sym (is.all k h one own)
      ∙ respects (ty k) (ty n) same ∙ absent in cc

  -- the map has nothing there: n is live, and the map sends its type to it
  pub read_new : (map' : D → Option ℕ) → map (ty n) ≡ None →
      ((q : D) → map' q ≡ cond (eq (ty n) q) (Some n) (map q)) →
      Holds eq (n + 1) is_single ty (r ++ n ∷ []) (slots ++ Some (ty n) ∷ []) map'
  read_new map' absent updates =
      let apart : (k : ℕ) → k < n → is_single k ≡ true → slice_index r k ≡ k → (b : Bool) →
      b ≡ eq (ty n) (ty k) → b ≡ false = λ k h one own b e.
      elim b as (λ v. v ≡ eq (ty n) (ty k) → v ≡ false) [
        | true ↦ λ f.
            absurd (none_equal absent k h one own (laws.symm (ty k) (ty n) ∙ sym f))
        | false ↦ λ f. refl
      ] e in
      holds_next eq n is_single ty r slots map is n (Some (ty n)) map' (record {
        live = λ e. refl;
        dead = λ other. absurd (other refl);
        rec = λ f. refl;
        to_candidate = λ other. absurd (other refl);
        fresh = λ k one e c. none_equal absent k c.below c.single c.live c.same;
        mapped = λ q k h. elim (one_of (eq (ty n) q) n k (map q) (sym (updates q) ∙ h)) [
          | inl w ↦ inr (sym w.1, single, refl, w.0)
          | inr w ↦ inl w
        ];
        kept = λ k h one own. updates (ty k) ∙ (ap (λ (b : Bool). cond b (Some n) (map (ty k)))
            (apart k h one own (eq (ty n) (ty k)) refl) ∙ is.all k h one own);
        own = λ one e. updates (ty n) ∙ ap (λ (b : Bool). cond b (Some n) (map (ty n))) (laws.refl (ty n));
      })

-- what the indices from n on are plays no part
earlier_same :
    {D : Type 0} (eq : D → D → Bool) (n : ℕ) (is_single is_single' : ℕ → Bool) (ty ty' : ℕ → D)
    (r : List ℕ) → ((i : ℕ) → i < n → is_single i ≡ is_single' i) → ((i : ℕ) → i < n → ty i ≡ ty' i) →
    (i k : ℕ) → i < n → IsEarlier eq is_single ty r i k → IsEarlier eq is_single' ty' r i k
earlier_same {D} eq n is_single is_single' ty ty' r one same i k h c = record {
  below = c.below;
  single = sym (one k (omega (arith, h, c.below))) ∙ c.single;
  live = c.live;
  same = subst (λ (d : D). eq d (ty' i) ≡ true) (same k (omega (arith, h, c.below)))
      (subst (λ (d : D). eq (ty k) d ≡ true) (same i h) c.same);
}

pub holds_same :
    {D : Type 0} (eq : D → D → Bool) (n : ℕ) (is_single is_single' : ℕ → Bool) (ty ty' : ℕ → D)
    (r : List ℕ) (slots : Slots D) (map : D → Option ℕ) →
    ((i : ℕ) → i < n → is_single i ≡ is_single' i) → ((i : ℕ) → i < n → ty i ≡ ty' i) →
    Holds eq n is_single ty r slots map → Holds eq n is_single' ty' r slots map
holds_same {D} eq n is_single is_single' ty ty' r slots map one same is =
    record {
      many = is.many;
      slots_many = is.slots_many;
      live = λ i h own. is.live i h own ∙ ap (λ (d : D). Some d) (same i h);
      dead = is.dead;
      recs = λ i h o. is.recs i h (one i h ∙ o);
      to_candidate = λ i h other. earlier_same eq n is_single is_single' ty ty' r one same i (slice_index r i) h
          (is.to_candidate i h other);
      fresh = λ i k h o own c. is.fresh i k h (one i h ∙ o) own (earlier_same eq n is_single' is_single ty' ty r
          (λ i h. sym (one i h)) (λ i h. sym (same i h)) i k h c);
      mapped = λ q k h. (let m : _ = is.mapped q k h in
          (m.0, sym (one k m.0) ∙ m.1, m.2, subst (λ (d : D). eq d q ≡ true) (same k m.0) m.3));
      all = λ k h o own. subst (λ (d : D). map d ≡ Some k) (same k h) (is.all k h (one k h ∙ o) own);
    }

-- the slots of so many members, the first of which has the index n
abbrev pub members_slots : {D : Type 0} → (ℕ → D) → ℕ → ℕ → Slots D
members_slots ty n zero = []
members_slots ty n (suc k) = Some (ty n) ∷ members_slots ty (n + 1) k

-- what is held with each member of a `Rec` in turn
module _ {D : Type 0} (eq : D → D → Bool) (is_single : ℕ → Bool) (ty : ℕ → D) (map : D → Option ℕ) where
  pub read_members : (k n : ℕ) (r : List ℕ) (slots : Slots D) → Holds eq n is_single ty r slots map →
      ((u : ℕ) → u < k → is_single (n + u) ≡ false) →
      Holds eq (n + k) is_single ty (r ++ range_with_len n k) (slots ++ members_slots ty n k) map
  read_members zero n r slots is rec =
      let e : n + 0 ≡ n = omega arith in
      rw (e, append-nil r, append-nil slots) is
  read_members (suc k) n r slots is rec =
      let here : n + 0 ≡ n = omega arith in
      let next : n + 1 + k ≡ n + suc k = omega arith in
      let first = read_member eq n is_single ty r slots map is (ap is_single (sym here) ∙ rec 0 (omega arith))
      in
      let rest = read_members k (n + 1) (r ++ n ∷ []) (slots ++ Some (ty n) ∷ []) first (λ u h.
      ap is_single (shift n u) ∙ rec (suc u) (omega arith)) in
      rw (
        next,
        append_assoc r (n ∷ []) (range_with_len (n + 1) k),
        append_assoc slots (Some (ty n) ∷ []) (members_slots ty (n + 1) k),
      ) at rest
    where
      shift : (n u : ℕ) → n + 1 + u ≡ n + suc u
      shift n u = omega arith
