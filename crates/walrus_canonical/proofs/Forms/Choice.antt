-- The least group that can come next behind a section whose types are apart.
use Rattle.std.proofs.Common.{◌≡◌, ℕ, zero, suc, ◌+◌, ◌<◌, ◌≤◌, List, length, refl, subst, inl, inr, ◌⊎◌, Contains, get_or, arith}
use Rattle.std.proofs.lemmas.Bool.{cases_lt}
use Rattle.std.proofs.lemmas.Option.{slice_get_within, slice_get-get_or, get_or_from_slice_get}
use Rattle.std.specs.declared.cmp.Ordering.{Ordering}
use Rattle.std.specs.declared.cmp.Ordering.TheVariants.{Less, Equal, Greater}
use Rattle.std.specs.Cmp.{IsTotalOrder}
use Rattle.std.specs.Cmp.Lexicographic.{slice_cmp}
use Rattle.std.proofs.lemmas.Cmp.{lists_total}
use Rattle.walrus_ty.specs.Definition.{Definition, Names, names_of, definition_cmp}
use Rattle.walrus_ty.specs.Groups.{Section}
use Rattle.walrus_ty.proofs.Names.Definitions.{definitions_total}
use Rattle.walrus_sections.specs.Section.{IndexSpace, index_space, NamesBelowEnds}
use Rattle.walrus_canonical.specs.EqualTypes.{IsInGroup, NamesOutside, AreEqual}
use Rattle.walrus_canonical.specs.Listing.{IsNeeded, by_group, by_name}
use Rattle.walrus_canonical.specs.Greedy.{IsWrittenAs, CanComeNext}
use Rattle.walrus_canonical.proofs.Equality.Definitions.{names_what_stands, position_of}
use Rattle.walrus_canonical.proofs.Equality.Members.{in_group_or_not, own_member, named_outside}
use Rattle.walrus_canonical.proofs.Equality.Decisions.{Decided, some_below, all_below}
use Rattle.walrus_canonical.proofs.Equality.DecidedTypes.{equal_or_not}
use Rattle.walrus_canonical.proofs.Equality.Written.{stands_there}
use Rattle.walrus_canonical.proofs.Equality.EqualTypes.{equal_itself, equal_within}
use Rattle.walrus_canonical.proofs.Needs.DecidedNeeds.{needed_or_not}
use Rattle.walrus_canonical.proofs.Forms.Listings.{needed_below}
use Rattle.walrus_canonical.proofs.Forms.Orders.{not_itself}
use Rattle.walrus_canonical.proofs.Forms.Writing.{written_once, as_written, written_so}

-- a well-named section with indices of it
pub record Rooted : Type 0 where
  pub section : Section
  pub roots : List ℕ
  pub below : NamesBelowEnds (index_space section)
  pub known : (root : ℕ) → Contains roots root → root < (index_space section).count

module _ (r : Rooted) where
  abbrev s : IndexSpace
  s = index_space r.section

  pub needed_within : (i : ℕ) → IsNeeded s r.roots i → i < s.count
  needed_within i h = needed_below r.section r.roots r.below r.known i h

module _ (r : Rooted) (pre : Section)
    (apart : (p q : ℕ) → p < q → q < (index_space pre).count →
    ¬ (AreEqual (index_space pre) (index_space pre) p q)) where
  abbrev S : IndexSpace
  S = index_space r.section

  abbrev P : IndexSpace
  P = index_space pre

  -- a type there that is equal to j
  abbrev pub IsFound : ℕ → Type 0
  IsFound j = (p : ℕ) × AreEqual S P j p

  pub found : (j : ℕ) → Decided (IsFound j)
  found j = elim (some_below P.count (λ p. AreEqual S P j p) (λ p h.
      equal_or_not r.section pre r.below j p)) [
        | inl x ↦ inl (x.0, x.2)
        | inr none ↦ inr (λ x. none x.0 (equal_within r.section pre j x.0 x.1).1 x.1)
      ]

  pub need : (j : ℕ) → Decided (IsNeeded S r.roots j)
  need j = needed_or_not r.section r.roots r.below r.known j

  -- ---- groups that can come next

  abbrev Next : ℕ → List Definition → Type 0
  Next i ds = CanComeNext S r.roots P i ds

  -- what k of the group of i names outside of the group is equal to a type there
  abbrev AreListed : ℕ → ℕ → Type 0
  AreListed i k =
      IsInGroup S i k → (x : ℕ) → Names (S.definition k) x → (IsInGroup S i x → ⊥) →
      IsFound x

  listed_or_not : (i k : ℕ) → i < S.count → Decided (AreListed i k)
  listed_or_not i k h =
      let own = own_member S i h in
      let ns = names_of (S.definition k) in
      elim (in_group_or_not S i own.0 k own.1) [
        | inr out ↦ inl (λ g. absurd (out g))
        | inl g ↦ elim (all_below (length ns) (λ position. (IsInGroup S i (get_or ns position 0) → ⊥) →
            IsFound (get_or ns position 0)) (λ position low.
            elim (in_group_or_not S i own.0 (get_or ns position 0) own.1) [
              | inl m ↦ inl (λ out. absurd (out m))
              | inr out ↦ elim (found (get_or ns position 0)) [
                | inl y ↦ inl (λ o. y)
                | inr none ↦ inr (λ f. none (f out))
              ]
            ])) [
              | inl each ↦ inl (λ g' x names out. (
                  let at_x = position_of (S.definition k) x names in
                  let is = get_or_from_slice_get ns at_x.0 x 0 at_x.1 in
                  let y = each at_x.0 (slice_get_within ns at_x.0 x at_x.1)
                  (λ m. out (subst (λ (u : ℕ). IsInGroup S i u) is m)) in
                  (y.0, subst (λ (u : ℕ). AreEqual S P u y.0) is y.1)))
              | inr x ↦ inr (λ f. x.2 (f g (get_or ns x.0 0)
                  (names_what_stands (S.definition k) x.0 (get_or ns x.0 0) (slice_get-get_or ns x.0 0 x.1))))
            ]
      ]

  listed_if_written : (i : ℕ) (ds : List Definition) → IsWrittenAs S P i ds → (k : ℕ) →
      AreListed i k
  listed_if_written i ds w k g x names out =
      let y = stands_there S (λ p. P.count + p) (AreEqual S P) i ds w k x g names in
      (y.0, w.others x y.0 y.1 out)

  next_if_listed :
      (i : ℕ) → IsNeeded S r.roots i → (IsFound i → ⊥) → ((k : ℕ) → k < S.count → AreListed i k) →
      (ds : List Definition) × Next i ds
  next_if_listed i h none listed =
      let low = needed_within r i h in
      let each : (x : ℕ) → NamesOutside S i x → IsFound x = λ x o.
      listed o.0 (needed_within r o.0 (by_group i o.0 h o.1)) o.1 x o.2 o.3 in (
        as_written r.section P found i low each,
        record {
          needed = h;
          fresh = λ p e. none (p, e);
          written = written_so r.section P found i low each;
        },
      )

  next_or_not : (i : ℕ) → i < S.count → Decided ((ds : List Definition) × Next i ds)
  next_or_not i h = elim (need i) [
    | inr out ↦ inr (λ x. out x.1.needed)
    | inl n ↦ elim (found i) [
      | inl p ↦ inr (λ x. x.1.fresh p.0 p.1)
      | inr none ↦ elim (all_below S.count (AreListed i) (λ k hk. listed_or_not i k h)) [
        | inl each ↦ inl (next_if_listed i n none each)
        | inr x ↦ inr (λ y. x.2 (listed_if_written i y.0 y.1.written x.0))
      ]
    ]
  ]

  -- ---- the least of them

  definitions_order : IsTotalOrder (slice_cmp definition_cmp)
  definitions_order = lists_total definitions_total

  pub next_once : (i : ℕ) (ds es : List Definition) → Next i ds → Next i es → ds ≡ es
  next_once i ds es x y =
      let same = equal_itself r.section r.below i (needed_within r i x.needed) in
      written_once r.section pre apart i i same ds es x.written y.written

  pub record Least (bound : ℕ) : Type 0 where
    pub i : ℕ
    pub ds : List Definition
    pub next : Next i ds
    pub least :
        (j : ℕ) (es : List Definition) → j < bound → Next j es →
        slice_cmp definition_cmp es ds ≡ Less → ⊥

  abbrev pub NoneNext : ℕ → Type 0
  NoneNext bound = (j : ℕ) (es : List Definition) → j < bound → Next j es → ⊥

  below_or_last : {A : Type 0} (bound j : ℕ) → j < suc bound → (j < bound → A) → (j ≡ bound → A) → A
  below_or_last bound j low f g = elim (cases_lt j bound) [
    | inl lower ↦ f lower
    | inr over ↦ g (omega (arith, low, over))
  ]

  -- what can come next at the bound is the least, or the least of those below it stays
  last_least :
      (bound : ℕ) (ds : List Definition) → Next bound ds →
      ((j : ℕ) (es : List Definition) → j < bound → Next j es → slice_cmp definition_cmp es ds ≡ Less → ⊥) →
      Least (suc bound)
  last_least bound ds n below = record {
    i = bound;
    ds = ds;
    next = n;
    least = λ j es low x e. below_or_last bound j low (λ lower. below j es lower x e) (λ is.
        not_itself ds (subst (λ (u : List Definition). slice_cmp definition_cmp u ds ≡ Less)
        (next_once bound es ds (subst (λ (u : ℕ). Next u es) is x) n) e));
  }

  same_least :
      (bound : ℕ) (b : Least bound) →
      ((es : List Definition) → Next bound es → slice_cmp definition_cmp es b.ds ≡ Less → ⊥) →
      Least (suc bound)
  same_least bound b last = record {
    i = b.i;
    ds = b.ds;
    next = b.next;
    least = λ j es low x e. below_or_last bound j low (λ lower. b.least j es lower x e)
        (λ is. last es (subst (λ (u : ℕ). Next u es) is x) e);
  }

  less_or_not : (o : Ordering) → Decided (o ≡ Less)
  less_or_not Less = inl refl
  less_or_not Equal = inr (λ e. cc)
  less_or_not Greater = inr (λ e. cc)

  pub choose : (bound : ℕ) → bound ≤ S.count → NoneNext bound ⊎ Least bound
  choose zero h = inl (λ j es low x. omega (arith, low))
  choose (suc bound) h = elim (choose bound (omega (arith, h))) [
    | inl none ↦ elim (next_or_not bound h) [
      | inl x ↦ inr (last_least bound x.0 x.1 (λ j es low y e. none j es low y))
      | inr out ↦ inl (λ j es low x. below_or_last bound j low (λ lower. none j es lower x)
          (λ is. out (es, subst (λ (u : ℕ). Next u es) is x)))
    ]
    | inr b ↦ elim (next_or_not bound h) [
      | inr out ↦ inr (same_least bound b (λ es x e. out (es, x)))
      | inl x ↦ elim (less_or_not (slice_cmp definition_cmp x.0 b.ds)) [
        | inl less ↦ inr (last_least bound x.0 x.1 (λ j es low y e. b.least j es low y
            (definitions_order.trans es x.0 b.ds e less)))
        | inr not_less ↦ inr (same_least bound b (λ es y e. not_less
            (subst (λ (u : List Definition). slice_cmp definition_cmp u b.ds ≡ Less)
            (next_once bound es x.0 y x.1) e)))
      ]
    ]
  ]

  -- where no group can come next, each needed type is equal to one there
  found_below :
      NoneNext S.count → (bound j : ℕ) → j < bound → IsNeeded S r.roots j → IsFound j
  found_below none zero j low h = absurd (omega (arith, low))
  found_below none (suc bound) j low h = elim (found j) [
    | inl p ↦ p
    | inr out ↦ absurd (
        let hj = needed_within r j h in
        let x = next_if_listed j h out (λ k hk g x names outside.
        let less = named_outside r.section j x r.below hj (k, g, names, outside) in
        found_below none bound x (omega (arith, less, low)) (by_name k x (by_group j k h g) names)) in
        none j x.0 hj x.1)
  ]

  pub all_found : NoneNext S.count → (j : ℕ) → IsNeeded S r.roots j → IsFound j
  all_found none j h = found_below none (suc j) j (omega arith) h
