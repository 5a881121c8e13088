-- Marks that go back over the groups, from what is marked to what it needs.
use Rattle.std.proofs.Common.{◌≡◌, ℕ, zero, suc, Bool, true, false, ◌+◌, ◌-◌, ◌<◌, ◌≤◌, List, [], ◌∷◌, length, map, get_or, replicate, slice_get, Some, None, Option, inl, inr, ◌∙◌, sym, ap, subst, Contains, arith}
use Rattle.std.specs.List.{flat_map}
use Rattle.std.proofs.lemmas.Bool.{cases_lt}
use Rattle.std.proofs.lemmas.List.{get_or-replicate, length-replicate}
use Rattle.std.proofs.lemmas.List.Folds.{flat_map-map}
use Rattle.std.proofs.lemmas.Option.{same_Some, slice_get_within}
use Rattle.walrus_ty.specs.declared.records.EntryAt.{EntryAt}
use Rattle.walrus_ty.specs.declared.records.GroupAt.{GroupAt}
use Rattle.walrus_ty.specs.Records.{entry_definition, group_of, section_of}
use Rattle.walrus_ty.specs.Definition.{Definition, Names, names_of}
use Rattle.walrus_ty.specs.Groups.{Section}
use Rattle.walrus_sections.specs.FirstError.{definitions_of}
use Rattle.walrus_sections.specs.Section.{IndexSpace, index_space, NamesBelowEnds, IsWellNamed}
use Rattle.walrus_canonical.specs.EqualTypes.{IsMember, IsInGroup}
use Rattle.walrus_canonical.specs.Listing.{IsNeeded, at_root, by_group, by_name, all_indices, AreIndices}
use Rattle.walrus_canonical.specs.Roots.{roots_or_all}
use Rattle.walrus_canonical.specs.Steps.Marks.{AreKnown, IsMarked, Marks, MarkRoots, MarkNeeds}
use Rattle.walrus_canonical.proofs.Reading.Containing.{contained_at, contained_from, in_flat, flat_in}
use Rattle.walrus_canonical.proofs.Forms.Indices.{below_contained, contained_below}
use Rattle.walrus_canonical.proofs.Forms.Listings.{needed_below}
use Rattle.walrus_canonical.proofs.Equality.Members.{mate_from, mate_to, in_group_or_not, named_outside}
use Rattle.walrus_canonical.proofs.Forms.NextGroups.{BeginsAt}
use Rattle.walrus_canonical.proofs.Needs.Marking.{marked_same}
use Rattle.walrus_canonical.proofs.Needs.TurnsBack.{IsTurnBack}

-- ---- marks

pub marked_within : (marks : List Bool) (i : ℕ) → IsMarked marks i → i < length marks
marked_within [] i h = absurd cc
marked_within (b ∷ bs) zero h = omega arith
marked_within (b ∷ bs) (suc i) h = omega (arith, marked_within bs i h)

-- from this index on, what is marked has all that it needs marked
pub record AreMarkedFrom (section : Section) (roots : List ℕ) (end : ℕ) (marks : List Bool) : Type 0 where
  pub one_each : length marks ≡ (index_space section).count
  pub sound : (i : ℕ) → IsMarked marks i → IsNeeded (index_space section) roots i
  pub at_roots : (i : ℕ) → Contains roots i → IsMarked marks i
  pub mates :
      (i k : ℕ) → end ≤ i → IsMarked marks i → IsInGroup (index_space section) i k → IsMarked marks k
  pub named :
      (i k : ℕ) → end ≤ i → IsMarked marks i → Names ((index_space section).definition i) k →
      IsMarked marks k

pub none_marked_yet :
    (section : Section) (roots : List ℕ) (marks : List Bool) → MarkRoots section roots marks →
    AreMarkedFrom section roots (length marks) marks
none_marked_yet section roots marks h = record {
  one_each = h.one_each;
  sound = λ i m. at_root i ((h.at_roots i).0 m);
  at_roots = λ i c. (h.at_roots i).1 c;
  mates = λ i k over m g. absurd (omega (arith, marked_within marks i m, over));
  named = λ i k over m n. absurd (omega (arith, marked_within marks i m, over));
}

pub all_marked :
    (section : Section) (roots : List ℕ) (marks : List Bool) → AreMarkedFrom section roots 0 marks →
    MarkNeeds section roots marks
all_marked section roots marks h = record {
  one_each = h.one_each;
  needed = λ i. (h.sound i, from i);
}
  where
    from : (i : ℕ) → IsNeeded (index_space section) roots i → IsMarked marks i
    from _ (at_root i c) = h.at_roots i c
    from _ (by_group mate i n g) = h.mates mate i (omega arith) (from mate n) g
    from _ (by_name user i n names) = h.named user i (omega arith) (from user n) names

-- no index of the group is marked
pub none_in_group :
    (section : Section) (roots : List ℕ) (start end : ℕ) (marks : List Bool) →
    AreMarkedFrom section roots end marks →
    ((i : ℕ) → start ≤ i → i < end → ¬ (IsMarked marks i)) →
    AreMarkedFrom section roots start marks
none_in_group section roots start end marks h none = record {
  one_each = h.one_each;
  sound = h.sound;
  at_roots = h.at_roots;
  mates = λ i k over m g. elim (cases_lt i end) [
    | inl low ↦ absurd (none i over low m)
    | inr past ↦ h.mates i k past m g
  ];
  named = λ i k over m n. elim (cases_lt i end) [
    | inl low ↦ absurd (none i over low m)
    | inr past ↦ h.named i k past m n
  ];
}

-- ---- one index of a group is marked: then all of it, and what it names

module _ (section : Section) (roots : List ℕ) (below : NamesBelowEnds (index_space section))
    (start : ℕ) (ds : List Definition) (begins : BeginsAt (index_space section) start ds) where
  abbrev S : IndexSpace
  S = index_space section

  abbrev stop : ℕ
  stop = start + length ds

  -- a member of the group by its index
  record Here (i : ℕ) : Type 0 where
    pub t : ℕ
    pub low : t < length ds
    pub member : IsMember S start t i
    pub definition : slice_get ds t ≡ Some (S.definition i)

  here : (i : ℕ) → start ≤ i → i < stop → Here i
  here i over low =
      let e : start + (i - start) ≡ i = omega (arith, over) in
      let h : i - start < length ds = omega (arith, over, low) in
      record {
        t = i - start;
        low = h;
        member = subst (λ (u : ℕ). IsMember S start (i - start) u) e (begins.member (i - start) h);
        definition = begins.definition (i - start) h ∙ ap (λ (u : ℕ). Some (S.definition u)) e;
      }

  in_range : (t k : ℕ) → IsMember S start t k → (start ≤ k) × (k < stop)
  in_range t k m =
      let z = begins.only t k m in
      let low = z.0 in let is = z.1 in (omega (arith, is), omega (arith, is, low))

  mate_here : (i k : ℕ) → start ≤ i → i < stop → IsInGroup S i k → (start ≤ k) × (k < stop)
  mate_here i k over low g =
      let h = here i over low in
      in_range g.0 k (mate_to S start h.t i g.0 k h.member g.1)

  mates_of : (i k : ℕ) → start ≤ i → i < stop → start ≤ k → k < stop → IsInGroup S i k
  mates_of i k over low over_k low_k =
      let h = here i over low in
      let z = here k over_k low_k in
      (z.t, mate_from S start h.t i z.t k h.member z.member)

  -- who names k in the group
  record User (k : ℕ) : Type 0 where
    pub user : ℕ
    pub over : start ≤ user
    pub low : user < stop
    pub member : IsInGroup S start user
    pub names : Names (S.definition user) k

  user_of : (k : ℕ) → Contains (flat_map names_of ds) k → User k
  user_of k c =
      let r = in_flat names_of ds k c in
      let t = contained_at ds r.0 r.1 in
      let low = slice_get_within ds t.0 r.0 t.1 in
      let is : r.0 ≡ S.definition (start + t.0) = same_Some r.0 (S.definition (start + t.0))
      (sym t.1 ∙ begins.definition t.0 low) in
      record {
        user = start + t.0;
        over = omega arith;
        low = omega (arith, low);
        member = (t.0, begins.member t.0 low);
        names = subst (λ (x : Definition). Names x k) is r.2;
      }

  named_low : (k : ℕ) → User k → k < stop
  named_low k u =
      let filled = begins.filled in
      let own = here start (omega arith) (omega (arith, filled)) in
      elim (in_group_or_not S start own.t k own.member) [
        | inl g ↦ (in_range g.0 k g.1).1
        | inr outside ↦
            let z = named_outside section start k below (omega (arith, filled, begins.inside))
            (u.user, u.member, u.names, outside) in omega (arith, z, filled)
      ]

  module _ (a b c : List Bool) (h : AreMarkedFrom section roots stop a)
      (own : Marks a b (λ i. (start ≤ i) × (i < stop)))
      (names : Marks b c (λ i. Contains (flat_map names_of ds) i))
      (first : ℕ) (first_over : start ≤ first) (first_low : first < stop) (first_is : IsMarked a first) where
    whole_needed : (i : ℕ) → start ≤ i → i < stop → IsNeeded S roots i
    whole_needed i over low =
        by_group first i (h.sound first first_is) (mates_of first i first_over first_low over low)

    sound_now : (i : ℕ) → IsMarked c i → IsNeeded S roots i
    sound_now i m = elim (names.forth i m) [
      | inl old ↦ elim (own.forth i old) [
        | inl older ↦ h.sound i older
        | inr z ↦ whole_needed i z.0 z.1
      ]
      | inr n ↦ (let u = user_of i n in by_name u.user i (whole_needed u.user u.over u.low) u.names)
    ]

    -- behind the group nothing is new
    old_behind : (i : ℕ) → stop ≤ i → IsMarked c i → IsMarked a i
    old_behind i past m = elim (names.forth i m) [
      | inl old ↦ elim (own.forth i old) [
        | inl older ↦ older
        | inr z ↦ absurd (omega (arith, past, z.1))
      ]
      | inr n ↦ absurd (omega (arith, past, named_low i (user_of i n)))
    ]

    kept_now : (i : ℕ) → IsMarked a i → IsMarked c i
    kept_now i m = names.kept i (own.kept i m)

    within_a : (i : ℕ) → i < stop → i < length a
    within_a i low =
        omega (arith, h.one_each, begins.inside, low)

    within_b : (i : ℕ) → i < stop → i < length b
    within_b i low =
        omega (arith, within_a i low, own.long)

    whole_marked : (i : ℕ) → start ≤ i → i < stop → IsMarked c i
    whole_marked i over low = names.kept i (own.marked i (within_a i low) (over, low))

    names_marked : (i k : ℕ) → start ≤ i → i < stop → Names (S.definition i) k → IsMarked c k
    names_marked i k over low n =
        let z = here i over low in
        let cont = flat_in names_of ds (S.definition i) k
        (contained_from ds (S.definition i) z.t z.definition) n in
        names.marked k (within_b k (named_low k (user_of k cont))) cont

    pub whole_group : AreMarkedFrom section roots start c
    whole_group = record {
      one_each = names.long ∙ (own.long ∙ h.one_each);
      sound = sound_now;
      at_roots = λ i r. kept_now i (h.at_roots i r);
      mates = λ i k over m g. elim (cases_lt i stop) [
        | inl low ↦ (let z = mate_here i k over low g in whole_marked k z.0 z.1)
        | inr past ↦ kept_now k (h.mates i k past (old_behind i past m) g)
      ];
      named = λ i k over m n. elim (cases_lt i stop) [
        | inl low ↦ names_marked i k over low n
        | inr past ↦ kept_now k (h.named i k past (old_behind i past m) n)
      ];
    }

-- the names of the group are those of its records, and they are marked by their places
pub group_turn :
    (given : List GroupAt) (roots : List ℕ) (n start end : ℕ) (g : GroupAt) (entries : List EntryAt)
    (names : List ℕ) (a b c : List Bool) → IsWellNamed (section_of given) →
    IsTurnBack given n start end g → map entry_definition entries ≡ definitions_of (group_of g) →
    names ≡ flat_map (λ e. names_of (entry_definition e)) entries →
    AreMarkedFrom (section_of given) roots end a →
    ((i : ℕ) × (start ≤ i) × (i < end) × IsMarked a i) →
    Marks a b (λ i. (start ≤ i) × (i < end)) →
    Marks b c (λ i. (k : ℕ) × (slice_get names k ≡ Some i)) →
    AreMarkedFrom (section_of given) roots start c
group_turn given roots n start end g entries names a b c well turn same is h found own named =
    let ds = definitions_of (group_of g) in
    let over = found.1 in
    let low = found.2 in
    let ends = turn.ends in
    let all : names ≡ flat_map names_of ds =
    is ∙ (sym (flat_map-map names_of entry_definition entries) ∙ ap (flat_map names_of) same) in
    whole_group (section_of given) roots well.below_ends start ds
    (turn.begins (omega (arith, over, low, ends))) a b c (rw ends at h) (rw ends at own)
    (marked_same b c (λ i. (k : ℕ) × (slice_get names k ≡ Some i))
    (λ i. Contains (flat_map names_of ds) i) named
    (λ i x. subst (λ (ks : List ℕ). Contains ks i) all (contained_from names i x.0 x.1))
    (λ i x. contained_at names i (subst (λ (ks : List ℕ). Contains ks i) (sym all) x)))
    found.0 over (subst (λ (m : ℕ). found.0 < m) ends low) found.3

-- ---- without roots

-- where all indices are roots, all are needed
pub all_needed :
    (section : Section) (marks : List Bool) → NamesBelowEnds (index_space section) →
    length marks ≡ (index_space section).count → ((i : ℕ) → i < length marks → IsMarked marks i) →
    MarkNeeds section (all_indices section) marks
all_needed section marks below long all = record {
  one_each = long;
  needed = λ i. (
    λ m. (let z = marked_within marks i m in
        at_root i (below_contained (index_space section).count i (omega (arith, z, long)))),
    λ n. (let z = needed_below section (all_indices section) below
        (λ root c. contained_below (index_space section).count root c) i n in
        all i (omega (arith, z, long))),
  );
}

-- ---- marks that are read of a slice

pub found_in :
    (start end : ℕ) (seen marks : List Bool) → seen ≡ marks →
    ((i : ℕ) × (start ≤ i) × (i < end) × IsMarked seen i) →
    ((i : ℕ) × (start ≤ i) × (i < end) × IsMarked marks i)
found_in start end seen marks e f =
    (f.0, f.1, f.2, subst (λ (ms : List Bool). IsMarked ms f.0) e f.3)

pub none_in :
    (start end : ℕ) (seen marks : List Bool) → seen ≡ marks →
    ((i : ℕ) → start ≤ i → i < end → ¬ (IsMarked seen i)) →
    (i : ℕ) → start ≤ i → i < end → ¬ (IsMarked marks i)
none_in start end seen marks e f i over low m =
    f i over low (subst (λ (ms : List Bool). IsMarked ms i) (sym e) m)

-- ---- before the first group

fresh_unmarked : (n i : ℕ) → ¬ (IsMarked (replicate n false) i)
fresh_unmarked n i m =
    let long : length (replicate n false) ≡ n = length-replicate n false in
    let is : get_or (replicate n false) i false ≡ false =
    get_or-replicate n i false false (omega (arith, marked_within (replicate n false) i m, long)) in
    let k : false ≡ true = sym is ∙ m in absurd cc

pub roots_marked :
    (section : Section) (roots : List ℕ) (n : ℕ) (before after : List Bool) →
    n ≡ (index_space section).count → before ≡ replicate n false →
    Marks before after (λ i. (k : ℕ) × (slice_get roots k ≡ Some i)) →
    AreKnown (length before) roots (length roots) → MarkRoots section roots after
roots_marked section roots n before after count fresh ms known = record {
  one_each = ms.long ∙ (ap (λ (bs : List Bool). length bs) fresh ∙ (length-replicate n false ∙ count));
  at_roots = λ i. (
    λ m. elim (ms.forth i m) [
      | inl old ↦ absurd (fresh_unmarked n i (subst (λ (bs : List Bool). IsMarked bs i) fresh old))
      | inr r ↦ contained_from roots i r.0 r.1
    ],
    λ c. (let r = contained_at roots i c in
        ms.marked i (known r.0 i (slice_get_within roots r.0 i r.1) r.1) r),
  );
}

-- ---- without roots, all are marked

pub all_are_indices :
    (section : Section) (given : Option (List ℕ)) → given ≡ None →
    AreIndices section (roots_or_all section given)
all_are_indices section None e root c = contained_below (index_space section).count root c
all_are_indices section (Some roots) e root c = absurd cc

pub all_marked_at_once :
    (section : Section) (given : Option (List ℕ)) (n : ℕ) (marks : List Bool) →
    IsWellNamed section → given ≡ None → n ≡ (index_space section).count →
    marks ≡ replicate n true → MarkNeeds section (roots_or_all section given) marks
all_marked_at_once section (Some roots) n marks well e count is = absurd cc
all_marked_at_once section None n marks well e count is =
    let long : length marks ≡ n =
    ap (λ (bs : List Bool). length bs) is ∙ length-replicate n true in
    all_needed section marks well.below_ends (long ∙ count) (λ i low.
    ap (λ (bs : List Bool). get_or bs i false) is
    ∙ get_or-replicate n i true false (omega (arith, low, long)))
