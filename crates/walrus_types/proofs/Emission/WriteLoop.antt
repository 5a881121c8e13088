-- Groups are written one after the other, each by the indices given out so far.
use Rattle.std.proofs.Common.{◌≡◌, ℕ, zero, suc, ◌+◌, ◌<◌, ◌≤◌, ◌^◌, List, [], ◌∷◌, ◌++◌, map, take, drop, length, refl, sym, ap, subst, ◌∙◌, arith, Some, None, Option, Bool, true, false, get_or, Contains, All, nat_eq, eqb-true, unwrap_or, length-append, take-append-drop, ◌⊎◌, inl, inr}
use Rattle.std.specs.{List.slice_get, List.slice_index, List.find, List.position_or_len, List.IsDistinct, Option.is_none}
use Rattle.std.proofs.lemmas.{List.Folds.find_at, List.Sums.fails_before_first, List.Sums.passes_at_first, Grind.flat_map-append, List.take_more, List.map-append, List.append-nil, List.get_or-map, List.length-map, Option.slice_get_within, Option.slice_get-get_or, Option.get_or_from_slice_get, Bool.cases_lt, Map.Keys.IsDistinct-from_apart}
use Rattle.walrus_ty.specs.declared.records.GroupAt.{GroupAt}
use Rattle.walrus_types.specs.{declared.error.EmitError.EmitError, declared.table.rec_group.RecGroup.RecGroup, declared.emit.order.PendingGroup.PendingGroup, TableEmission.contents, TableEmission.type_groups, Steps.PendingGroups.groups_of, Steps.PendingGroups.places_of}
use Rattle.walrus_types.specs.declared.error.EmitError.TheVariants as emit
use Rattle.walrus_ty.specs.{Definition.Definition, Definition.Names, Definition.names_of, Groups.Section, Groups.Group, Groups.Single, Groups.Rec, Indices.IndexMap, Indices.Indexes, Indices.IsEmpty, Indices.IsSame, Indices.GivesAll, Records.group_of, Records.section_of}
use Rattle.walrus_sections.specs.{SlotMap.TypeGroup, Emission.no_group, Emission.group_at, Refusal.NameUse, MissingNames.FirstMissingIs, MissingNames.IsMissingIn, MissingNames.IndexPrecedes}
use Rattle.walrus_types.specs.Steps.WrittenGroups.{AllIndexed, AreWritten, IsMemoryOrMissing, IsFirstUnindexed}
use Rattle.walrus_sections.specs.WritingOrders.{IsApart, ids_in, with_indices, written_group}
use Rattle.walrus_ty.proofs.{Names.Definitions.rename_agree, IndexMaps.NextIndex.indexes_all, Basics.some_inj, Basics.slice_get-left, Basics.slice_get-right, Basics.slice_get-parts}
use Rattle.walrus_sections.proofs.{Emission.IndexOfId.member_at, FirstError.Search.none_found}

pub IsMemoryOrMissing-weaker :
    (P Q : ℕ → ℕ → Type 0) → ((i k : ℕ) → P i k → Q i k) → (e : EmitError) → IsMemoryOrMissing e P →
    IsMemoryOrMissing e Q
IsMemoryOrMissing-weaker P Q f (emit.NoIndex i k) h = f i k h
IsMemoryOrMissing-weaker P Q f emit.TooMany h = h
IsMemoryOrMissing-weaker P Q f emit.Memory h = h

-- the first name that passes a test

record Found (p : ℕ → Bool) (xs : List ℕ) (k : ℕ) : Type 0 where
  pub place : ℕ
  pub at : slice_get xs place ≡ Some k
  pub passes : p k ≡ true
  pub earlier : (s l : ℕ) → s < place → slice_get xs s ≡ Some l → p l ≡ false

found_at : (p : ℕ → Bool) (xs : List ℕ) (k : ℕ) → find p xs ≡ Some k → Found p xs k
found_at p xs k h =
    let at = sym (find_at p xs) ∙ h in
    record {
      place = position_or_len p xs;
      at = at;
      passes = ap p (sym (get_or_from_slice_get xs (position_or_len p xs) k k at))
          ∙ passes_at_first p xs k (slice_get_within xs (position_or_len p xs) k at);
      earlier = λ s l lt f. ap p (sym (get_or_from_slice_get xs s l l f)) ∙ fails_before_first p xs s l lt;
    }

none_at :
    (p : ℕ → Bool) (xs : List ℕ) (t k : ℕ) → find p xs ≡ None → slice_get xs t ≡ Some k →
    p k ≡ false
none_at p xs t k h at = ap p (sym (get_or_from_slice_get xs t k k at))
    ∙ none_found p xs h t k (slice_get_within xs t k at)

some_index : (o : Option ℕ) → is_none o ≡ false → (p : ℕ) × (o ≡ Some p)
some_index None h = cc
some_index (Some p) h = (p, refl)

not_none : (p : ℕ) (o : Option ℕ) → o ≡ Some p → is_none o ≡ true → ⊥
not_none p None h e = cc
not_none p (Some q) h e = cc

-- an id has an index where it stands in the list
contains_indexed :
    (known : List ℕ) (x : IndexMap) (k : ℕ) → Indexes known x → is_none (x.index k) ≡ false →
    Contains known k
contains_indexed known x k is h =
    let r : _ = some_index (x.index k) h in
    let at : slice_get known r.0 ≡ Some k = (is.index k r.0).0 r.1 in
    (r.0, slice_get_within known r.0 k at, get_or_from_slice_get known r.0 k k at)

indexed_contains :
    (known : List ℕ) (x : IndexMap) (k : ℕ) → Indexes known x → Contains known k →
    is_none (x.index k) ≡ true → ⊥
indexed_contains known x k is c = not_none c.0 (x.index k)
    ((is.index k c.0).1 (slice_get-get_or known c.0 k c.1 ∙ ap (λ (n : ℕ). Some n) c.2))

-- two ways to write the ids of these groups that agree

group_same : (f h : ℕ → Definition) (e : Bool) (ids : List ℕ) → 0 < length ids →
    ((u i : ℕ) → slice_get ids u ≡ Some i → f i ≡ h i) →
    written_group f (record { ids = ids; is_explicit = e }) ≡ written_group h
    (record { ids = ids; is_explicit = e })
group_same f h true ids some each = ap Rec (all ids each)
  where
    all : (is : List ℕ) → ((u i : ℕ) → slice_get is u ≡ Some i → f i ≡ h i) → map f is ≡ map h is
    all [] g = refl
    all (i ∷ is) g = let one : f i ≡ h i = g 0 i refl in let rest : map f is ≡ map h is =
        all is (λ u j k. g (suc u) j k) in ap (λ (d : Definition). d ∷ map f is) one
        ∙ ap (λ (ds : List Definition). h i ∷ ds) rest
group_same f h false [] some each = absurd (omega (arith, some))
group_same f h false (i ∷ ids) some each = ap Single (each 0 i refl)

groups_same :
    (f h : ℕ → Definition) (ws : List TypeGroup) →
    ((a : ℕ) → a < length ws → 0 < length (group_at ws a).ids) →
    ((a u i : ℕ) → slice_get (group_at ws a).ids u ≡ Some i → f i ≡ h i) →
    map (written_group f) ws ≡ map (written_group h) ws
groups_same f h [] filled each = refl
groups_same f h (w ∷ ws) filled each =
    let one : written_group f w ≡ written_group h w =
    group_same f h w.is_explicit w.ids (filled 0 (omega arith)) (each 0) in
    let rest : map (written_group f) ws ≡ map (written_group h) ws =
    groups_same f h ws (λ a lt. filled (suc a) (omega (arith, lt))) (λ a. each (suc a)) in
    ap (λ (g : Group). g ∷ map (written_group f) ws) one ∙ ap (λ (gs : Section). written_group h w ∷ gs) rest

at_take :
    (ws : List TypeGroup) (n a u i : ℕ) → slice_get (group_at (take n ws) a).ids u ≡ Some i →
    (a < n) × (slice_get (group_at ws a).ids u ≡ Some i)
at_take [] zero a u i h = cc
at_take [] (suc n) a u i h = cc
at_take (w ∷ ws) zero a u i h = cc
at_take (w ∷ ws) (suc n) zero u i h = (omega arith, h)
at_take (w ∷ ws) (suc n) (suc a) u i h = let r : _ = at_take ws n a u i h in (omega (arith, r.0), r.1)

filled_take :
    (ws : List TypeGroup) (n : ℕ) → ((a : ℕ) → a < length ws → 0 < length (group_at ws a).ids) →
    (a : ℕ) → a < length (take n ws) → 0 < length (group_at (take n ws) a).ids
filled_take [] zero filled a h = absurd (omega (arith, h))
filled_take [] (suc n) filled a h = absurd (omega (arith, h))
filled_take (w ∷ ws) zero filled a h = absurd (omega (arith, h))
filled_take (w ∷ ws) (suc n) filled zero h = filled 0 (omega arith)
filled_take (w ∷ ws) (suc n) filled (suc a) h =
    filled_take ws n (λ b lt. filled (suc b) (omega (arith, lt))) a (omega (arith, h))

take_all : (ws : List TypeGroup) (n : ℕ) → n ≡ length ws → take n ws ≡ ws
take_all [] zero e = refl
take_all [] (suc n) e = absurd (omega (arith, e))
take_all (w ∷ ws) zero e = absurd (omega (arith, e))
take_all (w ∷ ws) (suc n) e = ap (λ (gs : List TypeGroup). w ∷ gs) (take_all ws n (omega (arith, e)))

-- the ids up to an earlier group stand in those up to a later one
contains_further :
    (ws : List TypeGroup) (m n k : ℕ) → m ≤ n → Contains (ids_in (take m ws)) k →
    (p : ℕ) × (slice_get (ids_in (take n ws)) p ≡ Some k)
contains_further ws m n k le c = go ws m n le (c.0) (slice_get-get_or (ids_in (take m ws)) c.0 k c.1
    ∙ ap (λ (i : ℕ). Some i) c.2)
  where
    -- the same place
    go : (ws : List TypeGroup) (m n : ℕ) → m ≤ n → (p : ℕ) → slice_get (ids_in (take m ws)) p ≡ Some k →
        (q : ℕ) × (slice_get (ids_in (take n ws)) q ≡ Some k)
    go [] zero n lt p h = cc
    go [] (suc m) n lt p h = cc
    go (w ∷ ws) zero n lt p h = cc
    go (w ∷ ws) (suc m) zero lt p h = absurd (omega (arith, lt))
    go (w ∷ ws) (suc m) (suc n) lt p h = elim (slice_get-parts w.ids (ids_in (take m ws)) p k h) [
      | inl at ↦ (p, slice_get-left w.ids (ids_in (take n ws)) p k at)
      | inr at ↦ (let r : _ = go ws m n (omega (arith, lt)) at.0 at.2 in
          (length w.ids + r.0, slice_get-right w.ids (ids_in (take n ws)) r.0 k r.1))
    ]

abbrev name_use : ℕ → ℕ → ℕ → ℕ → ℕ → NameUse
name_use group place position id named =
    record { group = group; place = place; position = position; id = id; named = named }

-- the first j groups are written
pub record IsProgress (def : ℕ → Definition) (ws : List TypeGroup) (j : ℕ) (out : List GroupAt)
    (x : IndexMap) : Type 0 where
  pub indexes : Indexes (ids_in (take j ws)) x
  pub section : section_of out ≡ map (written_group (with_indices x.index def)) (take j ws)
  pub complete : (name : NameUse) → name.group < j → ¬ (IsMissingIn def ws name)

pub finishes :
    (def : ℕ → Definition) (ws : List TypeGroup) (j : ℕ) (out : List GroupAt) (x : IndexMap) →
    j ≡ length ws → IsProgress def ws j out x → AreWritten def ws out x
finishes def ws j out x e p = record {
  indexes = subst (λ (gs : List TypeGroup). Indexes (ids_in gs) x) (take_all ws j e) p.indexes;
  section = p.section ∙ ap (map (written_group (with_indices x.index def))) (take_all ws j e);
  complete = λ name m. p.complete name (omega (arith, m.group, e)) m;
}

-- w is the next group
pub record IsNext (def : ℕ → Definition) (ws : List TypeGroup) (j : ℕ) (w : TypeGroup)
    (out : List GroupAt) (old : IndexMap) : Type 0 where
  pub filled : (a : ℕ) → a < length ws → 0 < length (group_at ws a).ids
  pub below : j < length ws
  pub at : group_at ws j ≡ w
  pub so_far : IsProgress def ws j out old

module _ {def : ℕ → Definition} {ws : List TypeGroup} {j : ℕ} {w : TypeGroup} {out : List GroupAt}
    {old : IndexMap} (s : IsNext def ws j w out old) where
  more : take (j + 1) ws ≡ take j ws ++ w ∷ []
  more = take_more ws j no_group s.below ∙ ap (λ (g : TypeGroup). take j ws ++ g ∷ []) s.at

  known : ids_in (take (j + 1) ws) ≡ ids_in (take j ws) ++ w.ids
  known = ap ids_in more ∙ (flat_map-append (λ (g : TypeGroup). g.ids) (take j ws) (w ∷ [])
      ∙ ap (λ (is : List ℕ). ids_in (take j ws) ++ is) (append-nil w.ids))

  all : ids_in ws ≡ ids_in (take j ws) ++ ids_in (drop j ws)
  all = ap ids_in (sym (take-append-drop j ws))
      ∙ flat_map-append (λ (g : TypeGroup). g.ids) (take j ws) (drop j ws)

  here : (u i : ℕ) → slice_get w.ids u ≡ Some i →
      slice_get (ids_in ws) (length (ids_in (take j ws)) + u) ≡ Some i
  here u i h = member_at ws j u i (ap (λ (g : TypeGroup). slice_get g.ids u) s.at ∙ h)

  pub fresh : IsApart (ids_in ws) → All (λ i. old.index i ≡ None) w.ids
  fresh apart u i lt = none (old.index (get_or w.ids u i)) refl
    where
      none : (o : Option ℕ) → old.index (get_or w.ids u i) ≡ o → old.index (get_or w.ids u i) ≡ None
      none None e = e
      none (Some p) e =
          let at_p : slice_get (ids_in (take j ws)) p ≡ Some (get_or w.ids u i) =
          (s.so_far.indexes.index (get_or w.ids u i) p).0 e in
          let same : p ≡ length (ids_in (take j ws)) + u =
          apart p (length (ids_in (take j ws)) + u) (get_or w.ids u i)
          (ap (λ (is : List ℕ). slice_get is p) all
          ∙ slice_get-left (ids_in (take j ws)) (ids_in (drop j ws)) p (get_or w.ids u i) at_p)
          (here u (get_or w.ids u i) (slice_get-get_or w.ids u i lt)) in
          absurd (omega (arith, same, slice_get_within (ids_in (take j ws)) p (get_or w.ids u i) at_p))

  pub distinct : IsApart (ids_in ws) → IsDistinct nat_eq w.ids
  distinct apart = IsDistinct-from_apart nat_eq w.ids differ
    where
      differ : (p q d : ℕ) → p < q → q < length w.ids → nat_eq (get_or w.ids p d) (get_or w.ids q d) ≡ false
      differ p q d lt in_q = by (nat_eq (get_or w.ids p d) (get_or w.ids q d)) refl
        where
          by : (b : Bool) → nat_eq (get_or w.ids p d) (get_or w.ids q d) ≡ b →
              nat_eq (get_or w.ids p d) (get_or w.ids q d) ≡ false
          by false e = e
          by true e =
              let same : get_or w.ids p d ≡ get_or w.ids q d =
              eqb-true (get_or w.ids p d) (get_or w.ids q d) e in
              let at_p : slice_get w.ids p ≡ Some (get_or w.ids q d) =
              slice_get-get_or w.ids p d (omega (arith, lt, in_q)) ∙ ap (λ (n : ℕ). Some n) same in
              let z : length (ids_in (take j ws)) + p ≡ length (ids_in (take j ws)) + q =
              apart _ _ (get_or w.ids q d) (here p (get_or w.ids q d) at_p)
              (here q (get_or w.ids q d) (slice_get-get_or w.ids q d in_q)) in
              absurd (omega (arith, z, lt))

  pub room : length (ids_in ws) < 2 ^ 32 → old.count + length w.ids ≤ 2 ^ 32
  room few =
      let split : ids_in ws ≡ ids_in (take (j + 1) ws) ++ ids_in (drop (j + 1) ws) = ap ids_in
      (sym (take-append-drop (j + 1) ws)) ∙ flat_map-append (λ (g : TypeGroup). g.ids) (take (j + 1) ws)
      (drop (j + 1) ws) in
      omega (
        arith,
        few,
        s.so_far.indexes.count,
        ap length known,
        ap length split,
        length-append (ids_in (take (j + 1) ws)) (ids_in (drop (j + 1) ws)),
        length-append (ids_in (take j ws)) w.ids,
      )

  module _ (apart : IsApart (ids_in ws)) (new : IndexMap) (given : GivesAll old new w.ids) where
    indexes : Indexes (ids_in (take j ws) ++ w.ids) new
    indexes = indexes_all (ids_in (take j ws)) w.ids old new (fresh apart) given s.so_far.indexes

    indexes' : Indexes (ids_in (take (j + 1) ws)) new
    indexes' = subst (λ (is : List ℕ). Indexes is new) (sym known) indexes

    -- what is written already stays as it is
    value_kept : (a u i k : ℕ) → a < j → slice_get (group_at ws a).ids u ≡ Some i → Names (def i) k →
        unwrap_or (old.index k) 0 ≡ unwrap_or (new.index k) 0
    value_kept a u i k lt m n = by (old.index k) refl
      where
        by : (o : Option ℕ) → old.index k ≡ o → unwrap_or (old.index k) 0 ≡ unwrap_or (new.index k) 0
        by (Some p) e =
            let at_p : slice_get (ids_in (take j ws)) p ≡ Some k = (s.so_far.indexes.index k p).0 e in
            let then_p : new.index k ≡ Some p = (indexes.index k p).1
            (slice_get-left (ids_in (take j ws)) w.ids p k at_p) in
            ap (λ (o : Option ℕ). unwrap_or o 0) (e ∙ sym then_p)
        by None e = absurd (s.so_far.complete (name_use a u n.0 i k) lt (record {
          group = omega (arith, lt, s.below);
          member = m;
          used = slice_get-get_or (names_of (def i)) n.0 k n.1 ∙ ap (λ (x : ℕ). Some x) n.2;
          missing = λ c. (let r : _ = contains_further ws (a + 1) j k (omega (arith, lt)) c in
              let f : old.index k ≡ Some r.0 = (s.so_far.indexes.index k r.0).1 r.1 in
              (let y = sym e ∙ f in cc));
        }))

    kept : map (written_group (with_indices old.index def)) (take j ws) ≡ map
        (written_group (with_indices new.index def)) (take j ws)
    kept = groups_same (with_indices old.index def) (with_indices new.index def) (take j ws)
        (filled_take ws j s.filled) (λ a u i h. (let r : _ = at_take ws j a u i h in
        rename_agree (λ k. unwrap_or (old.index k) 0) (λ k. unwrap_or (new.index k) 0) (def i) (λ k n.
        value_kept a u i k r.0 r.1 n)))

    -- a name in the j-th group
    member_is : (name : NameUse) → IsMissingIn def ws name → name.group ≡ j →
        slice_get w.ids name.place ≡ Some name.id
    member_is name m e = ap (λ (g : TypeGroup). slice_get g.ids name.place)
        (sym s.at ∙ ap (group_at ws) (sym e)) ∙ m.member

    missing_there : (name : NameUse) → IsMissingIn def ws name → name.group ≡ j →
        ¬ (Contains (ids_in (take (j + 1) ws)) name.named)
    missing_there name m e = subst (λ (n : ℕ). ¬ (Contains (ids_in (take (n + 1) ws)) name.named)) e
        m.missing

    none_missing : AllIndexed new.index def w.ids → (name : NameUse) → name.group ≡ j →
        ¬ (IsMissingIn def ws name)
    none_missing each name e m = missing_there name m e
        (contains_indexed (ids_in (take (j + 1) ws)) new name.named indexes'
        (none_at (λ l. is_none (new.index l)) (names_of (def name.id)) name.position name.named
        (each name.place name.id (member_is name m e)) m.used))

    pub advances : (g : GroupAt) → group_of g ≡ written_group (with_indices new.index def) w →
        AllIndexed new.index def w.ids → IsProgress def ws (j + 1) (out ++ g ∷ []) new
    advances g is each = record {
      indexes = indexes';
      section = map-append group_of out (g ∷ [])
          ∙ (ap (λ (s : Section). s ++ group_of g ∷ []) (s.so_far.section ∙ kept)
          ∙ (ap (λ (x : Group). map (written_group (with_indices new.index def)) (take j ws) ++ x ∷ []) is
          ∙ (sym (map-append (written_group (with_indices new.index def)) (take j ws) (w ∷ []))
          ∙ ap (map (written_group (with_indices new.index def))) (sym more))));
      complete = λ name lt. (elim (cases_lt name.group j) [
        | inl x ↦ s.so_far.complete name x
        | inr x ↦ none_missing each name (omega (arith, x, lt))
      ]);
    }

    pub stops : (i k : ℕ) → IsFirstUnindexed new.index def w.ids i k → FirstMissingIs def ws i k
    stops i k f = (name_use j f.place found.place i k, record { is = is; first = first }, refl, refl)
      where
        found : Found (λ l. is_none (new.index l)) (names_of (def i)) k
        found = found_at (λ l. is_none (new.index l)) (names_of (def i)) k f.name

        is : IsMissingIn def ws (name_use j f.place found.place i k)
        is = record {
          group = s.below;
          member = ap (λ (g : TypeGroup). slice_get g.ids f.place) s.at ∙ f.member;
          used = found.at;
          missing = λ c. indexed_contains (ids_in (take (j + 1) ws)) new k indexes' c found.passes;
        }

        in_same_group : (other : NameUse) → IsMissingIn def ws other → other.group ≡ j →
            (other.place < f.place) ⊎ ((other.place ≡ f.place) × (other.position < found.place)) → ⊥
        in_same_group other m e (inl lt) = missing_there other m e
            (contains_indexed (ids_in (take (j + 1) ws)) new other.named indexes'
            (none_at (λ l. is_none (new.index l)) (names_of (def other.id)) other.position other.named
            (f.earlier other.place other.id lt (member_is other m e)) m.used))
        in_same_group other m e (inr x) =
            let same : other.id ≡ i = some_inj (sym (member_is other m e) ∙ ap (slice_get w.ids) x.0
            ∙ f.member) in
            let used : slice_get (names_of (def i)) other.position ≡ Some other.named =
            subst (λ (n : ℕ). slice_get (names_of (def n)) other.position ≡ Some other.named) same m.used in
            missing_there other m e (contains_indexed (ids_in (take (j + 1) ws)) new other.named indexes'
            (found.earlier other.position other.named x.1 used))

        first : (other : NameUse) → IsMissingIn def ws other →
            ¬ (IndexPrecedes other (name_use j f.place found.place i k))
        first other m (inl x) = s.so_far.complete other x m
        first other m (inr x) = in_same_group other m x.0 x.1

-- groups that are to be written

filled_at :
    (ws : List TypeGroup) → All (λ (g : TypeGroup). 0 < length g.ids) ws → (a : ℕ) → a < length ws →
    0 < length (group_at ws a).ids
filled_at ws filled a lt = filled a no_group lt

-- groups of a table that are picked, one after the other

pub groups_count :
    (groups : List RecGroup) (ps : List PendingGroup) → length (groups_of groups ps) ≡ length ps
groups_count groups ps = length-map (places_of ps) (group_at (type_groups groups))
    ∙ length-map ps (λ (p : PendingGroup). p.place)

module _ (groups : List RecGroup) (ps : List PendingGroup) (j : ℕ) (p : PendingGroup) (g : RecGroup)
    (lt : j < length ps) (p_is : p ≡ get_or ps j p) (g_is : g ≡ get_or groups p.place g) (within
    : All (λ (q : PendingGroup). q.place < length groups) ps) where
  in_groups : p.place < length groups
  in_groups = subst (λ (q : PendingGroup). q.place < length groups) (sym p_is) (within j p lt)

  picked : group_at (groups_of groups ps) j ≡ contents g
  picked =
      let in_places : j < length (places_of ps) =
      omega (arith, lt, length-map ps (λ (q : PendingGroup). q.place)) in
      let place : slice_index (places_of ps) j ≡ p.place =
      get_or-map (λ (q : PendingGroup). q.place) ps j p 0 lt
      ∙ ap (λ (q : PendingGroup). q.place) (sym p_is) in
      get_or-map (group_at (type_groups groups)) (places_of ps) j 0 no_group in_places
      ∙ (ap (group_at (type_groups groups)) place
      ∙ (get_or-map contents groups p.place g no_group in_groups ∙ ap contents (sym g_is)))

  pub next : {def : ℕ → Definition} {out : List GroupAt} {old : IndexMap} →
      All (λ (w : TypeGroup). 0 < length w.ids) (groups_of groups ps) →
      IsProgress def (groups_of groups ps) j out old → IsNext def (groups_of groups ps) j (contents g) out old
  next filled so_far = record {
    filled = filled_at (groups_of groups ps) filled;
    below = omega (arith, lt, groups_count groups ps);
    at = picked;
    so_far = so_far;
  }

  pub all_of : (P : RecGroup → Type 0) → All P groups → P g
  all_of P each = subst P (sym g_is) (each p.place g in_groups)

  pub filled_of : All (λ (w : TypeGroup). 0 < length w.ids) (groups_of groups ps) → 0 < length g.types
  filled_of each = subst (λ (w : TypeGroup). 0 < length w.ids) picked
      (each j no_group (omega (arith, lt, groups_count groups ps)))

pub empty_same : (old new : IndexMap) → IsEmpty old → IsSame old new → IsEmpty new
empty_same old new e s = record { count = s.count ∙ e.count; index = λ id. s.index id ∙ e.index id }
