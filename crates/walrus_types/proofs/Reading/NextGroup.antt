-- A section that was read, and one more group without error: what the ids, the slots, the map and
-- the groups are then.
use Rattle.std.proofs.Common.{◌≡◌, ℕ, suc, ◌+◌, ◌-◌, ◌<◌, ◌≤◌, List, [], ◌∷◌, ◌++◌, length, get_or, refl, sym, ap, subst, ◌∙◌, arith, Some, None, Option, Bool, true, false, cond, ◌==◌, ◌⊎◌, inl, inr}
use Rattle.std.specs.{List.range_with_len, Option.is_none}
use Rattle.std.proofs.lemmas.{List.get_or_append_left, List.get_or_at, List.append-nil, Bool.cases_lt, Bool.eq-eqb, Bool.ne_eqb}
use Rattle.walrus_arena.specs.Arena.{Slots}
use Rattle.walrus_ty.specs.{Definition.Definition, Definition.Names, Definition.rename, Groups.Section, Groups.Group, Groups.Single, Groups.Rec, Types.ModuleType}
use Rattle.walrus_sections.specs.{Section.IndexSpace, Section.index_space, Section.IsSingle, NormalForm.image, SlotMap.TypeGroup, SlotMap.read_definition, SlotMap.read_groups, FirstError.group_error, FirstError.definitions_of}
use Rattle.walrus_types.specs.ReadResult.{IsReadResult, IsCandidateFor, type_of_definition}
use Rattle.walrus_types.specs.Steps.ReadSlots.{types_of_definitions, live_slots}
use Rattle.walrus_ty.proofs.{Names.Definitions.rename_agree, Names.Definitions.Names-rename, Basics.add_rest}
use Rattle.walrus_sections.proofs.{FirstError.Laws.well_named_next, FirstError.Search.sound_from_no_error, Reading.Groups.groups_next}
use Rattle.walrus_sections.proofs.Reading.NextGroup.{Follows, follows, single_rec_position, member_position}
use Rattle.walrus_types.proofs.Reading.NextIndex.{Holds, below_or_last, holds_same, read_found, read_new, read_members, members_slots}
use Rattle.walrus_types.proofs.Reading.Section.{TellsTypes, read_type, is_single, none_single, some_single, stored_definition, below_count, single_names, held, found_alike, reads_of}

-- the types stored for these definitions are the slots of the members
stored_each :
    (f : ℕ → ℕ) (b : ℕ) (ds : List Definition) (q : ℕ → ModuleType) →
    ((u : ℕ) (d : Definition) → u < length ds →
    q (b + u) ≡ type_of_definition (rename f (get_or ds u d)) (b + u)) →
    live_slots (types_of_definitions f b ds) ≡ members_slots q b (length ds)
stored_each f b [] q h = refl
stored_each f b (d ∷ ds) q h =
    let here : b + 0 ≡ b = omega arith in
    let first : q b ≡ type_of_definition (rename f d) b = ap q (sym here)
    ∙ (h 0 d (omega arith) ∙ ap (type_of_definition (rename f d)) here) in
    let rest : live_slots (types_of_definitions f (b + 1) ds) ≡ members_slots q (b + 1) (length ds) =
    stored_each f (b + 1) ds q (λ u e w. ap q (shift b u)
    ∙ (h (suc u) e (omega arith) ∙ ap (type_of_definition (rename f (get_or ds u e))) (sym (shift b u)))) in
    ap (λ (x : ModuleType). Some x ∷ live_slots (types_of_definitions f (b + 1) ds)) (sym first)
    ∙ ap (λ (xs : Slots ModuleType). Some (q b) ∷ xs) rest
  where
    shift : (b u : ℕ) → b + 1 + u ≡ b + suc u
    shift b u = omega arith

module _ (eq : ModuleType → ModuleType → Bool) (tells : TellsTypes eq) (s : Section) (r : List ℕ)
    (slots : Slots ModuleType) (map : ModuleType → Option ℕ) (groups : List TypeGroup)
    (is : IsReadResult s r slots map groups) where
  abbrev n : IndexSpace
  n = index_space s

  module _ (g : Group) (fine : group_error n.count (definitions_of g) ≡ None) where
    abbrev t : Section
    t = s ++ g ∷ []

    abbrev ds : List Definition
    ds = definitions_of g

    abbrev now : IndexSpace
    now = index_space t

    next : Follows n now ds
    next = follows s g

    new_definition : (i : ℕ) (d : Definition) → n.count ≤ i → i < now.count →
        now.definition i ≡ get_or ds (i - n.count) d
    new_definition i d h w = let e = add_rest n.count i h in let c = next.count in ap now.definition (sym e)
        ∙ next.new_definition (i - n.count) d (omega arith)

    names_below : (i k : ℕ) → n.count ≤ i → i < now.count → Names (now.definition i) k →
        k < n.count + length ds
    names_below i k h w named =
        let c = next.count in
        (sound_from_no_error n.count ds fine).below (i - n.count) k (now.definition i) (omega arith)
        (subst (λ (d : Definition). Names d k) (new_definition i (now.definition i) h w) named)

    -- with these ids at the end
    module _ (x : List ℕ) where
      abbrev r' : List ℕ
      r' = r ++ x

      agree : (k : ℕ) → k < n.count → image r' k ≡ image r k
      agree k h = get_or_append_left r x 0 k (omega (arith, h, is.one_each))

      type_same : (i : ℕ) → i < n.count → read_type n r i ≡ read_type now r' i
      type_same i h = ap (λ (d : Definition). type_of_definition d i)
          (rename_agree (image r) (image r') (n.definition i) (λ k named.
          sym (agree k (below_count eq tells s r slots map groups is i h k named)))
          ∙ ap (rename (image r')) (sym (next.definition i h)))

      kept : Holds eq n.count (is_single now) (read_type now r') r slots map
      kept = holds_same eq n.count (is_single n) (is_single now) (read_type n r) (read_type now r') r slots
          map (λ i h. ap is_none (sym (next.rec_position i h))) type_same
          (held eq tells s r slots map groups is).holds

      old_selfs : (i : ℕ) → i < n.count → IsSingle now i → Names (now.definition i) i → image r' i ≡ i
      old_selfs i h one named = agree i h ∙ is.rule.selfs i h (sym (next.rec_position i h) ∙ one)
          (subst (λ (d : Definition). Names d i) (next.definition i h) named)

      grouping : read_groups 0 (image r') t ≡ groups ++ read_groups n.count (image r') (g ∷ [])
      grouping = groups_next (image r) (image r') s g agree
          ∙ ap (λ (gs : List TypeGroup). gs ++ read_groups n.count (image r') (g ∷ [])) (sym is.grouping)

  -- the next group is a `Single`, which reads as ty where its index stands for itself
  module _ (d : Definition) (fine : group_error n.count (d ∷ []) ≡ None) where
    abbrev one : Section
    one = s ++ Single d ∷ []

    abbrev ty : ModuleType
    ty = type_of_definition (rename (image (r ++ n.count ∷ [])) d) n.count

    here : (index_space one).definition n.count ≡ d
    here = new_definition (Single d) fine n.count d (omega arith) (let c = (next (Single d) fine).count in
        omega arith) ∙ first (n.count - n.count) (omega arith)
      where
        first : (u : ℕ) → u ≡ 0 → get_or (d ∷ []) u d ≡ d
        first u e = ap (λ (u : ℕ). get_or (d ∷ []) u d) e

    alone : is_single (index_space one) n.count ≡ true
    alone = none_single ((index_space one).rec_position n.count) (single_rec_position s d)

    one_more : (index_space one).count ≡ n.count + 1
    one_more = let c = (next (Single d) fine).count in omega arith

    last : (j : ℕ) → image (r ++ j ∷ []) n.count ≡ j
    last j = get_or_at r j [] 0 n.count is.one_each

    below_or_here : (i : ℕ) → i < (index_space one).count → (i < n.count) ⊎ (i ≡ n.count)
    below_or_here i h = below_or_last i n.count (let c = one_more in omega arith)

    -- it reads as a `Single` that is found
    module _ (j : ℕ) (found : map ty ≡ Some j) where
      candidate : IsCandidateFor s r ty j
      candidate = (is.candidates ty j).0 found

      names_old : (k : ℕ) → Names d k → k < n.count
      names_old k named =
          let b = names_below (Single d) fine n.count k (omega arith) (let c = one_more in omega arith)
          (subst (λ (e : Definition). Names e k) (sym here) named) in
          elim (cases_lt k n.count) [
            | inl w ↦ w
            | inr w ↦ (let e : k ≡ n.count = omega arith in
                absurd (self (subst (λ (i : ℕ). Names d i) e named)))
          ]
        where
          self : ¬ (Names d n.count)
          self named =
              let a = subst (λ (i : ℕ). Names (rename (image (r ++ n.count ∷ [])) d) i) (last n.count)
              (Names-rename (image (r ++ n.count ∷ [])) d n.count named) in
              let e : rename (image (r ++ n.count ∷ [])) d ≡ read_definition n (image r) j =
              sym (stored_definition _ n.count) ∙ candidate.same in
              let le = single_names eq tells s r slots map groups is j n.count candidate.below
              candidate.single (subst (λ (e : Definition). Names e n.count) e a) in
              let b = candidate.below in
              omega arith

      same_type : ty ≡ read_type (index_space one) (r ++ j ∷ []) n.count
      same_type = ap (λ (e : Definition). type_of_definition e n.count)
          (rename_agree (image (r ++ n.count ∷ [])) (image (r ++ j ∷ [])) d (λ k named.
          (let w = names_old k named in agree (Single d) fine (n.count ∷ []) k w
          ∙ sym (agree (Single d) fine (j ∷ []) k w))) ∙ ap (rename (image (r ++ j ∷ []))) (sym here))

      held_found : Holds eq (n.count + 1) (is_single (index_space one))
          (read_type (index_space one) (r ++ j ∷ [])) (r ++ j ∷ []) (slots ++ None ∷ []) map
      held_found = read_found eq tells.laws n.count (is_single (index_space one))
          (read_type (index_space one) (r ++ j ∷ [])) r slots map
          (found_alike eq tells s r slots map groups is) (kept (Single d) fine (j ∷ [])) alone j
          (subst (λ (q : ModuleType). map q ≡ Some j) same_type found)

      not_here : image (r ++ j ∷ []) n.count == n.count ≡ false
      not_here = let b = candidate.below in ap (λ (i : ℕ). i == n.count) (last j)
          ∙ ne_eqb j n.count (λ e. omega (arith, e, b))

      -- its index stands for that one, and its own slot is dead
      pub reads_found : IsReadResult one (r ++ j ∷ []) (slots ++ None ∷ []) map groups
      reads_found =
          reads_of eq tells one (r ++ j ∷ []) (slots ++ None ∷ []) map groups
          (well_named_next s (Single d) is.well_named fine) (found_alike eq tells s r slots map groups is)
          (record {
            holds = subst (λ (c : ℕ). Holds eq c (is_single (index_space one))
                (read_type (index_space one) (r ++ j ∷ [])) (r ++ j ∷ []) (slots ++ None ∷ []) map)
                (sym one_more) held_found;
            selfs = λ i h single named. elim (below_or_here i h) [
              | inl w ↦ old_selfs (Single d) fine (j ∷ []) i w single named
              | inr e ↦ (let w = names_old i (subst (λ (f : Definition). Names f i)
                  (ap (index_space one).definition e ∙ here) named) in omega arith)
            ];
          })
          (sym (grouping (Single d) fine (j ∷ []) ∙ rw not_here (append-nil groups)))

    -- nothing is found for it: its index stands for itself, and it is found from now on
    module _ (absent : map ty ≡ None) (map' : ModuleType → Option ℕ) (maps : (q : ModuleType) →
        map' q ≡ cond (eq ty q) (Some n.count) (map q)) where
      own_type : ty ≡ read_type (index_space one) (r ++ n.count ∷ []) n.count
      own_type = ap (λ (e : Definition). type_of_definition (rename (image (r ++ n.count ∷ [])) e) n.count)
          (sym here)

      held_new : Holds eq (n.count + 1) (is_single (index_space one))
          (read_type (index_space one) (r ++ n.count ∷ [])) (r ++ n.count ∷ []) (slots ++ Some ty ∷ []) map'
      held_new =
          subst (λ (q : ModuleType). Holds eq (n.count + 1) (is_single (index_space one))
          (read_type (index_space one) (r ++ n.count ∷ [])) (r ++ n.count ∷ []) (slots ++ Some q ∷ [])
          map') (sym own_type)
          (read_new eq tells.laws n.count (is_single (index_space one))
          (read_type (index_space one) (r ++ n.count ∷ [])) r slots map
          (found_alike eq tells s r slots map groups is) (kept (Single d) fine (n.count ∷ [])) alone map'
          (subst (λ (q : ModuleType). map q ≡ None) own_type absent) (λ q. maps q
          ∙ ap (λ (e : ModuleType). cond (eq e q) (Some n.count) (map q)) own_type))

      new_alike : (p q : ModuleType) → eq p q ≡ true → map' p ≡ map' q
      new_alike p q h =
          let e : eq ty p ≡ eq ty q = tells.laws.symm ty p
          ∙ (tells.laws.congr p q ty h ∙ tells.laws.symm q ty) in
          maps p ∙ (ap (λ (b : Bool). cond b (Some n.count) (map p)) e
          ∙ (ap (λ (o : Option ℕ). cond (eq ty q) (Some n.count) o)
          (found_alike eq tells s r slots map groups is p q h) ∙ sym (maps q)))

      is_here : image (r ++ n.count ∷ []) n.count == n.count ≡ true
      is_here = ap (λ (i : ℕ). i == n.count) (last n.count) ∙ eq-eqb n.count n.count refl

      pub reads_new : IsReadResult one (r ++ n.count ∷ []) (slots ++ Some ty ∷ []) map'
          (groups ++ record { ids = n.count ∷ []; is_explicit = false } ∷ [])
      reads_new =
          reads_of eq tells one (r ++ n.count ∷ []) (slots ++ Some ty ∷ []) map'
          (groups ++ record { ids = n.count ∷ []; is_explicit = false } ∷ [])
          (well_named_next s (Single d) is.well_named fine) new_alike
          (record {
            holds = subst (λ (c : ℕ). Holds eq c (is_single (index_space one))
                (read_type (index_space one) (r ++ n.count ∷ [])) (r ++ n.count ∷ []) (slots ++ Some ty ∷ [])
                map') (sym one_more) held_new;
            selfs = λ i h single named. elim (below_or_here i h) [
              | inl w ↦ old_selfs (Single d) fine (n.count ∷ []) i w single named
              | inr e ↦ (ap (image (r ++ n.count ∷ [])) e ∙ (last n.count ∙ sym e))
            ];
          })
          (sym (grouping (Single d) fine (n.count ∷ []) ∙ rw is_here refl))

  -- the next group is a `Rec`: its indices stand for themselves, and no member is found
  module _ (ds : List Definition) (fine : group_error n.count ds ≡ None) where
    abbrev more : Section
    more = s ++ Rec ds ∷ []

    abbrev own : List ℕ
    own = range_with_len n.count (length ds)

    abbrev ids : List ℕ
    ids = r ++ own

    abbrev members : Slots ModuleType
    members = live_slots (types_of_definitions (image ids) n.count ds)

    member_type : (u : ℕ) (d : Definition) → u < length ds →
        read_type (index_space more) ids (n.count + u) ≡ type_of_definition
        (rename (image ids) (get_or ds u d)) (n.count + u)
    member_type u d h = ap (λ (e : Definition). type_of_definition (rename (image ids) e) (n.count + u))
        ((next (Rec ds) fine).new_definition u d h)

    in_rec : (u : ℕ) → u < length ds → is_single (index_space more) (n.count + u) ≡ false
    in_rec u h = let x = member_position s ds u h in
        some_single ((index_space more).rec_position (n.count + u)) x.0 x.1

    held_members : Holds eq (n.count + length ds) (is_single (index_space more))
        (read_type (index_space more) ids) ids (slots ++ members) map
    held_members = subst (λ (xs : Slots ModuleType).
        Holds eq (n.count + length ds) (is_single (index_space more)) (read_type (index_space more) ids) ids
        (slots ++ xs) map) (sym (stored_each (image ids) n.count ds (read_type (index_space more) ids)
        member_type)) (read_members eq (is_single (index_space more)) (read_type (index_space more) ids) map
        (length ds) n.count r slots (kept (Rec ds) fine own) in_rec)

    pub reads_rec : IsReadResult more ids (slots ++ members) map
        (groups ++ record { ids = own; is_explicit = true } ∷ [])
    reads_rec =
        reads_of eq tells more ids (slots ++ members) map
        (groups ++ record { ids = own; is_explicit = true } ∷ []) (well_named_next s (Rec ds) is.well_named fine)
        (found_alike eq tells s r slots map groups is)
        (record {
          holds = subst (λ (c : ℕ). Holds eq c (is_single (index_space more))
              (read_type (index_space more) ids) ids (slots ++ members) map) (sym (next (Rec ds) fine).count)
              held_members;
          selfs = λ i h single named. elim (cases_lt i n.count) [
            | inl w ↦ old_selfs (Rec ds) fine own i w single named
            | inr w ↦ (let e = add_rest n.count i w in let c = (next (Rec ds) fine).count in let x =
                member_position s ds (i - n.count) (omega arith) in let both : None ≡ Some x.0 = sym single
                ∙ (ap (index_space more).rec_position (sym e) ∙ x.1) in absurd cc)
          ];
        })
        (sym (grouping (Rec ds) fine own))
