-- A section whose indices have slots, and one more group without error: which slots there are then.
use Rattle.std.proofs.Common.{◌≡◌, ℕ, ◌+◌, ◌-◌, ◌^◌, ◌<◌, ◌≤◌, List, [], ◌∷◌, ◌++◌, length, get_or, refl, sym, ap, subst, ◌∙◌, arith, Some, None, inl, inr, length-append}
use Rattle.std.proofs.lemmas.List.{get_or_append_left, get_or_at, get_or-append-add}
use Rattle.std.proofs.lemmas.List.FromFn.{length-range_with_len, get_or-range_with_len}
use Rattle.std.proofs.lemmas.Bool.{cases_lt}
use Rattle.std.specs.List.{range_with_len}
use Rattle.walrus_ty.specs.Definition.{Definition, Names, rename}
use Rattle.walrus_ty.specs.Groups.{Section, Group, Single, Rec}
use Rattle.walrus_ty.proofs.Basics.{add_rest}
use Rattle.walrus_ty.proofs.Names.Definitions.{rename_agree, Names-rename, named_before}
use Rattle.walrus_sections.specs.FirstError.{group_error, definitions_of}
use Rattle.walrus_sections.specs.NormalForm.{image}
use Rattle.walrus_sections.specs.Section.{IndexSpace, index_space, IsSingle, IsInRec, IsWellNamed}
use Rattle.walrus_sections.specs.SlotMap.{IsSlotMap, IsCandidate, read_definition}
use Rattle.walrus_sections.proofs.Emission.Made.{down}
use Rattle.walrus_sections.proofs.FirstError.Search.{sound_from_no_error}
use Rattle.walrus_sections.proofs.Reading.NextGroup.{Follows, follows, single_rec_position, member_position}
use Rattle.walrus_sections.proofs.Sections.Rows.{laid_out}

-- the section can be read, and each of its indices has one of these slots
pub record HasSlots (s : Section) (r : List ℕ) : Type 0 where
  pub well_named : IsWellNamed s
  pub one_each : length r ≡ (index_space s).count
  pub slot_map : IsSlotMap (index_space s) (image r)

-- what `IsSlotMap` says of the index i
pub record HasSlot (n : IndexSpace) (r : ℕ → ℕ) (i : ℕ) : Type 0 where
  pub recs : IsInRec n i → r i ≡ i
  pub selfs : IsSingle n i → Names (n.definition i) i → r i ≡ i
  pub fresh : (j : ℕ) → IsSingle n i → ¬ (Names (n.definition i) i) → r i ≡ i → ¬ (IsCandidate n r i j)
  pub to_candidate : IsSingle n i → ¬ (r i ≡ i) → IsCandidate n r i (r i)

slot_map_of :
    (n : IndexSpace) (r : ℕ → ℕ) → ((i : ℕ) → i < n.count → HasSlot n r i) → IsSlotMap n r
slot_map_of n r has = record {
  recs = λ i h. (has i h).recs;
  selfs = λ i h. (has i h).selfs;
  fresh = λ i j h. (has i h).fresh j;
  to_candidate = λ i h. (has i h).to_candidate;
}

module _ (s : Section) (r : List ℕ) (is : HasSlots s r) where
  abbrev n : IndexSpace
  n = index_space s

  below_count : (i : ℕ) → i < n.count → (k : ℕ) → Names (n.definition i) k → k < n.count
  below_count i h k named = let a = is.well_named.below_ends i h k named in let b = (laid_out s).fits i h in
      omega (arith, a, b)

  -- a lone type that was read names nothing later
  single_names : (j k : ℕ) → j < n.count → IsSingle n j → Names (read_definition n (image r) j) k → k ≤ j
  single_names j k h one named =
      let b = named_before (image r) (n.definition j) k named in
      let below = is.well_named.below_ends j h b.0 b.1 in
      let end = (laid_out s).single_end j h one in
      let le = down n (image r) is.slot_map b.0 (below_count j h b.0 b.1) in
      let e = b.2 in
      omega arith

  module _ (g : Group) (fine : group_error n.count (definitions_of g) ≡ None) where
    abbrev t : Section
    t = s ++ g ∷ []

    abbrev ds : List Definition
    ds = definitions_of g

    abbrev now : IndexSpace
    now = index_space t

    next : Follows n now ds
    next = follows s g

    new_definition : (i : ℕ) (d : Definition) → n.count ≤ i → i < now.count →
        now.definition i ≡ get_or ds (i - n.count) d
    new_definition i d h w = let e = add_rest n.count i h in let c = next.count in ap now.definition (sym e)
        ∙ next.new_definition (i - n.count) d (omega arith)

    new_end : (i : ℕ) → n.count ≤ i → i < now.count → now.end i ≡ n.count + length ds
    new_end i h w = let e = add_rest n.count i h in let c = next.count in ap now.end (sym e)
        ∙ next.new_end (i - n.count) (omega arith)

    names_below : (i k : ℕ) → n.count ≤ i → i < now.count → Names (now.definition i) k →
        k < n.count + length ds
    names_below i k h w named =
        let c = next.count in
        (sound_from_no_error n.count ds fine).below (i - n.count) k (now.definition i) (omega arith)
        (subst (λ (d : Definition). Names d k) (new_definition i (now.definition i) h w) named)

    still_well_named : IsWellNamed t
    still_well_named = record {
      few = (let c = next.count in let f = (sound_from_no_error n.count ds fine).few in
          subst (λ (x : ℕ). x < 2 ^ 32) (sym c) f);
      below_ends = λ i h k named. elim (cases_lt i n.count) [
        | inl w ↦ (let e = next.end i w in let b =
            is.well_named.below_ends i w k (subst (λ (d : Definition). Names d k) (next.definition i w) named)
            in omega arith)
        | inr w ↦ (let e = new_end i w h in let b = names_below i k w h named in omega arith)
      ];
    }

    -- with these slots at the end
    module _ (x : List ℕ) where
      abbrev r' : List ℕ
      r' = r ++ x

      pub agree : (k : ℕ) → k < n.count → image r' k ≡ image r k
      agree k h = get_or_append_left r x 0 k (omega (arith, h, is.one_each))

      pub same_read : (i : ℕ) → i < n.count →
          read_definition now (image r') i ≡ read_definition n (image r) i
      same_read i h = ap (rename (image r')) (next.definition i h)
          ∙ rename_agree (image r') (image r) (n.definition i) (λ k named. agree k (below_count i h k named))

      candidate_stays : (i j : ℕ) → i < n.count → IsCandidate n (image r) i j →
          IsCandidate now (image r') i j
      candidate_stays i j h c =
          let e = c.earlier in
          let w : j < n.count = omega arith in
          record {
            earlier = c.earlier;
            single = next.rec_position j w ∙ c.single;
            live = agree j w ∙ c.live;
            same = same_read j w ∙ (c.same ∙ sym (same_read i h));
          }

      candidate_before : (i j : ℕ) → i < n.count → IsCandidate now (image r') i j →
          IsCandidate n (image r) i j
      candidate_before i j h c =
          let e = c.earlier in
          let w : j < n.count = omega arith in
          record {
            earlier = c.earlier;
            single = sym (next.rec_position j w) ∙ c.single;
            live = sym (agree j w) ∙ c.live;
            same = sym (same_read j w) ∙ (c.same ∙ same_read i h);
          }

      names_before : (i k : ℕ) → i < n.count → Names (now.definition i) k → Names (n.definition i) k
      names_before i k h named = subst (λ (d : Definition). Names d k) (next.definition i h) named

      old_slot : (i : ℕ) → i < n.count → HasSlot now (image r') i
      old_slot i h = record {
        recs = λ x. agree i h ∙ is.slot_map.recs i h (x.0, sym (next.rec_position i h) ∙ x.1);
        selfs = λ one named. agree i h
            ∙ is.slot_map.selfs i h (sym (next.rec_position i h) ∙ one) (names_before i i h named);
        fresh = λ j one other own c. is.slot_map.fresh i j h (sym (next.rec_position i h) ∙ one)
            (λ named. other (subst (λ (d : Definition). Names d i) (sym (next.definition i h)) named))
            (sym (agree i h) ∙ own) (candidate_before i j h c);
        to_candidate = λ one other. subst (λ (j : ℕ). IsCandidate now (image r') i j) (sym (agree i h))
            (candidate_stays i (image r i) h (is.slot_map.to_candidate i h
            (sym (next.rec_position i h) ∙ one) (λ own. other (agree i h ∙ own))));
      }

      next_slots : length x ≡ length ds →
          ((i : ℕ) → n.count ≤ i → i < now.count → HasSlot now (image r') i) → HasSlots t r'
      next_slots many last = record {
        well_named = still_well_named;
        one_each = (let c = next.count in let l = length-append r x in let o = is.one_each in omega arith);
        slot_map = slot_map_of now (image r') (λ i h. elim (cases_lt i n.count) [
          | inl w ↦ old_slot i w
          | inr w ↦ last i w h
        ]);
      }

  -- the next group is a lone type
  module _ (d : Definition) (fine : group_error n.count (d ∷ []) ≡ None) where
    abbrev one : Section
    one = s ++ Single d ∷ []

    -- what it is read as, where its own index has a slot of its own
    abbrev read : Definition
    read = rename (image (r ++ n.count ∷ [])) d

    pub here : (index_space one).definition n.count ≡ d
    here = new_definition (Single d) fine n.count d (omega arith) (let c = (next (Single d) fine).count in
        omega arith) ∙ first (n.count - n.count) (omega arith)
      where
        first : (u : ℕ) → u ≡ 0 → get_or (d ∷ []) u d ≡ d
        first u e = ap (λ (u : ℕ). get_or (d ∷ []) u d) e

    only : (i : ℕ) → n.count ≤ i → i < (index_space one).count → i ≡ n.count
    only i h w = let c = (next (Single d) fine).count in omega arith

    pub last_slot : (j : ℕ) → image (r ++ j ∷ []) n.count ≡ j
    last_slot j = get_or_at r j [] 0 n.count is.one_each

    not_in_rec : ¬ (IsInRec (index_space one) n.count)
    not_in_rec x = let e : None ≡ Some x.0 = sym (single_rec_position s d) ∙ x.1 in cc

    slots_of_one : (j : ℕ) → HasSlot (index_space one) (image (r ++ j ∷ [])) n.count →
        HasSlots one (r ++ j ∷ [])
    slots_of_one j has = next_slots (Single d) fine (j ∷ []) refl (λ i h w.
        subst (λ (i : ℕ). HasSlot (index_space one) (image (r ++ j ∷ [])) i) (sym (only i h w)) has)

    -- no earlier lone type is read as it is: it gets a slot of its own
    pub new_slot :
        ((j : ℕ) → j < n.count → IsSingle n j → image r j ≡ j → ¬ (read_definition n (image r) j ≡ read)) →
        HasSlots one (r ++ n.count ∷ [])
    new_slot none = slots_of_one n.count (record {
      recs = λ x. last_slot n.count;
      selfs = λ single named. last_slot n.count;
      fresh = λ j single other own c. (let w = c.earlier in
          none j w (sym ((next (Single d) fine).rec_position j w) ∙ c.single)
          (sym (agree (Single d) fine (n.count ∷ []) j w) ∙ c.live)
          (sym (same_read (Single d) fine (n.count ∷ []) j w)
          ∙ (c.same ∙ ap (rename (image (r ++ n.count ∷ []))) here)));
      to_candidate = λ single other. absurd (other (last_slot n.count));
    })

    -- an earlier one is read as it is
    module _ (j : ℕ) (below : j < n.count) (single : IsSingle n j) (live : image r j ≡ j)
        (same : read_definition n (image r) j ≡ read) where
      no_self : ¬ (Names d n.count)
      no_self named =
          let a = subst (λ (i : ℕ). Names read i) (last_slot n.count)
          (Names-rename (image (r ++ n.count ∷ [])) d n.count named) in
          let le = single_names j n.count below single
          (subst (λ (e : Definition). Names e n.count) (sym same) a) in omega arith

      names_old : (k : ℕ) → Names d k → k < n.count
      names_old k named =
          let b = names_below (Single d) fine n.count k (omega arith) (let c = (next (Single d) fine).count in
          omega arith) (subst (λ (e : Definition). Names e k) (sym here) named) in
          elim (cases_lt k n.count) [
            | inl w ↦ w
            | inr w ↦ (let e : k ≡ n.count = omega arith in
                absurd (no_self (subst (λ (i : ℕ). Names d i) e named)))
          ]

      read_alike : read ≡ rename (image (r ++ j ∷ [])) d
      read_alike = rename_agree (image (r ++ n.count ∷ [])) (image (r ++ j ∷ [])) d (λ k named.
          (let w = names_old k named in agree (Single d) fine (n.count ∷ []) k w
          ∙ sym (agree (Single d) fine (j ∷ []) k w)))

      not_own : ¬ (image (r ++ j ∷ []) n.count ≡ n.count)
      not_own e = let f = last_slot j in omega arith

      is_candidate : IsCandidate (index_space one) (image (r ++ j ∷ [])) n.count j
      is_candidate = record {
        earlier = below;
        single = (next (Single d) fine).rec_position j below ∙ single;
        live = agree (Single d) fine (j ∷ []) j below ∙ live;
        same = same_read (Single d) fine (j ∷ []) j below
            ∙ (same ∙ (read_alike ∙ ap (rename (image (r ++ j ∷ []))) (sym here)));
      }

      -- it has the slot of that one
      pub shared_slot : HasSlots one (r ++ j ∷ [])
      shared_slot = slots_of_one j (record {
        recs = λ x. absurd (not_in_rec x);
        selfs = λ alone named. absurd (no_self (subst (λ (e : Definition). Names e n.count) here named));
        fresh = λ k alone other own c. not_own own;
        to_candidate = λ alone other. subst
            (λ (k : ℕ). IsCandidate (index_space one) (image (r ++ j ∷ [])) n.count k) (sym (last_slot j))
            is_candidate;
      })

  -- the next group is a `Rec`: its members have slots of their own
  module _ (ds : List Definition) (fine : group_error n.count ds ≡ None) where
    abbrev more : Section
    more = s ++ Rec ds ∷ []

    abbrev own : List ℕ
    own = range_with_len n.count (length ds)

    own_slot : (u : ℕ) → u < length ds → image (r ++ own) (n.count + u) ≡ n.count + u
    own_slot u h =
        let o = is.one_each in
        let e : n.count + u ≡ length r + u = omega arith in
        ap (image (r ++ own)) e
        ∙ (get_or-append-add r own u 0 ∙ get_or-range_with_len n.count (length ds) u 0 h)

    member_slot : (u : ℕ) → u < length ds → HasSlot (index_space more) (image (r ++ own)) (n.count + u)
    member_slot u h =
        let x = member_position s ds u h in
        let not_single : ¬ (IsSingle (index_space more) (n.count + u)) = λ one.
        (let e : None ≡ Some x.0 = sym one ∙ x.1 in cc) in
        record {
          recs = λ in_rec. own_slot u h;
          selfs = λ one named. own_slot u h;
          fresh = λ j one other live c. not_single one;
          to_candidate = λ one other. absurd (not_single one);
        }

    pub member_slots : HasSlots more (r ++ own)
    member_slots = next_slots (Rec ds) fine own (length-range_with_len n.count (length ds)) (λ i h w.
        (let c = (next (Rec ds) fine).count in
        subst (λ (i : ℕ). HasSlot (index_space more) (image (r ++ own)) i) (add_rest n.count i h)
        (member_slot (i - n.count) (omega arith))))
