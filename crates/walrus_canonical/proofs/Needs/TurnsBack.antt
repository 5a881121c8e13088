-- A walk back over groups.
use Rattle.std.proofs.Common.{◌≡◌, ℕ, ◌+◌, ◌-◌, ◌<◌, List, [], ◌∷◌, ◌++◌, length, take, drop, get_or, reverse, map, refl, ap, sym, subst, ◌∙◌, arith, length-append}
use Rattle.std.proofs.lemmas.List.{map-append, length-reverse, get_or-reverse, length-map, take_all}
use Rattle.walrus_ty.specs.declared.records.GroupAt.{GroupAt}
use Rattle.walrus_ty.specs.Definition.{Definition}
use Rattle.walrus_ty.specs.Groups.{Group, Single, Rec, Section}
use Rattle.walrus_ty.specs.declared.records.EntryAt.{EntryAt}
use Rattle.walrus_ty.specs.Records.{entry_definition, group_of, section_of}
use Rattle.walrus_sections.specs.FirstError.{definitions_of}
use Rattle.walrus_sections.specs.Section.{index_space}
use Rattle.walrus_canonical.specs.Listing.{group_definitions}
use Rattle.walrus_canonical.proofs.Needs.CheckedGroups.{more_groups, split_at}
use Rattle.walrus_canonical.proofs.Forms.NextGroups.{BeginsAt, begins_filled, one_group_more}

-- so many entries are in the groups that are left once n have been visited
abbrev pub count_left : List GroupAt → ℕ → ℕ
count_left given n = (index_space (section_of (take (length given - n) given))).count

pub record IsTurnBack (given : List GroupAt) (n start end : ℕ) (g : GroupAt) : Type 0 where
  pub left : start ≡ count_left given (n + 1)
  pub ends : end ≡ start + length (definitions_of (group_of g))
  pub begins :
      0 < length (definitions_of (group_of g)) →
      BeginsAt (index_space (section_of given)) start (definitions_of (group_of g))

same_definitions : (g : Group) → group_definitions g ≡ definitions_of g
same_definitions (Single d) = refl
same_definitions (Rec ds) = refl

pub filled_begins :
    (pre : Section) (g : Group) (post : Section) → 0 < length (definitions_of g) →
    BeginsAt (index_space (pre ++ g ∷ post)) (index_space pre).count (definitions_of g)
filled_begins pre g post h =
    let e = same_definitions g in
    subst (λ (ds : List Definition). BeginsAt (index_space (pre ++ g ∷ post)) (index_space pre).count ds) e
    (begins_filled pre g post (subst (λ (ds : List Definition). 0 < length ds) (sym e) h))

pub one_more_group :
    (pre : Section) (g : Group) →
    (index_space (pre ++ g ∷ [])).count ≡ (index_space pre).count + length (definitions_of g)
one_more_group pre g = one_group_more pre g
    ∙ ap (λ (ds : List Definition). (index_space pre).count + length ds) (same_definitions g)

turned :
    (given : List GroupAt) (n at start end : ℕ) (g : GroupAt) → at < length given →
    g ≡ get_or given at g → length given - n ≡ at + 1 → length given - (n + 1) ≡ at →
    end ≡ count_left given n →
    start ≡ end - length (definitions_of (group_of g)) → IsTurnBack given n start end g
turned given n at start end g within is here next left down =
    let pre = section_of (take at given) in
    let post = section_of (drop (at + 1) given) in
    let ds = definitions_of (group_of g) in
    let whole : section_of given ≡ pre ++ group_of g ∷ post =
    ap section_of (split_at given at g within is)
    ∙ map-append group_of (take at given) (g ∷ drop (at + 1) given) in
    let ended : count_left given n ≡ (index_space pre).count + length ds =
    ap (λ (m : ℕ). (index_space (section_of (take m given))).count) here
    ∙ (ap (λ (t : Section). (index_space t).count) (more_groups given at g within is)
    ∙ one_more_group pre (group_of g)) in
    let started : start ≡ (index_space pre).count = omega (arith, left, ended, down) in
    record {
      left = started ∙ ap (λ (m : ℕ). (index_space (section_of (take m given))).count) (sym next);
      ends = omega (arith, left, ended, started);
      begins = λ filled. rw (started, whole) (filled_begins pre (group_of g) post filled);
    }

pub turn_back :
    (given : List GroupAt) (n start end : ℕ) (g : GroupAt) → n < length (reverse given) →
    g ≡ get_or (reverse given) n g → end ≡ count_left given n →
    start ≡ end - length (definitions_of (group_of g)) → IsTurnBack given n start end g
turn_back given n start end g low is left down =
    let within : n < length given = omega (arith, low, length-reverse given) in
    turned given n (length given - 1 - n) start end g (omega (arith, within))
    (is ∙ get_or-reverse given n g within) (omega (arith, within)) (omega (arith, within)) left down

pub all_left : (given : List GroupAt) → (index_space (section_of given)).count ≡ count_left given 0
all_left given = ap (λ (gs : List GroupAt). (index_space (section_of gs)).count)
    (sym (take_all (length given - 0) given (omega arith)))

pub none_left_to_visit :
    (given : List GroupAt) (n : ℕ) → n ≡ length (reverse given) → count_left given n ≡ 0
none_left_to_visit given n e =
    let z : length given - n ≡ 0 = omega (arith, e, length-reverse given) in
    ap (λ (m : ℕ). (index_space (section_of (take m given))).count) z

pub next_left :
    {A : Type 0} (given : List GroupAt) (xs : List A) (x : A) →
    count_left given (length xs + 1) ≡ count_left given (length (xs ++ x ∷ []))
next_left given xs x =
    let long = length-append xs (x ∷ []) in
    ap (λ (m : ℕ). (index_space (section_of (take (length given - m) given))).count) (sym long)

pub start_of :
    (end start : ℕ) (es : List EntryAt) (ds : List Definition) → map entry_definition es ≡ ds →
    start ≡ end - length es → start ≡ end - length ds
start_of end start es ds same down =
    let long = length-map es entry_definition in
    down ∙ ap (λ (m : ℕ). end - m) (sym long ∙ ap (λ (xs : List Definition). length xs) same)
