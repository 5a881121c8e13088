-- The group that stands behind other ones, and its members.
use Rattle.std.proofs.Common.{◌≡◌, ℕ, zero, suc, ◌+◌, ◌-◌, ◌<◌, ◌≤◌, List, [], ◌∷◌, ◌++◌, length, length-append, append_assoc, append-nil, refl, sym, ap, subst, ◌∙◌, inl, inr, Some, None, slice_get, arith}
use Rattle.std.proofs.lemmas.Bool.{cases_lt}
use Rattle.std.proofs.lemmas.List.{get_or-append-add}
use Rattle.walrus_ty.specs.Definition.{Definition}
use Rattle.walrus_ty.specs.Groups.{Group, Single, Rec, Section}
use Rattle.walrus_sections.specs.Section.{IndexSpace, Place, no_place, rec_places, places_from, index_space}
use Rattle.walrus_sections.proofs.Sections.Lying.{some_same}
use Rattle.walrus_sections.proofs.Sections.Rows.{at, rows, laid_out, length-rec_places}
use Rattle.walrus_sections.proofs.Sections.Numbering.{rec_past}
use Rattle.walrus_sections.proofs.Sections.Places.{places-append}
use Rattle.walrus_sections.proofs.Sections.Splits.{size, length-places}
use Rattle.walrus_canonical.specs.EqualTypes.{IsMember, alone, in_rec}
use Rattle.walrus_canonical.specs.Listing.{HasPlainGroups, group_definitions}
use Rattle.walrus_canonical.proofs.Equality.Members.{only_itself, in_same_rec, some_pair, place_within}

-- a group of these definitions begins at b
pub record BeginsAt (n : IndexSpace) (b : ℕ) (ds : List Definition) : Type 0 where
  pub filled : 0 < length ds
  pub inside : b + length ds ≤ n.count
  pub definition : (t : ℕ) → t < length ds → slice_get ds t ≡ Some (n.definition (b + t))
  pub member : (t : ℕ) → t < length ds → IsMember n b t (b + t)
  pub only : (t k : ℕ) → IsMember n b t k → (t < length ds) × (k ≡ b + t)

in_places :
    (es : List Definition) (end k t : ℕ) (rest : List Place) (i : ℕ) → i < length es →
    (slice_get es i ≡ Some (at (rec_places es end k t rest) i).definition) ×
    ((at (rec_places es end k t rest) i).rec_position ≡ Some (k, t + i))
in_places [] end k t rest i h = absurd (omega (arith, h))
in_places (e ∷ es) end k t rest zero h = (
  refl,
  let z : t ≡ t + 0 = omega arith in
      ap (λ (u : ℕ). Some (k, u)) z,
)
in_places (e ∷ es) end k t rest (suc i) h =
    let r = in_places es end k (suc t) rest i (omega (arith, h)) in
    let z : suc t + i ≡ t + suc i = omega arith in (r.0, r.1 ∙ ap (λ (u : ℕ). Some (k, u)) z)

module _ (pre post : Section) (d : Definition) where
  abbrev whole : Section
  whole = pre ++ Single d ∷ post

  abbrev b : ℕ
  b = (index_space pre).count

  one_place :
      (c : ℕ) × (at (places_from 0 0 whole) b ≡
      record { definition = d; end = suc c; rec_position = None }) × (b < (index_space whole).count)
  one_place =
      let a = places-append 0 0 pre (Single d ∷ post) in
      let ps = places_from 0 0 pre in
      let qs = places_from a.0 a.1 (Single d ∷ post) in
      let e : b ≡ b + 0 = omega arith in
      let long = ap (λ (xs : List Place). length xs) a.2 ∙ length-append ps qs in (
        a.0,
        ap (λ (xs : List Place). at xs b) a.2 ∙ (ap (at (ps ++ qs)) e ∙ get_or-append-add ps qs 0 no_place),
        omega (arith, long),
      )

  single_begins : BeginsAt (index_space whole) b (d ∷ [])
  single_begins =
      let p = one_place in
      let o : (index_space whole).rec_position b ≡ None = ap (λ (x : Place). x.rec_position) p.1 in
      let is : (index_space whole).definition b ≡ d = ap (λ (x : Place). x.definition) p.1 in
      let at_zero : (t : ℕ) → t < 1 → b + t ≡ b = λ t h. omega (arith, h) in
      record {
        filled = omega arith;
        inside = omega (arith, p.2);
        definition = one_definition is;
        member = one_member o p.2;
        only = λ t k m. (
            let z = only_itself (index_space whole) b t k o m in
            let z0 = z.0 in let z1 = z.1 in (omega (arith, z0), omega (arith, z0, z1)));
      }
    where
      one_definition :
          (index_space whole).definition b ≡ d → (t : ℕ) → t < 1 →
          slice_get (d ∷ []) t ≡ Some ((index_space whole).definition (b + t))
      one_definition is zero h = let e : b ≡ b + 0 = omega arith in
          ap (λ (x : Definition). Some x) (sym is ∙ ap (λ (u : ℕ). (index_space whole).definition u) e)
      one_definition is (suc t) h = absurd (omega (arith, h))

      one_member :
          (index_space whole).rec_position b ≡ None → b < (index_space whole).count → (t : ℕ) → t < 1 →
          IsMember (index_space whole) b t (b + t)
      one_member o low zero h = let e : b ≡ b + 0 = omega arith in
          subst (λ (u : ℕ). IsMember (index_space whole) b 0 u) e (alone low o)
      one_member o low (suc t) h = absurd (omega (arith, h))

module _ (pre post : Section) (d : Definition) (ds : List Definition) where
  abbrev all : Section
  all = pre ++ Rec (d ∷ ds) ∷ post

  abbrev N : IndexSpace
  N = index_space all

  abbrev base : ℕ
  base = (index_space pre).count

  -- what stands from the base on
  record Behind : Type 0 where
    pub c : ℕ
    pub l : ℕ
    pub is : (j : ℕ) → at (places_from 0 0 all) (base + j) ≡
        at (rec_places (d ∷ ds) (length (d ∷ ds) + c) l 0 (places_from (length (d ∷ ds) + c) (suc l) post)) j
    pub long : base + length (d ∷ ds) ≤ N.count

  behind : Behind
  behind =
      let a = places-append 0 0 pre (Rec (d ∷ ds) ∷ post) in
      let ps = places_from 0 0 pre in
      let qs = places_from a.0 a.1 (Rec (d ∷ ds) ∷ post) in
      let rest = places_from (length (d ∷ ds) + a.0) (suc a.1) post in
      let long = ap (λ (xs : List Place). length xs) a.2 ∙ length-append ps qs in
      let more = length-rec_places (d ∷ ds) (length (d ∷ ds) + a.0) a.1 0 rest in
      record {
        c = a.0;
        l = a.1;
        is = λ j. ap (λ (xs : List Place). at xs (base + j)) a.2 ∙ get_or-append-add ps qs j no_place;
        long = omega (arith, long, more);
      }

  abbrev rest : Behind → List Place
  rest h = places_from (length (d ∷ ds) + h.c) (suc h.l) post

  position : (h : Behind) (t : ℕ) → t < length (d ∷ ds) → N.rec_position (base + t) ≡ Some (h.l, t)
  position h t low =
      let z : 0 + t ≡ t = omega arith in
      ap (λ (x : Place). x.rec_position) (h.is t)
      ∙ ((in_places (d ∷ ds) (length (d ∷ ds) + h.c) h.l 0 (rest h) t low).1
      ∙ ap (λ (u : ℕ). Some (h.l, u)) z)

  position_first : (h : Behind) → N.rec_position base ≡ Some (h.l, 0)
  position_first h =
      let e : base ≡ base + 0 = omega arith in
      ap (λ (u : ℕ). N.rec_position u) e ∙ position h 0 (omega arith)

  not_before :
      (h : Behind) (t k : ℕ) → N.rec_position k ≡ Some (h.l, t) → ¬ (k < base)
  not_before h t k at_k less =
      let at_b = position_first h in
      elim ((laid_out all).pair k base less (omega (arith, h.long))) [
        | inl a ↦ omega (arith, a.rises (h.l, t) (h.l, 0) at_k at_b)
        | inr o ↦
            let y = some_same (N.rec_position base) o.y (h.l, 0) o.at_y at_b in
            let y1 : o.y.1 ≡ 0 = ap (λ (x : ℕ × ℕ). x.1) y in
            omega (arith, y1, o.later)
      ]

  place_behind :
      (h : Behind) (t j : ℕ) → N.rec_position (base + j) ≡ Some (h.l, t) →
      (t < length (d ∷ ds)) × (j ≡ t)
  place_behind h t j at_j = elim (cases_lt j (length (d ∷ ds))) [
    | inl low ↦
        let same = some_pair h.l j h.l t (sym (position h j low) ∙ at_j) in
        let e = same.1 in (omega (arith, e, low), e)
    | inr over ↦ absurd (
        let i = j - length (d ∷ ds) in
        let e : j ≡ length (d ∷ ds) + i = omega (arith, over) in
        let past = rec_past (d ∷ ds) (length (d ∷ ds) + h.c) h.l 0 (rest h) i in
        let at_i : (at (rest h) i).rec_position ≡ Some (h.l, t) =
        ap (λ (x : Place). x.rec_position) (sym past) ∙ (sym (ap (λ (x : Place). x.rec_position)
        (h.is (length (d ∷ ds) + i))) ∙ (ap (λ (u : ℕ). N.rec_position (base + u)) (sym e) ∙ at_j)) in
        let low = place_within (rest h) i (h.l, t) at_i in
        let z = (rows (length (d ∷ ds) + h.c) (suc h.l) post).least i (h.l, t) low at_i in
        omega (arith, z))
  ]

  rec_begins : BeginsAt N base (d ∷ ds)
  rec_begins =
      let h = behind in
      record {
        filled = omega arith;
        inside = h.long;
        definition = λ t low.
            (in_places (d ∷ ds) (length (d ∷ ds) + h.c) h.l 0 (rest h) t low).0
            ∙ ap (λ (x : Place). Some x.definition) (sym (h.is t));
        member = λ t low. in_rec (base + t) t h.l 0 (position_first h) (position h t low);
        only = λ t k m. (
            let at_k = in_same_rec N base h.l 0 t k (position_first h) m in
            let j = k - base in
            let e : k ≡ base + j = elim (cases_lt k base) [
              | inl less ↦ absurd (not_before h t k at_k less)
              | inr over ↦ omega (arith, over)
            ] in
            let z = place_behind h t j (ap (λ (u : ℕ). N.rec_position u) (sym e) ∙ at_k) in
            let z1 = z.1 in (z.0, omega (arith, e, z1)));
      }

pub begins_filled :
    (pre : Section) (g : Group) (post : Section) → 0 < length (group_definitions g) →
    BeginsAt (index_space (pre ++ g ∷ post)) (index_space pre).count (group_definitions g)
begins_filled pre (Single d) post h = single_begins pre post d
begins_filled pre (Rec []) post h = absurd (omega (arith, h))
begins_filled pre (Rec (d ∷ ds)) post h = rec_begins pre post d ds

filled_if_plain : (g : Group) (gs : Section) → HasPlainGroups (g ∷ gs) → 0 < length (group_definitions g)
filled_if_plain (Single d) gs h = omega arith
filled_if_plain (Rec []) gs h = absurd h
filled_if_plain (Rec (d ∷ ds)) gs h = omega arith

pub begins :
    (pre : Section) (g : Group) (post : Section) → HasPlainGroups (g ∷ post) →
    BeginsAt (index_space (pre ++ g ∷ post)) (index_space pre).count (group_definitions g)
begins pre g post h = begins_filled pre g post (filled_if_plain g post h)

pub plain_right : (gs hs : Section) → HasPlainGroups (gs ++ hs) → HasPlainGroups hs
plain_right [] hs h = h
plain_right (Single d ∷ gs) hs h = plain_right gs hs h
plain_right (Rec [] ∷ gs) hs h = absurd h
plain_right (Rec (d ∷ []) ∷ gs) hs h = absurd h
plain_right (Rec (d ∷ e ∷ ds) ∷ gs) hs h = plain_right gs hs h

pub plain_append : (gs hs : Section) → HasPlainGroups gs → HasPlainGroups hs → HasPlainGroups (gs ++ hs)
plain_append [] hs h k = k
plain_append (Single d ∷ gs) hs h k = plain_append gs hs h k
plain_append (Rec [] ∷ gs) hs h k = absurd h
plain_append (Rec (d ∷ []) ∷ gs) hs h k = absurd h
plain_append (Rec (d ∷ e ∷ ds) ∷ gs) hs h k = plain_append gs hs h k

-- ---- how many types there are

size-append : (gs hs : Section) → size (gs ++ hs) ≡ size gs + size hs
size-append [] hs = omega arith
size-append (Single d ∷ gs) hs = omega (arith, size-append gs hs)
size-append (Rec ds ∷ gs) hs = omega (arith, size-append gs hs)

size_one : (g : Group) → size (g ∷ []) ≡ length (group_definitions g)
size_one (Single d) = refl
size_one (Rec ds) = omega arith

pub one_group_more :
    (pre : Section) (g : Group) →
    (index_space (pre ++ g ∷ [])).count ≡ (index_space pre).count + length (group_definitions g)
one_group_more pre g =
    let c = size-append pre (g ∷ []) in
    omega (arith, length-places 0 0 (pre ++ g ∷ []), length-places 0 0 pre, c, size_one g)

-- ---- the group round an index

pub record Around (n : IndexSpace) (i : ℕ) : Type 0 where
  pub head : ℕ
  pub ds : List Definition
  pub begins : BeginsAt n head ds
  pub place : ℕ
  pub low : place < length ds
  pub is : i ≡ head + place

around_behind :
    (i : ℕ) (pre rest : Section) → (index_space pre).count ≤ i →
    i < (index_space (pre ++ rest)).count → Around (index_space (pre ++ rest)) i
around_behind i pre [] over h = absurd (
    let same = ap (λ (u : Section). (index_space u).count) (append-nil pre) in
    omega (arith, over, h, same))
around_behind i pre (g ∷ rest) over h =
    let ds = group_definitions g in
    elim (cases_lt i ((index_space pre).count + length ds)) [
      | inl low ↦ record {
        head = (index_space pre).count;
        ds = ds;
        begins = begins_filled pre g rest (omega (arith, over, low));
        place = i - (index_space pre).count;
        low = omega (arith, over, low);
        is = omega (arith, over);
      }
      | inr behind ↦
          let is : (pre ++ g ∷ []) ++ rest ≡ pre ++ g ∷ rest = append_assoc pre (g ∷ []) rest in
          subst (λ (u : Section). Around (index_space u) i) is
          (around_behind i (pre ++ g ∷ []) rest (omega (arith, behind, one_group_more pre g))
          (subst (λ (u : Section). i < (index_space u).count) (sym is) h))
    ]

pub around : (s : Section) (i : ℕ) → i < (index_space s).count → Around (index_space s) i
around s i h = around_behind i [] s (omega arith) h
