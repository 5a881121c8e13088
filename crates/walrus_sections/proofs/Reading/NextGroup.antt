-- A section with one more group: what stood at each index stands there still, and the definitions
-- of the group come next.
use Rattle.std.proofs.Common.{◌≡◌, ℕ, zero, suc, ◌+◌, ◌<◌, List, [], ◌∷◌, ◌++◌, length, get_or, refl, ap, sym, ◌∙◌, arith, Some, None, length-append}
use Rattle.std.specs.List.{slice_index_or}
use Rattle.std.proofs.lemmas.List.{get_or_append_left, get_or-append-add}
use Rattle.walrus_ty.specs.{Definition.Definition, Groups.Group, Groups.Single, Groups.Rec, Groups.Section}
use Rattle.walrus_sections.specs.Section.{Place, IndexSpace, rec_places, recs_after, places_from, no_place, index_space}
use Rattle.walrus_sections.specs.FirstError.{definitions_of}
use Rattle.walrus_sections.proofs.Sections.{Rows.length-rec_places, Places.rec_places-append}

abbrev at : List Place → ℕ → Place
at ps i = slice_index_or ps i no_place

-- t is s, and these definitions after it, all in one group
pub record Follows (s t : IndexSpace) (ds : List Definition) : Type 0 where
  pub count : t.count ≡ s.count + length ds
  pub definition : (i : ℕ) → i < s.count → t.definition i ≡ s.definition i
  pub end : (i : ℕ) → i < s.count → t.end i ≡ s.end i
  pub rec_position : (i : ℕ) → i < s.count → t.rec_position i ≡ s.rec_position i
  pub new_definition : (u : ℕ) (d : Definition) → u < length ds → t.definition (s.count + u) ≡ get_or ds u d
  pub new_end : (u : ℕ) → u < length ds → t.end (s.count + u) ≡ s.count + length ds

places_after :
    (b k : ℕ) (gs : Section) (g : Group) →
    (l : ℕ) × (places_from b k (gs ++ g ∷ []) ≡
    places_from b k gs ++ places_from (length (places_from b k gs) + b) l (g ∷ []))
places_after b k [] g = (k, ap (λ (c : ℕ). places_from c k (g ∷ [])) (omega arith))
places_after b k (Single d ∷ gs) g =
    let r = places_after (suc b) k gs g in
    let p : Place = record { definition = d; end = suc b; rec_position = None } in
    let c : length (places_from (suc b) k gs) + suc b ≡ length (p ∷ places_from (suc b) k gs) + b =
    omega arith in (
      r.0,
      ap (λ ps. p ∷ ps) r.1 ∙ ap (λ (c : ℕ). p ∷ (places_from (suc b) k gs ++ places_from c r.0 (g ∷ [])))
          c,
    )
places_after b k (Rec ds ∷ gs) g =
    let r = places_after (length ds + b) (recs_after ds k) gs g in
    let ps : List Place = places_from (length ds + b) (recs_after ds k) gs in
    let c : length ps + (length ds + b) ≡ length (rec_places ds (length ds + b) k 0 ps) + b =
    omega (arith, length-rec_places ds (length ds + b) k 0 ps) in (
      r.0,
      ap (rec_places ds (length ds + b) k 0) r.1 ∙ (rec_places-append ds (length ds + b) k 0 ps _
          ∙ ap (λ (c : ℕ). rec_places ds (length ds + b) k 0 ps ++ places_from c r.0 (g ∷ [])) c),
    )

member : (ds : List Definition) (end k t u : ℕ) (d : Definition) → u < length ds →
    at (rec_places ds end k t []) u ≡ record {
      definition = get_or ds u d;
      end = end;
      rec_position = Some (k, t + u);
    }
member [] end k t u d h = absurd (omega arith)
member (e ∷ ds) end k t zero d h = ap (λ (n : ℕ).
    record { definition = e; end = end; rec_position = Some (k, n) }) (omega arith)
member (e ∷ ds) end k t (suc u) d h = member ds end k (suc t) u d (omega arith)
    ∙ ap (λ (n : ℕ). record { definition = get_or ds u d; end = end; rec_position = Some (k, n) })
    (omega arith)

module _ (s : Section) where
  abbrev places : List Place
  places = places_from 0 0 s

  abbrev places_with : Group → List Place
  places_with g = places_from 0 0 (s ++ g ∷ [])

  left : (g : Group) (i : ℕ) → i < length places → at (places_with g) i ≡ at places i
  left g i h = let r = places_after 0 0 s g in ap (λ ps. at ps i) r.1
      ∙ get_or_append_left places (places_from (length places + 0) r.0 (g ∷ [])) no_place i h

  right : (g : Group) (u : ℕ) → (l : ℕ) × (at (places_with g) (length places + u) ≡ at
      (places_from (length places) l (g ∷ [])) u)
  right g u =
      let r = places_after 0 0 s g in
      let c : length places + 0 ≡ length places = omega arith in (
        r.0,
        ap (λ ps. at ps (length places + u)) r.1
            ∙ (get_or-append-add places (places_from (length places + 0) r.0 (g ∷ [])) u no_place
            ∙ ap (λ (c : ℕ). at (places_from c r.0 (g ∷ [])) u) c),
      )

  size_of : (g : Group) (c l : ℕ) → length (places_from c l (g ∷ [])) ≡ length (definitions_of g)
  size_of (Single d) c l = refl
  size_of (Rec ds) c l = length-rec_places ds (length ds + c) l 0 [] ∙ omega arith

  count : (g : Group) → length (places_with g) ≡ length places + length (definitions_of g)
  count g =
      let r = places_after 0 0 s g in
      let qs : List Place = places_from (length places + 0) r.0 (g ∷ []) in
      let n = size_of g (length places + 0) r.0 in
      omega (arith, ap length r.1, length-append places qs)

  new_place : (g : Group) (u : ℕ) (d : Definition) → u < length (definitions_of g) →
      ((at (places_with g) (length places + u)).definition ≡ get_or (definitions_of g) u d)
      × ((at (places_with g) (length places + u)).end ≡ length places + length (definitions_of g))
  new_place (Single e) zero d h = let r = right (Single e) 0 in
      (ap (λ (p : Place). p.definition) r.1, ap (λ (p : Place). p.end) r.1 ∙ omega arith)
  new_place (Single e) (suc u) d h = absurd (omega arith)
  new_place (Rec ds) u d h =
      let r = right (Rec ds) u in
      let e = r.1 ∙ member ds (length ds + length places) r.0 0 u d h in
      (ap (λ (p : Place). p.definition) e, ap (λ (p : Place). p.end) e ∙ omega arith)

  pub follows : (g : Group) → Follows (index_space s) (index_space (s ++ g ∷ [])) (definitions_of g)
  follows g = record {
    count = count g;
    definition = λ i h. ap (λ (p : Place). p.definition) (left g i h);
    end = λ i h. ap (λ (p : Place). p.end) (left g i h);
    rec_position = λ i h. ap (λ (p : Place). p.rec_position) (left g i h);
    new_definition = λ u d h. (new_place g u d h).0;
    new_end = λ u h. (new_place g u no_place.definition h).1;
  }

  pub single_rec_position : (d : Definition) →
      (index_space (s ++ Single d ∷ [])).rec_position (index_space s).count ≡ None
  single_rec_position d =
      let r = right (Single d) 0 in
      let n : length places + 0 ≡ length places = omega arith in
      ap (λ (i : ℕ). (at (places_with (Single d)) i).rec_position) (sym n)
      ∙ ap (λ (p : Place). p.rec_position) r.1

  pub member_position : (ds : List Definition) (u : ℕ) → u < length ds → (x : ℕ × ℕ)
      × ((index_space (s ++ Rec ds ∷ [])).rec_position ((index_space s).count + u) ≡ Some x)
  member_position ds u h =
      let r = right (Rec ds) u in (
        (r.0, 0 + u),
        ap (λ (p : Place). p.rec_position) (r.1
            ∙ member ds (length ds + length places) r.0 0 u no_place.definition h),
      )
