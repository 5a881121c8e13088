-- The group that stands at an index.
use Rattle.std.proofs.Common.{◌≡◌, ℕ, zero, suc, ◌+◌, ◌<◌, refl, ap, sym, ◌∙◌, inl, inr, arith, Some, None, List, [], ◌∷◌, ◌++◌, map, length, length-append}
use Rattle.walrus_ty.specs.{Definition.Definition, Groups.Single, Groups.Rec, Groups.Section}
use Rattle.walrus_sections.specs.{Section.Place, Section.recs_after, Section.places_from, Section.index_space, Section.IsFilled, Moves.rename_group}
use Rattle.walrus_sections.proofs.Sections.{Rows.at, Rows.length-rec_places, Places.places-append, Places.at-here, Places.at-next, Numbering.rec_at_number}

abbrev pub size : Section → ℕ
size [] = 0
size (Single e ∷ gs) = suc (size gs)
size (Rec es ∷ gs) = length es + size gs

pub length-places : (b k : ℕ) (gs : Section) → length (places_from b k gs) ≡ size gs
length-places b k [] = refl
length-places b k (Single e ∷ gs) = ap suc (length-places (suc b) k gs)
length-places b k (Rec es ∷ gs) =
    length-rec_places es (length es + b) k 0 (places_from (length es + b) (recs_after es k) gs)
    ∙ ap (λ n. length es + n) (length-places (length es + b) (recs_after es k) gs)

pub record Split (gs : Section) (i : ℕ) : Type 0 where
  pub before : Section
  pub after : Section
  pub e : Definition
  pub is : gs ≡ before ++ Single e ∷ after
  pub place : size before ≡ i

pub split :
    (gs : Section) (b k i : ℕ) → i < length (places_from b k gs) →
    (at (places_from b k gs) i).rec_position ≡ None → Split gs i
split [] b k i h o = absurd (omega arith)
split (Single e ∷ gs) b k zero h o = record { before = []; after = gs; e = e; is = refl; place = refl }
split (Single e ∷ gs) b k (suc i) h o =
    let r = split gs (suc b) k i (omega arith) o in
    record {
      before = Single e ∷ r.before;
      after = r.after;
      e = r.e;
      is = ap (λ xs. Single e ∷ xs) r.is;
      place = ap suc r.place;
    }
split (Rec es ∷ gs) b k i h o =
    let rest = places_from (length es + b) (recs_after es k) gs in
    elim (rec_at_number es (length es + b) k 0 rest i) [
      | inl x ↦ absurd (let x1 = x.1 in cc)
      | inr x ↦ (
          let x1 = x.1 in
          let len = length-rec_places es (length es + b) k 0 rest in
          let r = split gs (length es + b) (recs_after es k) x.0 (omega arith)
          (ap (λ (p : Place). p.rec_position) (sym x.2) ∙ o) in
          let rp = r.place in
          record {
            before = Rec es ∷ r.before;
            after = r.after;
            e = r.e;
            is = ap (λ xs. Rec es ∷ xs) r.is;
            place = (omega arith);
          })
    ]

pub split_definition : (s : Section) (i : ℕ) (r : Split s i) → (index_space s).definition i ≡ r.e
split_definition s i r =
    let a = places-append 0 0 r.before (Single r.e ∷ r.after) in
    let ps = places_from 0 0 r.before in
    let len = length-places 0 0 r.before ∙ r.place in
    ap (λ (j : ℕ). (index_space s).definition j) (sym len)
    ∙ (ap (λ (qs : List Place). (at qs (length ps)).definition) (ap (places_from 0 0) r.is ∙ a.2)
    ∙ ap (λ (p : Place). p.definition) (at-here ps
    (record { definition = r.e; end = suc a.0; rec_position = None })
    (places_from (suc a.0) a.1 r.after)))

pub filled-right : (gs hs : Section) → IsFilled (gs ++ hs) → IsFilled hs
filled-right [] hs f = f
filled-right (Single e ∷ gs) hs f = filled-right gs hs f
filled-right (Rec [] ∷ gs) hs f = absurd f
filled-right (Rec (e ∷ es) ∷ gs) hs f = filled-right gs hs f

pub filled-left : (gs hs : Section) → IsFilled (gs ++ hs) → IsFilled gs
filled-left [] hs f = tt
filled-left (Single e ∷ gs) hs f = filled-left gs hs f
filled-left (Rec [] ∷ gs) hs f = f
filled-left (Rec (e ∷ es) ∷ gs) hs f = filled-left gs hs f

pub filled-append : (gs hs : Section) → IsFilled gs → IsFilled hs → IsFilled (gs ++ hs)
filled-append [] hs f g = g
filled-append (Single e ∷ gs) hs f g = filled-append gs hs f g
filled-append (Rec [] ∷ gs) hs f g = f
filled-append (Rec (e ∷ es) ∷ gs) hs f g = filled-append gs hs f g

pub filled-map : (u : ℕ → ℕ) (gs : Section) → IsFilled gs → IsFilled (map (rename_group u) gs)
filled-map u [] f = tt
filled-map u (Single e ∷ gs) f = filled-map u gs f
filled-map u (Rec [] ∷ gs) f = f
filled-map u (Rec (e ∷ es) ∷ gs) f = filled-map u gs f

pub record SplitTwo (gs : Section) (i : ℕ) : Type 0 where
  pub before : Section
  pub after : Section
  pub e : Definition
  pub f : Definition
  pub is : gs ≡ before ++ Single e ∷ Single f ∷ after
  pub place : size before ≡ i

next_single :
    (s : Section) (i : ℕ) (r : Split s i) (after : Section) → r.after ≡ after → IsFilled after →
    suc i < (index_space s).count → (index_space s).rec_position (suc i) ≡ None → SplitTwo s i
next_single s i r [] e f h o =
    let q : s ≡ r.before ++ Single r.e ∷ [] = r.is ∙ ap (λ xs. r.before ++ Single r.e ∷ xs) e in
    let a = places-append 0 0 r.before (Single r.e ∷ []) in
    let z = ap length (ap (places_from 0 0) q ∙ a.2) in
    let len = length-append (places_from 0 0 r.before) (places_from a.0 a.1 (Single r.e ∷ [])) in
    let lp = length-places 0 0 r.before in let pl = r.place in absurd (omega arith)
next_single s i r (Single f ∷ after) e g h o =
    record {
      before = r.before;
      after = after;
      e = r.e;
      f = f;
      is = r.is ∙ ap (λ xs. r.before ++ Single r.e ∷ xs) e;
      place = r.place;
    }
next_single s i r (Rec [] ∷ after) e f h o = absurd f
next_single s i r (Rec (x ∷ xs) ∷ after) e f h o =
    let q : s ≡ r.before ++ Single r.e ∷ Rec (x ∷ xs) ∷ after = r.is
    ∙ ap (λ xs. r.before ++ Single r.e ∷ xs) e in
    let a = places-append 0 0 r.before (Single r.e ∷ Rec (x ∷ xs) ∷ after) in
    let ps = places_from 0 0 r.before in
    let len = length-places 0 0 r.before ∙ r.place in
    let n = at-next ps (record { definition = r.e; end = suc a.0; rec_position = None })
    (places_from (suc a.0) a.1 (Rec (x ∷ xs) ∷ after)) in
    let z : (index_space s).rec_position (suc i) ≡ Some (a.1, 0) =
    ap (λ (j : ℕ). (index_space s).rec_position (suc j)) (sym len)
    ∙ (ap (λ (qs : List Place). (at qs (suc (length ps))).rec_position) (ap (places_from 0 0) q ∙ a.2)
    ∙ ap (λ (p : Place). p.rec_position) n) in
    absurd cc

pub split_two :
    (s : Section) (i : ℕ) → IsFilled s → suc i < (index_space s).count →
    (index_space s).rec_position i ≡ None → (index_space s).rec_position (suc i) ≡ None →
    SplitTwo s i
split_two s i f h o o' =
    let r = split s 0 0 i (omega arith) o in
    let g : IsFilled (r.before ++ Single r.e ∷ r.after) = rw (r.is) at f in
    next_single s i r r.after refl (filled-right r.before (Single r.e ∷ r.after) g) h o'

pub two_definitions :
    (s : Section) (i : ℕ) (r : SplitTwo s i) →
    ((index_space s).definition i ≡ r.e) × ((index_space s).definition (suc i) ≡ r.f)
two_definitions s i r =
    let a = places-append 0 0 r.before (Single r.e ∷ Single r.f ∷ r.after) in
    let ps = places_from 0 0 r.before in
    let len = length-places 0 0 r.before ∙ r.place in
    let p : Place = record { definition = r.e; end = suc a.0; rec_position = None } in
    let qs = places_from (suc a.0) a.1 (Single r.f ∷ r.after) in (
      ap (λ (j : ℕ). (index_space s).definition j) (sym len)
          ∙ (ap (λ (qs : List Place). (at qs (length ps)).definition) (ap (places_from 0 0) r.is ∙ a.2)
          ∙ ap (λ (p : Place). p.definition) (at-here ps p qs)),
      ap (λ (j : ℕ). (index_space s).definition (suc j)) (sym len)
          ∙ (ap (λ (qs : List Place). (at qs (suc (length ps))).definition) (ap (places_from 0 0) r.is ∙ a.2)
          ∙ ap (λ (p : Place). p.definition) (at-next ps p qs)),
    )
