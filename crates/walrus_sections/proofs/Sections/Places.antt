-- The places of a section once it is renamed, of two sections one after the other, and of one that
-- begins an index later.
use Rattle.std.proofs.Common.{◌≡◌, ℕ, zero, suc, ◌+◌, refl, ap, ◌∙◌, arith, Some, None, List, [], ◌∷◌, ◌++◌, map, length}
use Rattle.std.proofs.lemmas.List.{length-map}
use Rattle.walrus_ty.specs.{Definition.Definition, Definition.rename, Groups.Single, Groups.Rec, Groups.Section}
use Rattle.walrus_sections.specs.{Section.Place, Section.rec_places, Section.recs_after, Section.places_from, Moves.rename_group}
use Rattle.walrus_sections.proofs.Sections.Rows.{at}

abbrev pub rename_place : (ℕ → ℕ) → Place → Place
rename_place u p = record { definition = rename u p.definition; end = p.end; rec_position = p.rec_position }

rec_places-map :
    (u : ℕ → ℕ) (es : List Definition) (end k t : ℕ) (rest : List Place) →
    rec_places (map (rename u) es) end k t (map (rename_place u) rest) ≡
    map (rename_place u) (rec_places es end k t rest)
rec_places-map u [] end k t rest = refl
rec_places-map u (e ∷ es) end k t rest = ap (λ ps.
    record { definition = rename u e; end = end; rec_position = Some (k, t) } ∷ ps)
    (rec_places-map u es end k (suc t) rest)

recs_after-map :
    (u : ℕ → ℕ) (es : List Definition) (k : ℕ) → recs_after (map (rename u) es) k ≡ recs_after es k
recs_after-map u [] k = refl
recs_after-map u (e ∷ es) k = refl

pub places-map :
    (u : ℕ → ℕ) (b k : ℕ) (gs : Section) →
    places_from b k (map (rename_group u) gs) ≡ map (rename_place u) (places_from b k gs)
places-map u b k [] = refl
places-map u b k (Single e ∷ gs) = ap (λ ps.
    record { definition = rename u e; end = suc b; rec_position = None } ∷ ps) (places-map u (suc b) k gs)
places-map u b k (Rec es ∷ gs) =
    let q = places-map u (length es + b) (recs_after es k) gs in
    rw (length-map es (rename u), recs_after-map u es k)
    (ap (rec_places (map (rename u) es) (length es + b) k 0) q
    ∙ rec_places-map u es (length es + b) k 0 (places_from (length es + b) (recs_after es k) gs))

pub rec_places-append :
    (es : List Definition) (end k t : ℕ) (ps qs : List Place) →
    rec_places es end k t (ps ++ qs) ≡ rec_places es end k t ps ++ qs
rec_places-append [] end k t ps qs = refl
rec_places-append (e ∷ es) end k t ps qs = ap (λ xs.
    record { definition = e; end = end; rec_position = Some (k, t) } ∷ xs)
    (rec_places-append es end k (suc t) ps qs)

-- the places of two sections one after the other
pub places-append :
    (b k : ℕ) (gs hs : Section) →
    (c : ℕ) × (l : ℕ) × (places_from b k (gs ++ hs) ≡ places_from b k gs ++ places_from c l hs) ×
    ((hs' : Section) → places_from b k (gs ++ hs') ≡ places_from b k gs ++ places_from c l hs')
places-append b k [] hs = (b, k, refl, λ hs'. refl)
places-append b k (Single e ∷ gs) hs =
    let r = places-append (suc b) k gs hs in (
      r.0,
      r.1,
      ap (λ ps. record { definition = e; end = suc b; rec_position = None } ∷ ps) r.2,
      λ hs'.
          ap (λ ps. record { definition = e; end = suc b; rec_position = None } ∷ ps) (r.3 hs'),
    )
places-append b k (Rec es ∷ gs) hs =
    let r = places-append (length es + b) (recs_after es k) gs hs in
    let f : (hs' : Section) → places_from b k ((Rec es ∷ gs) ++ hs') ≡ places_from b k (Rec es ∷ gs) ++
    places_from r.0 r.1 hs' = λ hs'.
    ap (rec_places es (length es + b) k 0) (r.3 hs')
    ∙ rec_places-append es (length es + b) k 0 (places_from (length es + b) (recs_after es k) gs)
    (places_from r.0 r.1 hs') in
    (r.0, r.1, f hs, f)

pub at-map :
    (u : ℕ → ℕ) (ps : List Place) (k : ℕ) →
    at (map (rename_place u) ps) k ≡ rename_place u (at ps k)
at-map u [] k = refl
at-map u (p ∷ ps) zero = refl
at-map u (p ∷ ps) (suc k) = at-map u ps k

abbrev pub shift : Place → Place
shift p = record { definition = p.definition; end = suc p.end; rec_position = p.rec_position }

rec_places-shift :
    (es : List Definition) (end k t : ℕ) (ps : List Place) →
    rec_places es (suc end) k t (map shift ps) ≡ map shift (rec_places es end k t ps)
rec_places-shift [] end k t ps = refl
rec_places-shift (e ∷ es) end k t ps = ap (λ qs.
    record { definition = e; end = suc end; rec_position = Some (k, t) } ∷ qs)
    (rec_places-shift es end k (suc t) ps)

pub places-shift :
    (b k : ℕ) (gs : Section) → places_from (suc b) k gs ≡ map shift (places_from b k gs)
places-shift b k [] = refl
places-shift b k (Single e ∷ gs) = ap (λ qs.
    record { definition = e; end = suc (suc b); rec_position = None } ∷ qs) (places-shift (suc b) k gs)
places-shift b k (Rec es ∷ gs) =
    let e : length es + suc b ≡ suc (length es + b) = omega arith in
    ap (λ c. rec_places es c k 0 (places_from c (recs_after es k) gs)) e
    ∙ (ap (rec_places es (suc (length es + b)) k 0) (places-shift (length es + b) (recs_after es k) gs)
    ∙ rec_places-shift es (length es + b) k 0 (places_from (length es + b) (recs_after es k) gs))

-- what stands behind a list of places, and behind that
pub at-here : (ps : List Place) (p : Place) (qs : List Place) → at (ps ++ p ∷ qs) (length ps) ≡ p
at-here [] p qs = refl
at-here (x ∷ ps) p qs = at-here ps p qs

pub at-next :
    (ps : List Place) (p : Place) (qs : List Place) → at (ps ++ p ∷ qs) (suc (length ps)) ≡ at qs 0
at-next [] p qs = refl
at-next (x ∷ ps) p qs = at-next ps p qs
