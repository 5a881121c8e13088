-- A section without empty `Rec`s is told by its definitions and where they stand.
use Rattle.std.proofs.Common.{◌≡◌, ℕ, suc, ◌+◌, List, [], ◌∷◌, length, refl, ap, sym, arith, Option, Some, None}
use Rattle.walrus_ty.specs.{Definition.Definition, Groups.Single, Groups.Rec, Groups.Section}
use Rattle.walrus_sections.specs.Section.{Place, rec_places, places_from, IsFilled}
use Rattle.walrus_sections.proofs.Sections.Rows.{AreRows, rows}

abbrev pub cells : List Place → List (Definition × Option (ℕ × ℕ))
cells [] = []
cells (p ∷ ps) = (p.definition, p.rec_position) ∷ cells ps

not_first :
    (k : ℕ) (ps : List Place) (e : Definition) (t : ℕ) (cs : List (Definition × Option (ℕ × ℕ)))
    (b : ℕ) → AreRows b (suc k) ps → ¬ (cells ps ≡ (e, Some (k, t)) ∷ cs)
not_first k [] e t cs b r h = cc
not_first k (p ∷ ps) e t cs b r h =
    let g : ◌≡◌ {A = Definition × Option (ℕ × ℕ)} (p.definition, p.rec_position) (e, Some (k, t)) = cc in
    let z = r.least 0 (k, t) (omega arith) (ap (λ (x : Definition × Option (ℕ × ℕ)). x.1) g) in omega arith

same_rec :
    (es fs : List Definition) (b c k t end end' : ℕ) (rest rest' : List Place) →
    AreRows b (suc k) rest → AreRows c (suc k) rest' →
    cells (rec_places es end k t rest) ≡ cells (rec_places fs end' k t rest') →
    (es ≡ fs) × (cells rest ≡ cells rest')
same_rec [] [] b c k t end end' rest rest' r r' h = (refl, h)
same_rec [] (f ∷ fs) b c k t end end' rest rest' r r' h = absurd (not_first k rest f t _ b r h)
same_rec (e ∷ es) [] b c k t end end' rest rest' r r' h = absurd (not_first k rest' e t _ c r' (sym h))
same_rec (e ∷ es) (f ∷ fs) b c k t end end' rest rest' r r' h =
    let g : ◌≡◌ {A = Definition × Option (ℕ × ℕ)} (e, Some (k, t)) (f, Some (k, t)) = cc in
    let g0 : e ≡ f = ap (λ (x : Definition × Option (ℕ × ℕ)). x.0) g in
    let q : cells (rec_places es end k (suc t) rest) ≡ cells (rec_places fs end' k (suc t) rest') = cc in
    let i = same_rec es fs b c k (suc t) end end' rest rest' r r' q in
    let i0 : es ≡ fs = i.0 in
    (cc, i.1)

pub rebuild :
    (gs hs : Section) (b c k : ℕ) → IsFilled gs → IsFilled hs →
    cells (places_from b k gs) ≡ cells (places_from c k hs) → gs ≡ hs
rebuild [] [] b c k f g h = refl
rebuild [] (Single e ∷ hs) b c k f g h = cc
rebuild [] (Rec [] ∷ hs) b c k f g h = absurd g
rebuild [] (Rec (e ∷ es) ∷ hs) b c k f g h = cc
rebuild (Single e ∷ gs) [] b c k f g h = cc
rebuild (Single e ∷ gs) (Single e' ∷ hs) b c k f g h =
    let p : ◌≡◌ {A = Definition × Option (ℕ × ℕ)} (e, None) (e', None) = cc in
    let p0 : e ≡ e' = ap (λ (x : Definition × Option (ℕ × ℕ)). x.0) p in
    let i = rebuild gs hs (suc b) (suc c) k f g cc in cc
rebuild (Single e ∷ gs) (Rec [] ∷ hs) b c k f g h = absurd g
rebuild (Single e ∷ gs) (Rec (e' ∷ es) ∷ hs) b c k f g h =
    let p : ◌≡◌ {A = Definition × Option (ℕ × ℕ)} (e, None) (e', Some (k, 0)) = cc in
    let p1 : ◌≡◌ {A = Option (ℕ × ℕ)} None (Some (k, 0)) = ap (λ (x : Definition × Option (ℕ × ℕ)). x.1) p in
    cc
rebuild (Rec [] ∷ gs) hs b c k f g h = absurd f
rebuild (Rec (e ∷ es) ∷ gs) [] b c k f g h = cc
rebuild (Rec (e ∷ es) ∷ gs) (Single e' ∷ hs) b c k f g h =
    let p : ◌≡◌ {A = Definition × Option (ℕ × ℕ)} (e, Some (k, 0)) (e', None) = cc in
    let p1 : ◌≡◌ {A = Option (ℕ × ℕ)} (Some (k, 0)) None = ap (λ (x : Definition × Option (ℕ × ℕ)). x.1) p in
    cc
rebuild (Rec (e ∷ es) ∷ gs) (Rec [] ∷ hs) b c k f g h = absurd g
rebuild (Rec (e ∷ es) ∷ gs) (Rec (e' ∷ es') ∷ hs) b c k f g h =
    let r = same_rec (e ∷ es) (e' ∷ es') (suc (length es) + b) (suc (length es') + c) k 0
    (suc (length es) + b) (suc (length es') + c)
    (places_from (suc (length es) + b) (suc k) gs) (places_from (suc (length es') + c) (suc k) hs)
    (rows (suc (length es) + b) (suc k) gs) (rows (suc (length es') + c) (suc k) hs) h in
    let q = rebuild gs hs (suc (length es) + b) (suc (length es') + c) (suc k) f g r.1 in
    let r0 : e ∷ es ≡ e' ∷ es' = r.0 in cc
