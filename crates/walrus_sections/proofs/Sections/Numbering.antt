-- Where `Rec`s go to `Rec`s in their order, whole and onto, the k-th goes to the k-th.
use Rattle.std.proofs.Common.{◌≡◌, ℕ, zero, suc, ◌+◌, ◌<◌, ◌≤◌, List, [], ◌∷◌, length, refl, ap, sym, ◌∙◌, inl, inr, ◌⊎◌, arith, Option, Some}
use Rattle.std.proofs.lemmas.Bool.{cases_lt, cases_eq}
use Rattle.walrus_ty.specs.{Definition.Definition, Groups.Single, Groups.Rec, Groups.Section}
use Rattle.walrus_sections.specs.Section.{IndexSpace, Place, rec_places, places_from, index_space}
use Rattle.walrus_sections.proofs.Sections.Rows.{at, length-rec_places}

abbrev Before : ℕ → List Place → ℕ → ℕ → Type 0
Before k ps i n = (t : ℕ) → (at ps i).rec_position ≡ Some (suc n, t) → k ≤ n → (j : ℕ) × (u : ℕ)
    × (j < length ps) × ((at ps j).rec_position ≡ Some (n, u))

pub number_of : (k t l u : ℕ) → ◌≡◌ {A = Option (ℕ × ℕ)} (Some (k, t)) (Some (l, u)) → k ≡ l
number_of k t l u e = let p : ◌≡◌ {A = ℕ × ℕ} (k, t) (l, u) = cc in ap (λ (x : ℕ × ℕ). x.0) p

-- past the members of a `Rec`, or among them, with their number
pub rec_at_number :
    (es : List Definition) (end k t : ℕ) (rest : List Place) (i : ℕ) →
    ((u : ℕ) × ((at (rec_places es end k t rest) i).rec_position ≡ Some (k, u))) ⊎
    ((j : ℕ) × (i ≡ length es + j) × (at (rec_places es end k t rest) i ≡ at rest j))
rec_at_number [] end k t rest i = inr (i, omega arith, refl)
rec_at_number (e ∷ es) end k t rest zero = inl (t, refl)
rec_at_number (e ∷ es) end k t rest (suc i) = elim (rec_at_number es end k (suc t) rest i) [
  | inl x ↦ inl x
  | inr x ↦ (let x1 = x.1 in inr (x.0, omega arith, x.2))
]

pub rec_past :
    (es : List Definition) (end k t : ℕ) (rest : List Place) (j : ℕ) →
    at (rec_places es end k t rest) (length es + j) ≡ at rest j
rec_past [] end k t rest j = ap (at rest) (omega arith)
rec_past (e ∷ es) end k t rest j = let q : suc (length es) + j ≡ suc (length es + j) = omega arith in
    ap (at (rec_places (e ∷ es) end k t rest)) q ∙ rec_past es end k (suc t) rest j

-- below a numbered `Rec` stands one with the number before
numbers_rise :
    (b k : ℕ) (gs : Section) (i n : ℕ) → i < length (places_from b k gs) →
    Before k (places_from b k gs) i n
numbers_rise b k [] i n h t e q = absurd (omega arith)
numbers_rise b k (Single e ∷ gs) zero n h t f q = absurd cc
numbers_rise b k (Single e ∷ gs) (suc i) n h t f q =
    let r = numbers_rise (suc b) k gs i n (omega arith) t f q in
    let r2 = r.2 in (suc r.0, r.1, omega arith, r.3)
numbers_rise b k (Rec [] ∷ gs) i n h t f q = numbers_rise (zero + b) k gs i n h t f q
numbers_rise b k (Rec (e ∷ es) ∷ gs) i n h t f q =
    let rest = places_from (suc (length es) + b) (suc k) gs in
    let len = length-rec_places (e ∷ es) (suc (length es) + b) k 0 rest in
    elim (cases_eq n k) [
      | inl p ↦ (0, 0, omega arith, ap (λ x. Some (x, 0)) (sym p))
      | inr p ↦ (elim (rec_at_number (e ∷ es) (suc (length es) + b) k 0 rest i) [
        | inl x ↦ absurd (let x1 = x.1 in let y : ◌≡◌ {A = Option (ℕ × ℕ)} (Some (k, x.0)) (Some (suc n, t)) =
            sym x1 ∙ f in
            let z : k ≡ suc n = number_of k x.0 (suc n) t y in omega arith)
        | inr x ↦ (
            let x1 = x.1 in
            let r = numbers_rise (suc (length es) + b) (suc k) gs x.0 n (omega arith) t
            (ap (λ (p : Place). p.rec_position) (sym x.2) ∙ f) (omega arith) in
            let r2 = r.2 in
            let w = rec_past (e ∷ es) (suc (length es) + b) k 0 rest r.0 in
            (suc (length es) + r.0, r.1, omega arith, ap (λ (p : Place). p.rec_position) w ∙ r.3))
      ])
    ]

pub rise :
    (s : Section) (i n t : ℕ) → i < (index_space s).count →
    (index_space s).rec_position i ≡ Some (suc n, t) →
    (j : ℕ) × (u : ℕ) × (j < (index_space s).count) × ((index_space s).rec_position j ≡ Some (n, u))
rise s i n t h e = numbers_rise 0 0 s i n h t e (omega arith)

-- what the order of emission gives of the `Rec`s
pub record KeepsRecs (s n : IndexSpace) (m : ℕ → ℕ) : Type 0 where
  pub below : (i : ℕ) (x : ℕ × ℕ) → i < s.count → s.rec_position i ≡ Some x → m i < n.count
  -- a place of a `Rec` goes to the same place of a `Rec`
  pub place : (i k t : ℕ) → i < s.count → s.rec_position i ≡ Some (k, t) → (l : ℕ)
      × (n.rec_position (m i) ≡ Some (l, t))
  -- one `Rec` goes to one
  pub whole : (i j k t u l : ℕ) → i < s.count → j < s.count → s.rec_position i ≡ Some (k, t) →
      s.rec_position j ≡ Some (k, u) → n.rec_position (m i) ≡ Some (l, t) → n.rec_position (m j) ≡ Some (l, u)
  -- a later one goes to a later one
  pub order : (i j k k' t u l l' : ℕ) → i < s.count → j < s.count → k < k' → s.rec_position i ≡ Some (k, t) →
      s.rec_position j ≡ Some (k', u) → n.rec_position (m i) ≡ Some (l, t) →
      n.rec_position (m j) ≡ Some (l', u) → l < l'
  pub onto : (p : ℕ) (x : ℕ × ℕ) → p < n.count → n.rec_position p ≡ Some x → (i : ℕ) × (i < s.count)
      × (m i ≡ p) × ((y : ℕ × ℕ) × (s.rec_position i ≡ Some y))

module _ (s n : Section) (m : ℕ → ℕ) (c : KeepsRecs (index_space s) (index_space n) m) where
  up : (k i t l : ℕ) → i < (index_space s).count → (index_space s).rec_position i ≡ Some (k, t) →
      (index_space n).rec_position (m i) ≡ Some (l, t) → k ≤ l
  up zero i t l h e f = omega arith
  up (suc k) i t l h e f =
      let r = rise s i k t h e in
      let p = c.place r.0 k r.1 r.2 r.3 in
      let q = up k r.0 r.1 p.0 r.2 r.3 p.1 in
      let o = c.order r.0 i k (suc k) r.1 t p.0 l r.2 h (omega arith) r.3 e p.1 f in omega arith

  down : (l i k t : ℕ) → i < (index_space s).count → (index_space s).rec_position i ≡ Some (k, t) →
      (index_space n).rec_position (m i) ≡ Some (l, t) → l ≤ k
  down zero i k t h e f = omega arith
  down (suc l) i k t h e f =
      let r = rise n (m i) l t (c.below i (k, t) h e) f in
      let o = c.onto r.0 (l, r.1) r.2 r.3 in
      let y = o.3.0 in
      let p = c.place o.0 y.0 y.1 o.1 o.3.1 in
      let g : (index_space n).rec_position (m o.0) ≡ Some (l, r.1) = ap (index_space n).rec_position o.2
      ∙ r.3 in
      let same : ◌≡◌ {A = Option (ℕ × ℕ)} (Some (p.0, y.1)) (Some (l, r.1)) = sym p.1 ∙ g in
      let pl : p.0 ≡ l = number_of p.0 y.1 l r.1 same in
      let q = down l o.0 y.0 y.1 o.1 o.3.1 (p.1 ∙ ap (λ x. Some (x, y.1)) pl) in
      elim (cases_lt y.0 k) [
        | inl a ↦ omega arith
        | inr a ↦ (elim (cases_eq y.0 k) [
          | inl b ↦ absurd (
              let w = c.whole i o.0 k t y.1 (suc l) h o.1 e (o.3.1 ∙ ap (λ x. Some (x, y.1)) b) f in
              let same' : ◌≡◌ {A = Option (ℕ × ℕ)} (Some (p.0, y.1)) (Some (suc l, y.1)) = sym p.1 ∙ w in
              let z = number_of p.0 y.1 (suc l) y.1 same' in omega arith)
          | inr b ↦ absurd (let z = c.order i o.0 k y.0 t y.1 (suc l) p.0 h o.1 (omega arith) e o.3.1 f p.1 in
              omega arith)
        ])
      ]

  pub same_numbers : (i : ℕ) (x : ℕ × ℕ) → i < (index_space s).count →
      (index_space s).rec_position i ≡ Some x → (index_space n).rec_position (m i) ≡ Some x
  same_numbers i x h e =
      let p = c.place i x.0 x.1 h e in
      let a = up x.0 i x.1 p.0 h e p.1 in
      let b = down p.0 i x.0 x.1 h e p.1 in
      let z : p.0 ≡ x.0 = omega arith in
      p.1 ∙ ap (λ y. Some (y, x.1)) z
