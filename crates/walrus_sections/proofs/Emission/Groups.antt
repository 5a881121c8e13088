-- How the groups of a read table lie, and what the rule of emission says of them by index.
use Rattle.std.proofs.Common.{◌≡◌, ℕ, zero, suc, ◌+◌, ◌-◌, ◌<◌, List, [], ◌∷◌, length, refl, ap, sym, ◌∙◌, inl, inr, ◌⊎◌, arith, Some, None, Bool, true, false, cond, ◌==◌, subst}
use Rattle.std.specs.List.{range_with_len}
use Rattle.std.proofs.lemmas.{Bool.cases_lt, Bool.cases_eq, Bool.Decides.nat_tests, List.FromFn.length-range_with_len, List.FromFn.get_or-range_with_len}
use Rattle.walrus_ty.specs.{Definition.Definition, Groups.Single, Groups.Rec, Groups.Section}
use Rattle.walrus_sections.specs.{Section.Place, Section.rec_places, Section.recs_after, Section.places_from, SlotMap.TypeGroup, SlotMap.read_groups, Emission.group_at, Emission.IsMember}
use Rattle.walrus_sections.proofs.Sections.{Rows.at, Rows.length-rec_places, Rows.rows, Numbering.rec_past, Numbering.number_of}

abbrev pub Kind : TypeGroup → Place → ℕ → Type 0
Kind g p u = ((g.is_explicit ≡ true) × ((k : ℕ) × (p.rec_position ≡ Some (k, u))))
    ⊎ ((g.is_explicit ≡ false) × (p.rec_position ≡ None) × (u ≡ 0))

pub record AreGroups (b : ℕ) (r : ℕ → ℕ) (gs : List TypeGroup) (ps : List Place) : Type 0 where
  pub has : (i : ℕ) → i < length ps → r (b + i) ≡ b + i → (g : ℕ) × (u : ℕ) × IsMember gs g u (b + i)
  pub is : (g u x : ℕ) → IsMember gs g u x → (i : ℕ) × (i < length ps) × (x ≡ b + i) × (r x ≡ x)
      × Kind (group_at gs g) (at ps i) u
  pub rise : (g u x h v y : ℕ) → g < h → IsMember gs g u x → IsMember gs h v y → x < y
  pub inner : (g u x v y : ℕ) → IsMember gs g u x → IsMember gs g v y → x + v ≡ y + u
  pub number : (g u v i j k l : ℕ) → IsMember gs g u (b + i) → IsMember gs g v (b + j) →
      (at ps i).rec_position ≡ Some (k, u) → (at ps j).rec_position ≡ Some (l, v) → k ≡ l
  pub numbers : (g u h v i j k l : ℕ) → g < h → IsMember gs g u (b + i) → IsMember gs h v (b + j) →
      (at ps i).rec_position ≡ Some (k, u) → (at ps j).rec_position ≡ Some (l, v) → k < l

-- a group of n types in front
module _ (b n : ℕ) (f : Bool) (r : ℕ → ℕ) (gs : List TypeGroup) (ps qs : List Place)
    (a : AreGroups (n + b) r gs qs) (len : length ps ≡ n + length qs) (later : (i : ℕ) →
    at ps (n + i) ≡ at qs i) where
  abbrev G : TypeGroup
  G = record { ids = range_with_len b n; is_explicit = f }

  first_is : (u x : ℕ) → IsMember (G ∷ gs) 0 u x → (u < n) × (x ≡ b + u)
  first_is u x m =
      let p : u < length (range_with_len b n) = m.place in
      let l = length-range_with_len b n in
      let q = get_or-range_with_len b n u 0 (omega arith) in
      let e = m.is in (omega arith, omega arith)

  first_member : (u : ℕ) → u < n → IsMember (G ∷ gs) 0 u (b + u)
  first_member u h = let l = length-range_with_len b n in
      record { group = omega arith; place = omega arith; is = get_or-range_with_len b n u 0 h }

  rest_member : (g u x : ℕ) → IsMember gs g u x → IsMember (G ∷ gs) (suc g) u x
  rest_member g u x m = record { group = (let z = m.group in omega arith); place = m.place; is = m.is }

  rest_is : (g u x : ℕ) → IsMember (G ∷ gs) (suc g) u x → IsMember gs g u x
  rest_is g u x m = record { group = (let z = m.group in omega arith); place = m.place; is = m.is }

  module _ (k : ℕ) (front : (u : ℕ) → u < n → ((f ≡ true) × ((at ps u).rec_position ≡ Some (k, u)))
      ⊎ ((f ≡ false) × ((at ps u).rec_position ≡ None) × (u ≡ 0))) (live : (u : ℕ) → u < n →
      r (b + u) ≡ b + u) (least : 0 < n → f ≡ true → (i : ℕ) (x : ℕ × ℕ) → i < length qs →
      (at qs i).rec_position ≡ Some x → k < x.0) where
    has_more : (i : ℕ) → i < length ps → r (b + i) ≡ b + i → (g : ℕ) × (u : ℕ) × IsMember (G ∷ gs) g u (b + i)
    has_more i h v = elim (cases_lt i n) [
      | inl x ↦ (0, i, first_member i x)
      | inr x ↦ (
          let e : (n + b) + (i - n) ≡ b + i = omega arith in
          let m = a.has (i - n) (omega arith) (ap r e ∙ (v ∙ sym e)) in (
            suc m.0,
            m.1,
            subst (IsMember (G ∷ gs) (suc m.0) m.1) e
                (rest_member m.0 m.1 ((n + b) + (i - n)) m.2),
          ))
    ]

    is_more : (g u x : ℕ) → IsMember (G ∷ gs) g u x → (i : ℕ) × (i < length ps) × (x ≡ b + i) × (r x ≡ x)
        × Kind (group_at (G ∷ gs) g) (at ps i) u
    is_more zero u x m =
        let q = first_is u x m in let q0 = q.0 in let q1 = q.1 in (
          u,
          omega arith,
          q.1,
          ap r q.1 ∙ (live u q.0 ∙ sym q.1),
          elim (front u q.0) [ inl y ↦ inl (y.0, (k, y.1)) | inr y ↦ inr y ],
        )
    is_more (suc g) u x m =
        let q = a.is g u x (rest_is g u x m) in let q1 = q.1 in let q2 = q.2 in (
          n + q.0,
          omega arith,
          omega arith,
          q.3,
          subst (λ (p : Place). Kind (group_at gs g) p u)
              (sym (later q.0)) q.4,
        )

    rise_more : (g u x h v y : ℕ) → g < h → IsMember (G ∷ gs) g u x → IsMember (G ∷ gs) h v y → x < y
    rise_more g u x zero v y l m m' = absurd (omega arith)
    rise_more zero u x (suc h) v y l m m' =
        let q = first_is u x m in let q0 = q.0 in let q1 = q.1 in
        let p = a.is h v y (rest_is h v y m') in let p2 = p.2 in omega arith
    rise_more (suc g) u x (suc h) v y l m m' = a.rise g u x h v y (omega arith) (rest_is g u x m)
        (rest_is h v y m')

    inner_more : (g u x v y : ℕ) → IsMember (G ∷ gs) g u x → IsMember (G ∷ gs) g v y → x + v ≡ y + u
    inner_more zero u x v y m m' = let q = first_is u x m in let q' = first_is v y m' in let q1 = q.1 in
        let q2 = q'.1 in omega arith
    inner_more (suc g) u x v y m m' = a.inner g u x v y (rest_is g u x m) (rest_is g v y m')

    front_number : (u i l : ℕ) → IsMember (G ∷ gs) 0 u (b + i) → (at ps i).rec_position ≡ Some (l, u) →
        (f ≡ true) × (l ≡ k)
    front_number u i l m e =
        let q = first_is u (b + i) m in let q0 = q.0 in let q1 = q.1 in
        let iu : i ≡ u = omega arith in
        elim (front u q.0) [
          | inl y ↦ (y.0, number_of l u k u (sym e ∙ (ap (λ j. (at ps j).rec_position) iu ∙ y.1)))
          | inr y ↦ absurd (let z = ap (λ j. (at ps j).rec_position) iu in let w = y.1 in cc)
        ]

    rest_rec_position : (g u i l : ℕ) → IsMember (G ∷ gs) (suc g) u (b + i) →
        (at ps i).rec_position ≡ Some (l, u) → (j : ℕ) × (j < length qs) × IsMember gs g u ((n + b) + j)
        × ((at qs j).rec_position ≡ Some (l, u))
    rest_rec_position g u i l m e =
        let m' = rest_is g u (b + i) m in
        let p = a.is g u (b + i) m' in let p1 = p.1 in let p2 = p.2 in
        let ij : i ≡ n + p.0 = omega arith in (
          p.0,
          p.1,
          subst (IsMember gs g u) p.2 m',
          ap (λ (x : Place). x.rec_position) (sym (later p.0))
              ∙ (ap (λ j. (at ps j).rec_position) (sym ij) ∙ e),
        )

    number_more : (g u v i j l l' : ℕ) → IsMember (G ∷ gs) g u (b + i) → IsMember (G ∷ gs) g v (b + j) →
        (at ps i).rec_position ≡ Some (l, u) → (at ps j).rec_position ≡ Some (l', v) → l ≡ l'
    number_more zero u v i j l l' m m' e e' = (front_number u i l m e).1 ∙ sym (front_number v j l' m' e').1
    number_more (suc g) u v i j l l' m m' e e' =
        let x = rest_rec_position g u i l m e in let y = rest_rec_position g v j l' m' e' in
        a.number g u v x.0 y.0 l l' x.2 y.2 x.3 y.3

    numbers_more : (g u h v i j l l' : ℕ) → g < h → IsMember (G ∷ gs) g u (b + i) →
        IsMember (G ∷ gs) h v (b + j) → (at ps i).rec_position ≡ Some (l, u) →
        (at ps j).rec_position ≡ Some (l', v) → l < l'
    numbers_more g u zero v i j l l' lt m m' e e' = absurd (omega arith)
    numbers_more zero u (suc h) v i j l l' lt m m' e e' =
        let x = front_number u i l m e in let y = rest_rec_position h v j l' m' e' in
        let q = first_is u (b + i) m in let q0 = q.0 in let z = least (omega arith) x.0 y.0 (l', v) y.1 y.3 in
        let x1 = x.1 in omega arith
    numbers_more (suc g) u (suc h) v i j l l' lt m m' e e' =
        let x = rest_rec_position g u i l m e in let y = rest_rec_position h v j l' m' e' in
        a.numbers g u h v x.0 y.0 l l' (omega arith) x.2 y.2 x.3 y.3

    groups_more : AreGroups b r (G ∷ gs) ps
    groups_more = record {
      has = has_more;
      is = is_more;
      rise = rise_more;
      inner = inner_more;
      number = number_more;
      numbers = numbers_more;
    }

no_groups : (b : ℕ) (r : ℕ → ℕ) → AreGroups b r [] []
no_groups b r = record {
  has = λ i h v. absurd (omega arith);
  is = λ g u x m. absurd (let z = m.group in omega arith);
  rise = λ g u x h v y l m m'. (let z = m.group in omega arith);
  inner = λ g u x v y m m'. absurd (let z = m.group in omega arith);
  number = λ g u v i j k l m m' e e'. absurd (let z = m.group in omega arith);
  numbers = λ g u h v i j k l lt m m' e e'. (let z = m.group in omega arith);
}

-- a `Single` that isn't live
dead_more :
    (b : ℕ) (r : ℕ → ℕ) (gs : List TypeGroup) (p : Place) (ps : List Place) → ¬ (r b ≡ b) →
    AreGroups (suc b) r gs ps → AreGroups b r gs (p ∷ ps)
dead_more b r gs p ps dead a =
    let move : (g u i : ℕ) → IsMember gs g u (b + i) → (j : ℕ) × (j < length ps) × (i ≡ suc j)
    × IsMember gs g u (suc b + j) = λ g u i m.
    (let q = a.is g u (b + i) m in let q2 = q.2 in (q.0, q.1, omega arith, subst (IsMember gs g u) q.2 m)) in
    record {
      has = λ i h v. (elim (cases_eq i 0) [
        | inl e ↦ absurd (let f : b + i ≡ b = omega arith in dead (ap r (sym f) ∙ (v ∙ f)))
        | inr n ↦ (let f : suc b + (i - 1) ≡ b + i = omega arith in
            let m = a.has (i - 1) (omega arith) (ap r f ∙ (v ∙ sym f)) in
            (m.0, m.1, subst (IsMember gs m.0 m.1) f m.2))
      ]);
      is = λ g u x m. (let q = a.is g u x m in let q1 = q.1 in let q2 = q.2 in
          (suc q.0, omega arith, omega arith, q.3, q.4));
      rise = a.rise;
      inner = a.inner;
      number = λ g u v i j k l m m' e e'. (let x = move g u i m in let y = move g v j m' in
          a.number g u v x.0 y.0 k l x.3 y.3 (ap (λ (q : ℕ). (at (p ∷ ps) q).rec_position) (sym x.2) ∙ e)
          (ap (λ (q : ℕ). (at (p ∷ ps) q).rec_position) (sym y.2) ∙ e'));
      numbers = λ g u h v i j k l lt m m' e e'. (let x = move g u i m in let y = move h v j m' in
          a.numbers g u h v x.0 y.0 k l lt x.3 y.3 (ap (λ (q : ℕ). (at (p ∷ ps) q).rec_position) (sym x.2)
          ∙ e) (ap (λ (q : ℕ). (at (p ∷ ps) q).rec_position) (sym y.2) ∙ e'));
    }

test_true : (x y : ℕ) → x ≡ y → (x == y) ≡ true
test_true x y e = grind (arith, nat_tests)

test_false : (x y : ℕ) → ¬ (x ≡ y) → (x == y) ≡ false
test_false x y e = grind (arith, nat_tests)

rec_front :
    (es : List Definition) (end k t : ℕ) (rest : List Place) (u : ℕ) → u < length es →
    (at (rec_places es end k t rest) u).rec_position ≡ Some (k, t + u)
rec_front [] end k t rest u h = absurd (omega arith)
rec_front (e ∷ es) end k t rest zero h = ap (λ x. Some (k, x)) (omega arith)
rec_front (e ∷ es) end k t rest (suc u) h = rec_front es end k (suc t) rest u (omega arith)
    ∙ ap (λ x. Some (k, x)) (omega arith)

rest_least : (es : List Definition) (k : ℕ) → 0 < length es → recs_after es k ≡ suc k
rest_least [] k h = absurd (omega arith)
rest_least (e ∷ es) k h = refl

pub groups :
    (b k : ℕ) (r : ℕ → ℕ) (gs : Section) →
    ((i : ℕ) (x : ℕ × ℕ) → i < length (places_from b k gs) →
    (at (places_from b k gs) i).rec_position ≡ Some x → r (b + i) ≡ b + i) →
    AreGroups b r (read_groups b r gs) (places_from b k gs)
groups b k r [] hr = no_groups b r
groups b k r (Single e ∷ gs) hr =
    let qs = places_from (suc b) k gs in
    let p : Place = record { definition = e; end = suc b; rec_position = None } in
    let sg = read_groups (suc b) r gs in
    let a = groups (suc b) k r gs (λ i x h o. (let f : b + suc i ≡ suc b + i = omega arith in sym (ap r f)
    ∙ (hr (suc i) x (omega arith) o ∙ f))) in
    elim (cases_eq (r b) b) [
      | inl v ↦ (
          let a' : AreGroups (1 + b) r sg qs = subst (λ (c : ℕ). AreGroups c r sg qs) (omega arith) a in
          let z : AreGroups b r (record { ids = b ∷ []; is_explicit = false } ∷ sg) (p ∷ qs) =
          groups_more b 1 false r sg (p ∷ qs) qs a' (omega arith) (λ i.
          (let f : 1 + i ≡ suc i = omega arith in ap (at (p ∷ qs)) f)) k
          (λ u h. inr (
            refl,
            (let f : u ≡ 0 = omega arith in ap (λ (c : ℕ). (at (p ∷ qs) c).rec_position) f),
            omega arith,
          ))
          (λ u h. (let f : b + u ≡ b = omega arith in ap r f ∙ (v ∙ sym f)))
          (λ n0 ft. absurd (let w : false ≡ true = ft in cc)) in
          subst (λ (x : Bool). AreGroups b r (cond x (record { ids = b ∷ []; is_explicit = false } ∷ sg) sg)
          (p ∷ qs)) (sym (test_true (r b) b v)) z)
      | inr nv ↦ subst (λ (x : Bool). AreGroups b r
          (cond x (record { ids = b ∷ []; is_explicit = false } ∷ sg) sg) (p ∷ qs))
          (sym (test_false (r b) b nv)) (dead_more b r sg p qs nv a)
    ]
groups b k r (Rec es ∷ gs) hr =
    let n = length es in
    let qs = places_from (n + b) (recs_after es k) gs in
    let ps = rec_places es (n + b) k 0 qs in
    let len = length-rec_places es (n + b) k 0 qs in
    let later = rec_past es (n + b) k 0 qs in
    let front : (u : ℕ) → u < n → (at ps u).rec_position ≡ Some (k, u) = λ u h.
    rec_front es (n + b) k 0 qs u h ∙ ap (λ x. Some (k, x)) (omega arith) in
    let a = groups (n + b) (recs_after es k) r gs (λ i x h o.
    (let f : b + (n + i) ≡ (n + b) + i = omega arith in
    sym (ap r f) ∙ (hr (n + i) x (omega arith) (ap (λ (q : Place). q.rec_position) (later i) ∙ o) ∙ f))) in
    groups_more b n true r (read_groups (n + b) r gs) ps qs a len later k
    (λ u h. inl (refl, front u h))
    (λ u h. hr u (k, u) (omega arith) (front u h))
    (λ n0 ft i x h o. (let z = (rows (n + b) (recs_after es k) gs).least i x h o in let w =
    rest_least es k n0 in omega arith))
