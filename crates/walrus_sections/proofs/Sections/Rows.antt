-- The places of a section lie as groups do.
use Rattle.std.proofs.Common.{◌≡◌, ℕ, zero, suc, ◌+◌, ◌<◌, ◌≤◌, List, [], ◌∷◌, length, refl, ap, sym, inl, inr, ◌⊎◌, arith, Some, None, slice_index_or}
use Rattle.walrus_ty.specs.{Definition.Definition, Groups.Single, Groups.Rec, Groups.Section}
use Rattle.walrus_sections.specs.Section.{Place, rec_places, places_from, no_place, index_space}
use Rattle.walrus_sections.proofs.Sections.Lying.{IsLaidOut}

abbrev pub at : List Place → ℕ → Place
at ps i = slice_index_or ps i no_place

pub record IsBefore (p q : Place) (j : ℕ) : Type 0 where
  pub ends : p.end ≤ j
  pub rises : (x y : ℕ × ℕ) → p.rec_position ≡ Some x → q.rec_position ≡ Some y → x.0 < y.0

pub record IsBeside (p q : Place) : Type 0 where
  pub x : ℕ × ℕ
  pub y : ℕ × ℕ
  pub at_x : p.rec_position ≡ Some x
  pub at_y : q.rec_position ≡ Some y
  pub same : x.0 ≡ y.0
  pub later : x.1 < y.1
  pub ends : p.end ≡ q.end

-- places from index b on, with k `Rec`s before
pub record AreRows (b k : ℕ) (ps : List Place) : Type 0 where
  pub own : (i : ℕ) → i < length ps → b + i < (at ps i).end
  pub fits : (i : ℕ) → i < length ps → (at ps i).end ≤ b + length ps
  pub single_end : (i : ℕ) → i < length ps → (at ps i).rec_position ≡ None → (at ps i).end ≡ suc (b + i)
  pub least : (i : ℕ) (x : ℕ × ℕ) → i < length ps → (at ps i).rec_position ≡ Some x → k ≤ x.0
  pub pair : (i j : ℕ) → i < j → j < length ps → IsBefore (at ps i) (at ps j) (b + j)
      ⊎ IsBeside (at ps i) (at ps j)

no_rows : (b k : ℕ) → AreRows b k []
no_rows b k = record {
  own = λ i h. omega arith;
  fits = λ i h. omega arith;
  single_end = λ i h p. omega arith;
  least = λ i x h p. omega arith;
  pair = λ i j h g. absurd (omega arith);
}

fewer_recs : (b k l : ℕ) (ps : List Place) → l ≤ k → AreRows b k ps → AreRows b l ps
fewer_recs b k l ps h r = record {
  own = r.own;
  fits = r.fits;
  single_end = r.single_end;
  least = λ i x g p. (let z = r.least i x g p in omega arith);
  pair = r.pair;
}

-- one more place in front
module _ (b k : ℕ) (p : Place) (ps : List Place) (r : AreRows (suc b) k ps) where
  own_more : b < p.end → (i : ℕ) → i < length (p ∷ ps) → b + i < (at (p ∷ ps) i).end
  own_more h zero g = omega arith
  own_more h (suc i) g = let z = r.own i (omega arith) in omega arith

  fits_more : p.end ≤ suc b + length ps → (i : ℕ) → i < length (p ∷ ps) →
      (at (p ∷ ps) i).end ≤ b + length (p ∷ ps)
  fits_more h zero g = omega arith
  fits_more h (suc i) g = let z = r.fits i (omega arith) in omega arith

  single_more : (p.rec_position ≡ None → p.end ≡ suc b) → (i : ℕ) → i < length (p ∷ ps) →
      (at (p ∷ ps) i).rec_position ≡ None → (at (p ∷ ps) i).end ≡ suc (b + i)
  single_more h zero g e = let z = h e in omega arith
  single_more h (suc i) g e = let z = r.single_end i (omega arith) e in omega arith

  least_more : ((x : ℕ × ℕ) → p.rec_position ≡ Some x → k ≤ x.0) → (i : ℕ) (x : ℕ × ℕ) → i < length (p ∷ ps) →
      (at (p ∷ ps) i).rec_position ≡ Some x → k ≤ x.0
  least_more h zero x g e = h x e
  least_more h (suc i) x g e = r.least i x (omega arith) e

  one_later : (q q' : Place) (c d : ℕ) → c ≡ d → IsBefore q q' c ⊎ IsBeside q q' → IsBefore q q' d
      ⊎ IsBeside q q'
  one_later q q' c d e (inl x) = inl (record { ends = (let z = x.ends in omega arith); rises = x.rises })
  one_later q q' c d e (inr x) = inr x

  pair_more : ((j : ℕ) → j < length ps → IsBefore p (at ps j) (suc b + j) ⊎ IsBeside p (at ps j)) →
      (i j : ℕ) → i < j → j < length (p ∷ ps) → IsBefore (at (p ∷ ps) i) (at (p ∷ ps) j) (b + j)
      ⊎ IsBeside (at (p ∷ ps) i) (at (p ∷ ps) j)
  pair_more h i zero g f = absurd (omega arith)
  pair_more h zero (suc j) g f = one_later p (at ps j) (suc b + j) (b + suc j) (omega arith)
      (h j (omega arith))
  pair_more h (suc i) (suc j) g f = one_later (at ps i) (at ps j) (suc b + j) (b + suc j) (omega arith)
      (r.pair i j (omega arith) (omega arith))

  rows_more : b < p.end → p.end ≤ suc b + length ps → (p.rec_position ≡ None → p.end ≡ suc b) →
      ((x : ℕ × ℕ) → p.rec_position ≡ Some x → k ≤ x.0) →
      ((j : ℕ) → j < length ps → IsBefore p (at ps j) (suc b + j) ⊎ IsBeside p (at ps j)) →
      AreRows b k (p ∷ ps)
  rows_more o f s l q = record {
    own = own_more o;
    fits = fits_more f;
    single_end = single_more s;
    least = least_more l;
    pair = pair_more q;
  }

-- a member of the `Rec` that is at its place t, and the rest
abbrev Follows : ℕ → ℕ → ℕ → ℕ → List Place → Type 0
Follows b k t end ps = (j : ℕ) → j < length ps →
    ((end ≤ b + j) × ((y : ℕ × ℕ) → (at ps j).rec_position ≡ Some y → k < y.0))
    ⊎ ((y : ℕ × ℕ) × ((at ps j).rec_position ≡ Some y) × (y.0 ≡ k) × (t ≤ y.1) × ((at ps j).end ≡ end))

follows_more : (e : Definition) (b k t end : ℕ) (ps : List Place) → Follows (suc b) k (suc t) end ps →
    Follows b k t end (record { definition = e; end = end; rec_position = Some (k, t) } ∷ ps)
follows_more e b k t end ps h zero g = inr ((k, t), refl, refl, omega arith, refl)
follows_more e b k t end ps h (suc j) g = elim (h j (omega arith)) [
  | inl x ↦ (let z = x.0 in inl (omega arith, x.1))
  | inr x ↦ (let z = x.3 in inr (x.0, x.1, x.2, omega arith, x.4))
]

pairs_of : (e : Definition) (b k t end : ℕ) (q : Place) (j : ℕ) →
    ((end ≤ j) × ((y : ℕ × ℕ) → q.rec_position ≡ Some y → k < y.0))
    ⊎ ((y : ℕ × ℕ) × (q.rec_position ≡ Some y) × (y.0 ≡ k) × (suc t ≤ y.1) × (q.end ≡ end)) →
    IsBefore (record { definition = e; end = end; rec_position = Some (k, t) }) q j
    ⊎ IsBeside (record { definition = e; end = end; rec_position = Some (k, t) }) q
pairs_of e b k t end q j (inl x) = inl (record {
  ends = x.0;
  rises = λ v y p u.
      (let z = x.1 y u in let w : (k, t) ≡ v = cc in let w0 : k ≡ v.0 = ap (λ (a : ℕ × ℕ). a.0) w in
      omega arith);
})
pairs_of e b k t end q j (inr x) = inr (record {
  x = (k, t);
  y = x.0;
  at_x = refl;
  at_y = x.1;
  same = sym x.2;
  later = x.3;
  ends = sym x.4;
})

pub length-rec_places :
    (es : List Definition) (end k t : ℕ) (rest : List Place) →
    length (rec_places es end k t rest) ≡ length es + length rest
length-rec_places [] end k t rest = omega arith
length-rec_places (e ∷ es) end k t rest = let z = length-rec_places es end k (suc t) rest in omega arith

rec_rows :
    (es : List Definition) (b k t end : ℕ) (rest : List Place) → length es + b ≡ end →
    AreRows end (suc k) rest →
    AreRows b k (rec_places es end k t rest) × Follows b k t end (rec_places es end k t rest)
rec_rows [] b k t end rest h r =
    let e : end ≡ b = omega arith in (
      fewer_recs b (suc k) k rest (omega arith) (rw e at r),
      λ j g.
          inl (omega arith, λ y p. (let z = r.least j y g p in omega arith)),
    )
rec_rows (e ∷ es) b k t end rest h r =
    let i = rec_rows es (suc b) k (suc t) end rest (omega arith) r in
    let ps = rec_places es end k (suc t) rest in
    let len = length-rec_places es end k (suc t) rest in (
      rows_more b k (record { definition = e; end = end; rec_position = Some (k, t) }) ps i.0 (omega arith)
          (omega arith) (λ q. absurd cc)
          (λ x q. (let w : (k, t) ≡ x = cc in let w0 : k ≡ x.0 = ap (λ (a : ℕ × ℕ). a.0) w in omega arith))
          (λ j g. pairs_of e b k t end (at ps j) (suc b + j) (i.1 j g)),
      follows_more e b k t end ps i.1,
    )

pub rows : (b k : ℕ) (gs : Section) → AreRows b k (places_from b k gs)
rows b k [] = no_rows b k
rows b k (Single e ∷ gs) =
    rows_more b k (record { definition = e; end = suc b; rec_position = None }) (places_from (suc b) k gs)
    (rows (suc b) k gs)
    (omega arith) (omega arith) (λ q. refl) (λ x q. absurd cc)
    (λ j g. inl (record { ends = omega arith; rises = λ x y p q. absurd cc }))
rows b k (Rec [] ∷ gs) = let e : zero + b ≡ b = omega arith in rw e (rows b k gs)
rows b k (Rec (e ∷ es) ∷ gs) = (rec_rows (e ∷ es) b k 0 (suc (length es) + b)
    (places_from (suc (length es) + b) (suc k) gs) refl (rows (suc (length es) + b) (suc k) gs)).0

pub laid_out : (s : Section) → IsLaidOut (index_space s)
laid_out s = let r = rows 0 0 s in record {
  own = λ i h. (let z = r.own i h in omega arith);
  fits = λ i h. (let z = r.fits i h in omega arith);
  single_end = λ i h p. (let z = r.single_end i h p in omega arith);
  pair = λ i j h g. elim (r.pair i j h g) [
    | inl x ↦ inl (record { ends = (let z = x.ends in omega arith); rises = x.rises })
    | inr x ↦ inr (record {
      x = x.x;
      y = x.y;
      at_x = x.at_x;
      at_y = x.at_y;
      same = x.same;
      later = x.later;
      ends = x.ends;
    })
  ];
}
