-- A section with no repeat, whose runs rise, is its own normal form.
use Rattle.std.proofs.Common.{◌≡◌, ℕ, zero, suc, ◌<◌, ◌≤◌, List, [], ◌∷◌, length, slice_index_or, refl, ap, sym, ◌∙◌, inl, inr, ◌⊎◌, arith, subst}
use Rattle.std.specs.Prelude.{Contains}
use Rattle.std.specs.declared.cmp.Ordering.TheVariants.{Less, Greater}
use Rattle.std.proofs.lemmas.Bool.{cases_lt, cases_eq}
use Rattle.walrus_ty.specs.Definition.{Definition, Names, names_of, rename, definition_cmp}
use Rattle.walrus_sections.specs.{Section.IndexSpace, Section.IsSingle, Section.IsInRec, Moves.exchange, NormalForm.NamesAnother, NormalForm.IsNormal}
use Rattle.walrus_sections.proofs.{Moves.ByIndex.IsSwapped, Sections.Lying.in_or_out, Sections.Lying.names_at, Moves.Swapped.single_too, Moves.Swapped.exchanged_back}
use Rattle.walrus_sections.proofs.Moves.Exchange.{not_after, not_before, where_is, IsOther, exchange_twice, exchange_within, exchange_one}
use Rattle.walrus_ty.proofs.Names.Definitions.{Names-rename, rename_id, cmp_agree, cmp_or_less, cmp_same}
use Rattle.walrus_ty.proofs.Spelling.Tokens.{nat_less}

abbrev pub IsFix : IndexSpace → ℕ → Type 0
IsFix t i = IsInRec t i ⊎ NamesAnother t i

abbrev pub AreUnfixed : IndexSpace → ℕ → ℕ → Type 0
AreUnfixed t i j = (a : ℕ) → i ≤ a → a ≤ j → ¬ IsFix t a

-- no two `Single`s are the same
abbrev pub IsTidy : IndexSpace → Type 0
IsTidy t = (i j : ℕ) → i < j → j < t.count → IsSingle t i → IsSingle t j → ¬ (t.definition i ≡ t.definition j)

abbrev pub Rises : IndexSpace → ℕ → ℕ → Type 0
Rises t i j = AreUnfixed t i j → definition_cmp (t.definition i) (t.definition j) ≡ Less

-- below b each run rises
abbrev pub RisesTo : IndexSpace → ℕ → Type 0
RisesTo t b = (i j : ℕ) → i < j → j < b → Rises t i j

pub normal_itself : (t : IndexSpace) → IsTidy t → RisesTo t t.count → IsNormal t t (λ k. k)
normal_itself t tidy up = record {
  below = λ i h. h;
  onto = λ p h. (p, h, refl);
  same = λ i h. sym (rename_id (t.definition i));
  rec_to_rec = λ i x h e. e;
  rec_from_rec = λ p x h e. (p, h, e);
  single_to_single = λ i h o. o;
  singles_differ = λ p q g h op oq. tidy p q g h op oq;
  selfs_kept = λ i h o nk j g e. omega arith;
  anchors = λ i j g h ki kj a. g;
  free = λ i j g h ki kj fr. (
    (λ x. up i j g h (λ a u v fx. fr a u v (elim fx [
      | inl y ↦ inl y
      | inr y ↦
          inr ((λ k z e. omega arith), y)
    ]))),
    (λ x. g),
  );
}

first_or_later :
    (l : ℕ) (ns : List ℕ) (k j : ℕ) → j < length (l ∷ ns) → slice_index_or (l ∷ ns) j k ≡ k →
    (l ≡ k) ⊎ Contains ns k
first_or_later l ns k zero h e = inl e
first_or_later l ns k (suc j) h e = inr (j, omega arith, e)

-- some number of the list is another than i, or each is i
another_in :
    (i : ℕ) (ns : List ℕ) → ((k : ℕ) × Contains ns k × (¬ (k ≡ i))) ⊎
    ((k : ℕ) → Contains ns k → k ≡ i)
another_in i [] = inr (λ k h. absurd (let z = h.1 in omega arith))
another_in i (l ∷ ns) = elim (cases_eq l i) [
  | inr n ↦ inl (l, (0, omega arith, refl), n)
  | inl e ↦ (elim (another_in i ns) [
    | inl x ↦ (let z = x.1.1 in inl (x.0, (suc x.1.0, omega arith, x.1.2), x.2))
    | inr f ↦ inr (λ k h. elim (first_or_later l ns k h.0 h.1 h.2) [ inl z ↦ sym z ∙ e | inr z ↦ f k z ])
  ])
]

names_another :
    (i : ℕ) (d : Definition) → ((k : ℕ) × Names d k × (¬ (k ≡ i))) ⊎ ((k : ℕ) → Names d k → k ≡ i)
names_another i d = another_in i (names_of d)

pub record IsPlain (t : IndexSpace) (i : ℕ) : Type 0 where
  pub single : IsSingle t i
  pub own : (k : ℕ) → Names (t.definition i) k → k ≡ i

pub fix_or_plain : (t : IndexSpace) (i : ℕ) → IsFix t i ⊎ IsPlain t i
fix_or_plain t i = elim (in_or_out (t.rec_position i)) [
  | inr x ↦ inl (inl x)
  | inl o ↦ (elim (names_another i (t.definition i)) [
    | inl x ↦ inl (inr x)
    | inr f ↦
        inr (record { single = o; own = f })
  ])
]

pub plain_if : (t : IndexSpace) (i : ℕ) → ¬ (IsFix t i) → IsPlain t i
plain_if t i h = elim (fix_or_plain t i) [ inl x ↦ absurd (h x) | inr x ↦ x ]

pub unfixed_if_plain : (t : IndexSpace) (i : ℕ) → IsPlain t i → ¬ (IsFix t i)
unfixed_if_plain t i p (inl x) = let o = p.single in let e = x.1 in absurd cc
unfixed_if_plain t i p (inr x) = x.2 (p.own x.0 x.1)

-- a swap of two that are out of order is a move
pub order_stays :
    (o : ℕ) (e f : Definition) → ((k : ℕ) → Names e k → k ≡ o) → ((k : ℕ) → Names f k → k ≡ suc o) →
    definition_cmp e f ≡ Greater →
    definition_cmp e f ≡ definition_cmp (rename (exchange o) e) (rename (exchange o) f)
order_stays o e f he hf g =
    let r = cmp_or_less (λ k. k) (exchange o) e f (λ k l p q.
    (let a = he k p in let b = hf l q in omega arith)) in
    let ie = rename_id e in let jf = rename_id f in
    elim r [
      | inl x ↦ sym (cmp_same ie jf) ∙ x
      | inr x ↦ absurd (let y : definition_cmp e f ≡ Less = sym (cmp_same ie jf) ∙ x in cc)
    ]

module _ (s r : IndexSpace) (o : ℕ) (sw : IsSwapped s r o) where
  fix_goes : (a : ℕ) → a < s.count → IsFix s a → IsOther o a × IsFix r a
  fix_goes a h x = elim (where_is o a) [
    | inl y ↦ absurd (elim x [
      | inl z ↦ (let p = ap s.rec_position y.0 in let q = sw.first_single in let z1 = z.1 in cc)
      | inr z ↦ z.2 (sw.first_own z.0 (names_at s a o z.0 y.0 z.1) ∙ sym y.0)
    ])
    | inr w ↦ (elim w [
      | inl y ↦ absurd (elim x [
        | inl z ↦ (let p = ap s.rec_position y.0 in let q = sw.second_single in let z1 = z.1 in cc)
        | inr z ↦ z.2 (sw.second_own z.0 (names_at s a (suc o) z.0 y.0 z.1) ∙ sym y.0)
      ])
      | inr p ↦ (
        p,
        elim x [
          | inl z ↦ inl (z.0, sw.rec_position a h ∙ z.1)
          | inr z ↦ inr (
            exchange o z.0,
            subst (λ (e : Definition). Names e (exchange o z.0))
                (sym (sw.definition a h ∙ ap (λ y. rename (exchange o) (s.definition y)) p.stays))
                (Names-rename (exchange o) (s.definition a) z.0 z.1),
            λ f. z.2 (exchange_one o z.0 a (f ∙ sym p.stays)),
          )
        ],
      )
    ])
  ]

  -- where nothing of r is fixed from i to j, nothing of s is from where i comes from to where j
  -- does
  pub unfixed_goes : (i j : ℕ) → i < j → j < s.count → exchange o i < exchange o j → AreUnfixed r i j →
      AreUnfixed s (exchange o i) (exchange o j)
  unfixed_goes i j h hj g fr a u v fx =
      let hj' = exchange_within o j s.count sw.inside hj in
      let y = fix_goes a (omega arith) fx in
      fr a (not_after o i a y.0.not_first y.0.not_second u) (not_before o j a y.0.not_first y.0.not_second v)
      y.1

  -- and two of r compare as the two where they come from
  pub cmp_goes : (i j : ℕ) → i < j → j < s.count → exchange o i < exchange o j → AreUnfixed r i j →
      definition_cmp (r.definition i) (r.definition j) ≡ definition_cmp (s.definition (exchange o i))
      (s.definition (exchange o j))
  cmp_goes i j h hj g fr =
      let fs = unfixed_goes i j h hj g fr in
      let e = s.definition (exchange o i) in let f = s.definition (exchange o j) in
      let pi = plain_if s (exchange o i) (fs (exchange o i) (omega arith) (omega arith)) in
      let pj = plain_if s (exchange o j) (fs (exchange o j) (omega arith) (omega arith)) in
      let z = cmp_agree (exchange o) (λ k. k) e f (λ k l p q. (
      let a = ap (exchange o) (pi.own k p) ∙ exchange_twice o i in
      let b = ap (exchange o) (pj.own l q) ∙ exchange_twice o j in
      let a' = pi.own k p in let b' = pj.own l q in
      nat_less (exchange o k) (exchange o l) (omega arith) ∙ sym (nat_less k l (omega arith)))) in
      cmp_same (sw.definition i (omega arith)) (sw.definition j hj)
      ∙ (z ∙ cmp_same (rename_id e) (rename_id f))

  -- what rises in s rises in r, but for the two
  pub rise_goes : (i j : ℕ) → i < j → j < s.count → exchange o i < exchange o j →
      Rises s (exchange o i) (exchange o j) → Rises r i j
  rise_goes i j h hj g up fr = cmp_goes i j h hj g fr ∙ up (unfixed_goes i j h hj g fr)

  pub tidy_goes : IsTidy s → IsTidy r
  tidy_goes tidy i j h hj oi oj e =
      let cnt = sw.count in
      let hj' : j < s.count = omega arith in
      let hi' : i < s.count = omega arith in
      let wi = exchange_within o i s.count sw.inside hi' in
      let wj = exchange_within o j s.count sw.inside hj' in
      let si = single_too s r o sw i hi' oi in let sj = single_too s r o sw j hj' oj in
      let q : rename (exchange o) (s.definition (exchange o i)) ≡ rename (exchange o)
      (s.definition (exchange o j)) = sym (sw.definition i hi') ∙ (e ∙ sw.definition j hj') in
      let p : s.definition (exchange o i) ≡ s.definition (exchange o j) =
      sym (exchanged_back o (s.definition (exchange o i)))
      ∙ (ap (rename (exchange o)) q ∙ exchanged_back o (s.definition (exchange o j))) in
      elim (cases_lt (exchange o i) (exchange o j)) [
        | inl x ↦ tidy (exchange o i) (exchange o j) x wj si sj p
        | inr x ↦ (elim (cases_eq (exchange o i) (exchange o j)) [
          | inl y ↦ (let z = exchange_one o i j y in omega arith)
          | inr y ↦ tidy (exchange o j) (exchange o i) (omega arith) wi sj si (sym p)
        ])
      ]
