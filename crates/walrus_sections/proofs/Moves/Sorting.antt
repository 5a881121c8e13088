-- Moves lead a section down to one that is its own normal form.
use Rattle.std.proofs.Common.{◌≡◌, ℕ, zero, suc, ◌+◌, ◌<◌, ◌≤◌, refl, ap, sym, ◌∙◌, inl, inr, ◌⊎◌, arith, [], ◌∷◌, ◌++◌, map, subst, append_assoc}
use Rattle.std.specs.declared.cmp.Ordering.{Ordering, TheVariants.Less, TheVariants.Equal, TheVariants.Greater}
use Rattle.std.specs.Ordering.{ordering_reverse}
use Rattle.std.proofs.lemmas.{Bool.cases_eq, Cmp.tied_itself}
use Rattle.walrus_ty.specs.Definition.{Names, rename, definition_cmp}
use Rattle.walrus_sections.specs.{Section.IndexSpace, Section.index_space, Section.IsSingle, Section.IsFilled, Section.IsWellNamed, NormalForm.IsNormal}
use Rattle.walrus_ty.specs.Groups.{Single, Rec, Section}
use Rattle.walrus_sections.specs.Moves.{exchange, skip, rename_group, DropsEmptyRec, DropsRepeat, SwapsNeighbours, drop_empty_rec, drop_repeat, swap_neighbours, DescentTo, bottom, down}
use Rattle.walrus_sections.proofs.Sections.Lying.{in_or_out}
use Rattle.walrus_sections.proofs.Sections.Splits.{split, split_definition, split_two, two_definitions, length-places, filled-left, filled-right, filled-append, filled-map}
use Rattle.walrus_sections.proofs.Moves.{ByIndex.IsSwapped, SwappedPlaces.swapped_by_index, WithoutPlaces.without_by_index, WellNamed.swapped_well_named, WellNamed.without_well_named, WellNamed.unemptied_well_named}
use Rattle.walrus_sections.proofs.Moves.Exchange.{exchange_order, exchange_first, exchange_second, exchange_twice, no_further}
use Rattle.walrus_sections.proofs.Moves.Descent.{fewer_without_empty, fewer_without_repeat, lower_once_turned}
use Rattle.walrus_sections.proofs.Moves.Tidy.{IsTidy, Rises, RisesTo, fix_or_plain, order_stays, rise_goes, tidy_goes, normal_itself}
use Rattle.walrus_ty.proofs.Names.Definitions.{definitions_total, definition_exact, cmp_same}

pub join : (r q s : Section) → DescentTo q s → DescentTo r q → DescentTo r s
join r q _ bottom d = d
join r q _ (down s q' mv lo wq e) d = down s q' mv lo wq (join r q q' e d)

pub record Reached (s : Section) (P : Section → Type 0) : Type 0 where
  pub q : Section
  pub descent : DescentTo q s
  pub filled : IsFilled q
  pub well_named : IsWellNamed q
  pub holds : P q

stays : (s : Section) {P : Section → Type 0} → IsFilled s → IsWellNamed s → P s → Reached s P
stays s f w p = record { q = s; descent = bottom; filled = f; well_named = w; holds = p }

further :
    (s q : Section) {P Q : Section → Type 0} → DescentTo q s → Reached q P → ((r : Section) → P r → Q r) →
    Reached s Q
further s q d r weaker = record {
  q = r.q;
  descent = join r.q q s d r.descent;
  filled = r.filled;
  well_named = r.well_named;
  holds = weaker r.q r.holds;
}

which : (o : Ordering) → (o ≡ Less) ⊎ ((o ≡ Equal) ⊎ (o ≡ Greater))
which Less = inl refl
which Equal = inr (inl refl)
which Greater = inr (inr refl)

-- all pairs up to b rise, but those whose later one is p
abbrev RisesBut : IndexSpace → ℕ → ℕ → Type 0
RisesBut t b p = (i j : ℕ) → i < j → j ≤ b → ¬ (j ≡ p) → Rises t i j

abbrev IsSortedTo : ℕ → ℕ → Section → Type 0
IsSortedTo n b q = IsTidy (index_space q) × RisesTo (index_space q) b × ((index_space q).count ≡ n)

all_rise :
    (t : IndexSpace) (b p : ℕ) → RisesBut t b p → ((i : ℕ) → i < p → Rises t i p) →
    RisesTo t (suc b)
all_rise t b p but last i j h g = elim (cases_eq j p) [
  | inl e ↦ subst (λ (x : ℕ). Rises t i x) (sym e) (last i (omega arith))
  | inr n ↦ but i j h (omega arith) n
]

-- after a swap of two that were out of order the pairs rise, but those whose later one is the first
-- of the two
swapped_but :
    (s r : Section) (o b : ℕ) → IsSwapped (index_space s) (index_space r) o → suc o ≤ b →
    b < (index_space s).count → RisesBut (index_space s) b (suc o) →
    definition_cmp ((index_space s).definition o) ((index_space s).definition (suc o)) ≡ Greater →
    RisesBut (index_space r) b o
swapped_but s r o b sw ob h but gr i j g jb ne = elim (exchange_order o i j g) [
  | inl up ↦ (
      let nj : ¬ (exchange o j ≡ suc o) = λ e. ne (sym (exchange_twice o j)
      ∙ (ap (exchange o) e ∙ exchange_second o)) in
      let le = no_further o j b ne jb in
      rise_goes (index_space s) (index_space r) o sw i j g (omega arith) up
      (but (exchange o i) (exchange o j) up le nj))
  | inr at ↦ (λ fr.
      (let ei = ap (exchange o) at.0 ∙ exchange_first o in
      let ej = ap (exchange o) at.1 ∙ exchange_second o in
      let ri : (index_space r).definition i ≡ rename (exchange o) ((index_space s).definition (suc o)) =
      sw.definition i (omega arith) ∙ ap (λ y. rename (exchange o) ((index_space s).definition y)) ei in
      let rj : (index_space r).definition j ≡ rename (exchange o) ((index_space s).definition o) =
      sw.definition j (omega arith) ∙ ap (λ y. rename (exchange o) ((index_space s).definition y)) ej in
      let t = definitions_total.antisymm (rename (exchange o) ((index_space s).definition (suc o)))
      (rename (exchange o) ((index_space s).definition o)) in
      let u : definition_cmp (rename (exchange o) ((index_space s).definition o))
      (rename (exchange o) ((index_space s).definition (suc o))) ≡ Greater = sym sw.order ∙ gr in
      rw (ri, rj) (t ∙ ap ordering_reverse u)))
]

insert :
    (p b n : ℕ) (s : Section) → IsFilled s → IsWellNamed s → IsTidy (index_space s) → p ≤ b →
    b < (index_space s).count → (index_space s).count ≡ n → RisesBut (index_space s) b p →
    Reached s (IsSortedTo n (suc b))
insert zero b n s f w t pb h c but =
    stays s f w (t, all_rise (index_space s) b 0 but (λ i g. absurd (omega arith)), c)
insert (suc o) b n s f w t pb h c but =
    let done = λ (last : (i : ℕ) → i < suc o → Rises (index_space s) i (suc o)).
    stays s {P = IsSortedTo n (suc b)} f w (t, all_rise (index_space s) b (suc o) but last, c) in
    elim (fix_or_plain (index_space s) o) [
      | inl fx ↦ done (λ i g fr. absurd (fr o (omega arith) (omega arith) fx))
      | inr po ↦ (elim (fix_or_plain (index_space s) (suc o)) [
        | inl fx ↦ done (λ i g fr. absurd (fr (suc o) (omega arith) (omega arith) fx))
        | inr pp ↦ (elim (which (definition_cmp ((index_space s).definition o)
            ((index_space s).definition (suc o)))) [
              | inl less ↦ done (λ i g fr. elim (cases_eq i o) [
                | inl e ↦ cmp_same (ap (index_space s).definition e) refl ∙ less
                | inr ne ↦ definitions_total.trans ((index_space s).definition i)
                    ((index_space s).definition o)
                    ((index_space s).definition (suc o))
                    (but i o (omega arith) (omega arith) (λ e. omega arith) (λ a u v. fr a u (omega arith)))
                    less
              ])
              | inr other ↦ (elim other [
                | inl same ↦ absurd (t o (suc o) (omega arith) (omega arith) po.single pp.single
                    (definition_exact ((index_space s).definition o) ((index_space s).definition (suc o))
                    same))
                | inr greater ↦ (
                    let k = split_two s o f (omega arith) po.single pp.single in
                    let en = two_definitions s o k in
                    let r = map (rename_group (exchange o)) (k.before ++ Single k.f ∷ Single k.e ∷ k.after) in
                    let first : (x : ℕ) → Names k.e x → x ≡ o = λ x q. po.own x (rw (en.0) q) in
                    let second : (x : ℕ) → Names k.f x → x ≡ suc o = λ x q. pp.own x (rw (en.1) q) in
                    let gr : definition_cmp k.e k.f ≡ Greater = rw (en.0, en.1) at greater in
                    let mv : SwapsNeighbours s r o = record {
                      exchanged = record {
                        before = k.before;
                        first = k.e;
                        second = k.f;
                        after = k.after;
                        s_is = k.is;
                        r_is = refl;
                        place = length-places 0 0 k.before ∙ k.place;
                      };
                      first_own = first;
                      second_own = second;
                      order = order_stays o k.e k.f first second gr;
                    } in
                    let sw = swapped_by_index s r o mv in
                    let wr = swapped_well_named s r o w mv in
                    let tr = tidy_goes (index_space s) (index_space r) o sw t in
                    let fk : IsFilled (k.before ++ Single k.e ∷ Single k.f ∷ k.after) = rw (k.is) at f in
                    let fr : IsFilled r = filled-map (exchange o)
                    (k.before ++ Single k.f ∷ Single k.e ∷ k.after)
                    (filled-append k.before (Single k.f ∷ Single k.e ∷ k.after)
                    (filled-left k.before (Single k.e ∷ Single k.f ∷ k.after) fk)
                    (filled-right k.before (Single k.e ∷ Single k.f ∷ k.after) fk)) in
                    let cnt = sw.count in
                    let but' : RisesBut (index_space r) b o =
                    swapped_but s r o b sw (omega arith) (omega arith) but greater in
                    let i = insert o b n r fr wr tr (omega arith) (omega arith) (cnt ∙ c) but' in
                    further s r (down s r (swap_neighbours o mv) (lower_once_turned s r o mv w wr t tr greater)
                    wr bottom) i (λ q p. p))
              ])
            ])
      ])
    ]

-- the first b definitions, and then the rest
sort : (d b n : ℕ) (s : Section) → IsFilled s → IsWellNamed s → IsTidy (index_space s) →
    (index_space s).count ≡ n → d + b ≡ n → RisesTo (index_space s) b → Reached s (IsSortedTo n n)
sort zero b n s f w t c e up = stays s f w (t, (λ i j h g. up i j h (omega arith)), c)
sort (suc d) b n s f w t c e up =
    let i = insert b b n s f w t (omega arith) (omega arith) c (λ i j h g ne. up i j h (omega arith)) in
    let r = sort d (suc b) n i.q i.filled i.well_named i.holds.0 i.holds.2 (omega arith) i.holds.1 in
    further s i.q i.descent r (λ q p. p)

-- bounded search
any_below :
    (P : ℕ → Type 0) → ((i : ℕ) → P i ⊎ (¬ (P i))) → (n : ℕ) →
    ((i : ℕ) × (i < n) × P i) ⊎ ((i : ℕ) → i < n → ¬ (P i))
any_below P d zero = inr (λ i h q. omega arith)
any_below P d (suc n) = elim (any_below P d n) [
  | inl x ↦ (let x1 = x.1 in inl (x.0, omega arith, x.2))
  | inr f ↦ (elim (d n) [
    | inl p ↦ inl (n, omega arith, p)
    | inr g ↦ inr (λ i h. elim (cases_eq i n) [ inl e ↦ (λ q. g (subst P e q)) | inr ne ↦ f i (omega arith) ])
  ])
]

record AreTwins (t : IndexSpace) (i j : ℕ) : Type 0 where
  pub first : IsSingle t j
  pub second : IsSingle t i
  pub same : t.definition j ≡ t.definition i

twins_or_not : (t : IndexSpace) (i j : ℕ) → AreTwins t i j ⊎ (¬ (AreTwins t i j))
twins_or_not t i j = elim (in_or_out (t.rec_position i)) [
  | inr x ↦ inr (λ z. (let a = z.second in let b = x.1 in cc))
  | inl o ↦ (elim (in_or_out (t.rec_position j)) [
    | inr x ↦ inr (λ z. (let a = z.first in let b = x.1 in cc))
    | inl o' ↦ (elim (which (definition_cmp (t.definition j) (t.definition i))) [
      | inl less ↦ inr (λ z. (let e = tied_itself definitions_total (t.definition i) in
          let g : definition_cmp (t.definition i) (t.definition i) ≡ Less = rw (z.same) at less in cc))
      | inr w ↦ (elim w [
        | inl eq ↦ inl (record {
          first = o';
          second = o;
          same = definition_exact (t.definition j) (t.definition i) eq;
        })
        | inr gr ↦ inr (λ z. (let e = tied_itself definitions_total (t.definition i) in
            let g : definition_cmp (t.definition i) (t.definition i) ≡ Greater = rw (z.same) at gr in cc))
      ])
    ])
  ])
]

find_twins :
    (t : IndexSpace) → ((i : ℕ) × (i < t.count) × ((j : ℕ) × (j < i) × AreTwins t i j)) ⊎ IsTidy t
find_twins t = elim (any_below (λ i. (j : ℕ) × (j < i) × AreTwins t i j) (λ i.
    elim (any_below (AreTwins t i) (twins_or_not t i) i) [ inl x ↦ inl x | inr f ↦ inr (λ z. f z.0 z.1 z.2) ])
    t.count) [
      | inl x ↦ inl x
      | inr f ↦ inr (λ i j h g oi oj e. f j g (i, h, record { first = oi; second = oj; same = e }))
    ]

-- repeats go out
tidied :
    (n : ℕ) (s : Section) → (index_space s).count ≤ n → IsFilled s → IsWellNamed s →
    Reached s (λ q. IsTidy (index_space q))
tidied zero s h f w = stays s f w (λ i j g k. absurd (omega arith))
tidied (suc n) s h f w = elim (find_twins (index_space s)) [
  | inr t ↦ stays s f w t
  | inl x ↦ (
      let i = x.0 in let j = x.2.0 in let tw = x.2.2 in
      let k = split s 0 0 i x.1 tw.second in
      let r = map (rename_group (skip i j)) (k.before ++ k.after) in
      let mv : DropsRepeat s r i j = record {
        before = k.before;
        dropped = k.e;
        after = k.after;
        s_is = k.is;
        r_is = refl;
        place = length-places 0 0 k.before ∙ k.place;
        earlier = x.2.1;
        earlier_single = tw.first;
        equal = tw.same ∙ split_definition s i k;
      } in
      let wo = without_by_index s r i j mv in
      let wr = without_well_named s r i j w mv in
      let fk : IsFilled (k.before ++ Single k.e ∷ k.after) = rw (k.is) at f in
      let fr : IsFilled r = filled-map (skip i j) (k.before ++ k.after)
      (filled-append k.before k.after (filled-left k.before (Single k.e ∷ k.after) fk)
      (filled-right k.before (Single k.e ∷ k.after) fk)) in
      let cnt = wo.count in
      further s r (down s r (drop_repeat i j mv) (inl (fewer_without_repeat s r i j mv)) wr bottom)
      (tidied n r (omega arith) fr wr) (λ q p. p))
]

-- empty `Rec`s go out
filled_up :
    (done rest : Section) → IsFilled done → IsWellNamed (done ++ rest) →
    Reached (done ++ rest) (λ q. Unit {0})
filled_up done [] f w = stays (done ++ []) (filled-append done [] f tt) w tt
filled_up done (Single e ∷ gs) f w =
    let a : (done ++ Single e ∷ []) ++ gs ≡ done ++ Single e ∷ gs = append_assoc done (Single e ∷ []) gs in
    subst (λ (s : Section). Reached s (λ q. Unit {0})) a
    (filled_up (done ++ Single e ∷ []) gs (filled-append done (Single e ∷ []) f tt)
    (subst (λ (s : Section). IsWellNamed s) (sym a) w))
filled_up done (Rec [] ∷ gs) f w =
    let mv : DropsEmptyRec (done ++ Rec [] ∷ gs) (done ++ gs) =
    record { before = done; after = gs; s_is = refl; r_is = refl } in
    let wr = unemptied_well_named (done ++ Rec [] ∷ gs) (done ++ gs) w mv in
    further (done ++ Rec [] ∷ gs) (done ++ gs) (down (done ++ Rec [] ∷ gs) (done ++ gs) (drop_empty_rec mv)
    (inl (fewer_without_empty (done ++ Rec [] ∷ gs) (done ++ gs) mv)) wr bottom) (filled_up done gs f wr)
    (λ q p. p)
filled_up done (Rec (e ∷ es) ∷ gs) f w =
    let a : (done ++ Rec (e ∷ es) ∷ []) ++ gs ≡ done ++ Rec (e ∷ es) ∷ gs =
    append_assoc done (Rec (e ∷ es) ∷ []) gs in
    subst (λ (s : Section). Reached s (λ q. Unit {0})) a
    (filled_up (done ++ Rec (e ∷ es) ∷ []) gs (filled-append done (Rec (e ∷ es) ∷ []) f tt)
    (subst (λ (s : Section). IsWellNamed s) (sym a) w))

-- down to a section that is its own normal form
pub descend :
    (s : Section) → IsWellNamed s →
    Reached s (λ q. IsNormal (index_space q) (index_space q) (λ k. k))
descend s w =
    let a = filled_up [] s tt w in
    let b = tidied (index_space a.q).count a.q (omega arith) a.filled a.well_named in
    let c = sort (index_space b.q).count 0 (index_space b.q).count b.q b.filled b.well_named b.holds refl
    (omega arith) (λ i j h g. absurd (omega arith)) in
    further s b.q (join b.q a.q s a.descent b.descent) c (λ q p.
    (let cnt = p.2 in normal_itself (index_space q) p.0 (λ i j h g. p.1 i j h (omega arith))))
