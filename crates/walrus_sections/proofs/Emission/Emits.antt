-- What is read and then emitted is a normal form.
use Rattle.std.proofs.Common.{◌≡◌, ℕ, zero, ◌+◌, ◌<◌, ◌≤◌, List, refl, ap, sym, ◌∙◌, inl, inr, ◌⊎◌, arith, Option, Some, true, false, subst, ◌↔◌, map}
use Rattle.std.specs.List.{range_with_len}
use Rattle.std.specs.declared.cmp.Ordering.TheVariants.{Less}
use Rattle.std.proofs.lemmas.{Bool.cases_lt, Bool.cases_eq, List.FromFn.length-map-range_with_len, List.FromFn.get_or-map-range_with_len}
use Rattle.walrus_ty.specs.{Definition.Names, Definition.definition_cmp, Groups.Section}
use Rattle.walrus_sections.specs.{Section.places_from, Section.index_space, Section.NamesBelowEnds, Section.IsWellNamed, Section.IsInRec, SlotMap.TypeGroup, SlotMap.read_groups, SlotMap.read_definition, SlotMap.IsSlotMap, NormalForm.image, NormalForm.IsNormalForm}
use Rattle.walrus_sections.specs.Emission.{group_at, IsMember, IsGrouped, WrittenMember, read_table, IsFreeGroup, IsInversion, IsWrittenBefore, IsEmission}
use Rattle.walrus_sections.proofs.{Sections.Rows.at, Sections.Rows.laid_out, NormalForms.SameMap.normal_same, Emission.ByIndex.IsFixed, Emission.ByIndex.IsEmitted, Emission.Groups.AreGroups, Emission.Groups.Kind, Emission.Groups.groups, Emission.WrittenMembers.written_member}
use Rattle.walrus_sections.proofs.Sections.Numbering.{KeepsRecs, same_numbers}
use Rattle.walrus_sections.proofs.Emission.Made.{down, twice, normal_made}
use Rattle.walrus_ty.proofs.Names.Definitions.{named_before, cmp_same}

module _ (s : Section) (r : ℕ → ℕ) (wn : NamesBelowEnds (index_space s)) (d : IsSlotMap (index_space s) r)
  where
    abbrev S : List TypeGroup
    S = read_groups 0 r s

    none : (i : ℕ) → zero + i ≡ i
    none i = omega arith

    all : AreGroups 0 r S (places_from 0 0 s)
    all = groups 0 0 r s (λ i x h o. ap r (none i) ∙ (d.recs i h (x, o) ∙ sym (none i)))

    member_of : (i : ℕ) → i < (index_space s).count → r i ≡ i → (g : ℕ) × (u : ℕ) × IsMember S g u i
    member_of i h v =
        let m = all.has i h (ap r (none i) ∙ (v ∙ sym (none i))) in
        (m.0, m.1, subst (IsMember S m.0 m.1) (none i) m.2)

    member_is : (g u x : ℕ) → IsMember S g u x → (x < (index_space s).count) × (r x ≡ x)
        × Kind (group_at S g) (at (places_from 0 0 s) x) u
    member_is g u x m =
        let q = all.is g u x m in
        let q1 = q.1 in let q2 = q.2 in
        let e : q.0 ≡ x = omega arith in
        (omega arith, q.3, subst (λ (j : ℕ). Kind (group_at S g) (at (places_from 0 0 s) j) u) e q.4)

    back : (g u i : ℕ) → IsMember S g u i → IsMember S g u (zero + i)
    back g u i m = subst (IsMember S g u) (sym (none i)) m

    rec_explicit : (g u i k t : ℕ) → IsMember S g u i → (index_space s).rec_position i ≡ Some (k, t) →
        ((group_at S g).is_explicit ≡ true) × (u ≡ t)
    rec_explicit g u i k t m e = elim (member_is g u i m).2 [
      | inl x ↦ (
        x.0,
        (let p : ◌≡◌ {A = Option (ℕ × ℕ)} (Some (x.1.0, u)) (Some (k, t)) = sym x.1.1 ∙ e in
            let q : ◌≡◌ {A = ℕ × ℕ} (x.1.0, u) (k, t) = cc in ap (λ (y : ℕ × ℕ). y.1) q),
      )
      | inr x ↦ absurd (let a = x.1 in cc)
    ]

    implicit_first : (g u i : ℕ) → IsMember S g u i → (group_at S g).is_explicit ≡ false → u ≡ 0
    implicit_first g u i m e = elim (member_is g u i m).2 [
      | inl x ↦ absurd (let a = x.0 in cc)
      | inr x ↦ x.2
    ]

    one_group : (g u i h v j k : ℕ) → IsMember S g u i → IsMember S h v j →
        (index_space s).rec_position i ≡ Some (k, u) → (index_space s).rec_position j ≡ Some (k, v) → g ≡ h
    one_group g u i h v j k m m' e e' = elim (cases_lt g h) [
      | inl x ↦ absurd (let z = all.numbers g u h v i j k k x (back g u i m) (back h v j m') e e' in
          omega arith)
      | inr x ↦ (elim (cases_eq g h) [
        | inl y ↦ y
        | inr y ↦ absurd (let z = all.numbers h v g u j i k k (omega arith) (back h v j m') (back g u i m) e'
            e
            in omega arith)
      ])
    ]

    member_at : (g h u i : ℕ) → g ≡ h → IsMember S g u i → IsMember S h u i
    member_at g h u i e m = subst (λ (x : ℕ). IsMember S x u i) e m

    -- of two live slots the earlier one stands in the same group or an earlier one
    in_order : (i j g u h v : ℕ) → i < j → IsMember S g u i → IsMember S h v j → ((g ≡ h) × (u < v)) ⊎ (g < h)
    in_order i j g u h v lt m m' = elim (cases_lt g h) [
      | inl x ↦ inr x
      | inr x ↦ (elim (cases_eq g h) [
        | inl y ↦ (let z = all.inner g u i v j m (member_at h g v j (sym y) m') in inl (y, omega arith))
        | inr y ↦ absurd (let z = all.rise h v j g u i (omega arith) m' m in omega arith)
      ])
    ]

    -- what a live slot names is live
    name_live : (i : ℕ) → i < (index_space s).count → (k : ℕ) →
        Names (read_definition (index_space s) r i) k →
        IsGrouped S k
    name_live i h k nk =
        let b = named_before r ((index_space s).definition i) k nk in
        let z = wn i h b.0 b.1 in let f = (laid_out s).fits i h in
        let hl : b.0 < (index_space s).count = omega arith in
        let dn = down (index_space s) r d b.0 hl in
        let tw = twice (index_space s) r d b.0 hl in
        let b2 = b.2 in
        member_of k (omega arith) (sym (ap r b2) ∙ (tw ∙ b2))

    -- a fixed slot's group is not free
    not_free : (g u i : ℕ) → IsMember S g u i → IsFixed (index_space s) r i →
        ¬ (IsFreeGroup (read_table s r) g)
    not_free g u i m (inl x) f = let y = rec_explicit g u i x.0.0 x.0.1 m x.1 in let a = y.0 in let b =
        f.implicit in cc
    not_free g u i m (inr x) f = x.2 (f.own u i m x.0 x.1 (name_live i (member_is g u i m).0 x.0 x.1))

    less_along : (i y j z : ℕ) → i ≡ y → j ≡ z →
        definition_cmp (read_definition (index_space s) r j) (read_definition (index_space s) r i) ≡ Less →
        definition_cmp (read_definition (index_space s) r z) (read_definition (index_space s) r y) ≡ Less
    less_along i y j z e f h = cmp_same (ap (read_definition (index_space s) r) (sym f))
        (ap (read_definition (index_space s) r) (sym e)) ∙ h

    only_one : (g u i v j : ℕ) → IsMember S g u i → IsMember S g v j → ¬ (IsInRec (index_space s) i) → i ≡ j
    only_one g u i v j m m' ne = elim (member_is g u i m).2 [
      | inl x ↦ absurd (ne ((x.1.0, u), x.1.1))
      | inr x ↦ (let a = x.2 in let b = implicit_first g v j m' x.0 in let z = all.inner g u i v j m m' in
          omega arith)
    ]

    -- what a live slot names is in its own group, or in one that stands before it
    pub names_stand : (g u i k : ℕ) → IsMember S g u i → Names (read_definition (index_space s) r i) k →
        (h : ℕ)
        × (v : ℕ) × IsMember S h v k × ((h ≡ g) ⊎ IsWrittenBefore (read_table s r) h g)
    names_stand g u i k m nk =
        let hi = (member_is g u i m).0 in
        let b = named_before r ((index_space s).definition i) k nk in
        let l = b.0 in let b2 = b.2 in
        let below = wn i hi l b.1 in
        let fit = (laid_out s).fits i hi in
        let hl : l < (index_space s).count = omega arith in
        let low = down (index_space s) r d l hl in
        let live = name_live i hi k nk in
        elim (cases_lt k i) [
          | inl lt ↦ (
            live.0,
            live.1,
            live.2,
            elim (in_order k i live.0 live.1 g u lt live.2 m) [
              | inl same ↦ inl same.0
              | inr before ↦ inr (inl (
                before,
                λ t. not_free g u i m (inr (k, nk, λ e. omega arith))
                    (t.free g (omega arith) (omega arith) u i m),
              ))
            ],
          )
          | inr ge ↦ (elim (cases_eq i k) [
            | inl e ↦ (g, u, subst (IsMember S g u) e m, inl refl)
            | inr ne ↦ (elim ((laid_out s).pair i l (omega arith) hl) [
              | inl apart ↦ absurd (let z = apart.ends in omega arith)
              | inr both ↦ (
                  let own = d.recs l hl (both.y, both.at_y) in
                  let lk : l ≡ k = sym own ∙ b2 in
                  let at_k : (index_space s).rec_position k ≡ Some both.y =
                  ap (index_space s).rec_position (sym lk) ∙ both.at_y in
                  let ri = rec_explicit g u i both.x.0 both.x.1 m both.at_x in
                  let rk = rec_explicit live.0 live.1 k both.y.0 both.y.1 live.2 at_k in
                  let ei : (index_space s).rec_position i ≡ Some (both.x.0, u) = both.at_x
                  ∙ ap (λ y. Some (both.x.0, y)) (sym ri.1) in
                  let ek : (index_space s).rec_position k ≡ Some (both.x.0, live.1) = at_k
                  ∙ (ap (λ y. Some (y, both.y.1)) (sym both.same) ∙ ap (λ y. Some (both.x.0, y)) (sym rk.1))
                  in
                  (live.0, live.1, live.2, inl (one_group live.0 live.1 k g u i both.x.0 live.2 m ek ei)))
            ])
          ])
        ]

    module _ (out : Section) (place : ℕ → ℕ) (em : IsEmission (read_table s r) out place) where
      -- no type is a function's entry, so each member is written
      abbrev written : {g u i : ℕ} → IsMember S g u i → WrittenMember (read_table s r)
      written {g} {u} {i} m = written_member (u, i, m, refl) m

      em_onto : (p : ℕ) → p < (index_space out).count → (g : ℕ) × (u : ℕ) × (i : ℕ) × IsMember S g u i
          × (place i ≡ p)
      em_onto p h = let o = em.onto p h in let x = o.0 in (x.group, x.place, x.id, x.is_member, o.1)

      keeps : KeepsRecs (index_space s) (index_space out) place
      keeps = record {
        below = λ i x h e. (let m = member_of i h (d.recs i h (x, e)) in em.below (written m.2));
        place = λ i k t h e. (let m = member_of i h (d.recs i h ((k, t), e)) in
            let x = rec_explicit m.0 m.1 i k t m.2 e in
            let q = em.rec (written m.2) x.0 in (q.0, q.1 ∙ ap (λ y. Some (q.0, y)) x.1));
        whole = λ i j k t u l h h' e e' f. (
            let m = member_of i h (d.recs i h ((k, t), e)) in
            let m' = member_of j h' (d.recs j h' ((k, u), e')) in
            let x = rec_explicit m.0 m.1 i k t m.2 e in
            let x' = rec_explicit m'.0 m'.1 j k u m'.2 e' in
            let g = one_group m.0 m.1 i m'.0 m'.1 j k m.2 m'.2 (e ∙ ap (λ y. Some (k, y)) (sym x.1)) (e'
            ∙ ap (λ y. Some (k, y)) (sym x'.1)) in
            let q = em.whole (written m.2) (written m'.2) l g x.0 (f
            ∙ ap (λ y. Some (l, y)) (sym x.1)) in
            q ∙ ap (λ y. Some (l, y)) x'.1);
        order = λ i j k k' t u l l' h h' lt e e' f f'. (
            let m = member_of i h (d.recs i h ((k, t), e)) in
            let m' = member_of j h' (d.recs j h' ((k', u), e')) in
            let x = rec_explicit m.0 m.1 i k t m.2 e in
            let x' = rec_explicit m'.0 m'.1 j k' u m'.2 e' in
            let ei = e ∙ ap (λ y. Some (k, y)) (sym x.1) in
            let ej = e' ∙ ap (λ y. Some (k', y)) (sym x'.1) in
            let fi = f ∙ ap (λ y. Some (l, y)) (sym x.1) in
            let fj = f' ∙ ap (λ y. Some (l', y)) (sym x'.1) in
            elim (cases_lt m.0 m'.0) [
              | inl y ↦ em.recs (written m.2) (written m'.2) l l' y fi fj
              | inr y ↦ (elim (cases_eq m.0 m'.0) [
                | inl z ↦ absurd (let w = all.number m.0 m.1 m'.1 i j k k' (back m.0 m.1 i m.2)
                    (back m.0 m'.1 j (member_at m'.0 m.0 m'.1 j (sym z) m'.2)) ei ej in omega arith)
                | inr z ↦ absurd (let w = all.numbers m'.0 m'.1 m.0 m.1 j i k' k (omega arith)
                    (back m'.0 m'.1 j m'.2) (back m.0 m.1 i m.2) ej ei in omega arith)
              ])
            ]);
        onto = λ p x h e. (
            let o = em_onto p h in
            let g = o.0 in let u = o.1 in let i = o.2 in
            let w = member_is g u i o.3 in (
              i,
              w.0,
              o.4,
              elim w.2 [
                | inl y ↦ ((y.1.0, u), y.1.1)
                | inr y ↦ absurd (let a = em.single (written o.3) y.0 in let b =
                    ap (index_space out).rec_position o.4 in cc)
              ],
            ));
      }

      not_equal : (i j : ℕ) → i < j → i < (index_space s).count → j < (index_space s).count → r i ≡ i →
          r j ≡ j → ¬ (place i ≡ place j)
      not_equal i j lt hi hj vi vj e =
          let m = member_of i hi vi in let m' = member_of j hj vj in
          elim (in_order i j m.0 m.1 m'.0 m'.1 lt m.2 m'.2) [
            | inl x ↦ (let z = em.within (written m.2) (written m'.2) x.0 x.1 in
                omega arith)
            | inr x ↦ (let z = em.stands (written m.2) (written m'.2) x (λ t.
                (let y = em.inversions (written m.2) (written m'.2) x t in omega arith)) in omega arith)
          ]

      fixed_first : (i j : ℕ) → i < j → j < (index_space s).count → r i ≡ i → r j ≡ j →
          IsFixed (index_space s) r i ⊎ IsFixed (index_space s) r j → place i < place j
      fixed_first i j lt hj vi vj fx =
          let m = member_of i (omega arith) vi in let m' = member_of j hj vj in
          elim (in_order i j m.0 m.1 m'.0 m'.1 lt m.2 m'.2) [
            | inl x ↦ em.within (written m.2) (written m'.2) x.0 x.1
            | inr x ↦ em.stands (written m.2) (written m'.2) x (λ t. elim fx [
              | inl y ↦ not_free m.0 m.1 i m.2 y (t.free m.0 (omega arith) (omega arith) m.1 i m.2)
              | inr y ↦ not_free m'.0 m'.1 j m'.2 y (t.free m'.0 (omega arith) (omega arith) m'.1 j m'.2)
            ])
          ]

      free_order : (i j : ℕ) → i < j → j < (index_space s).count → r i ≡ i → r j ≡ j →
          ((a : ℕ) → i ≤ a → a ≤ j → r a ≡ a → ¬ (IsFixed (index_space s) r a)) →
          (place i < place j ↔ ¬ (definition_cmp (read_definition (index_space s) r j)
          (read_definition (index_space s) r i) ≡ Less))
      free_order i j lt hj vi vj fr =
          let m = member_of i (omega arith) vi in let m' = member_of j hj vj in
          let ni : ¬ (IsInRec (index_space s) i) = λ x. fr i (omega arith) (omega arith) vi (inl x) in
          let nj : ¬ (IsInRec (index_space s) j) = λ x. fr j (omega arith) (omega arith) vj (inl x) in
          elim (in_order i j m.0 m.1 m'.0 m'.1 lt m.2 m'.2) [
            | inl x ↦ absurd (let z = only_one m.0 m.1 i m'.1 j m.2 (member_at m'.0 m.0 m'.1 j (sym x.0) m'.2)
                ni in omega arith)
            | inr x ↦ (
                let inside : (a w y : ℕ) → m.0 ≤ a → a ≤ m'.0 → IsMember S a w y → (i ≤ y) × (y ≤ j) =
                λ a w y p q k. (
                  elim (cases_eq m.0 a) [
                    | inl e ↦ (let z = only_one m.0 m.1 i w y m.2 (member_at a m.0 w y (sym e) k) ni in
                        omega arith)
                    | inr ne ↦ (let z = all.rise m.0 m.1 i a w y (omega arith) m.2 k in omega arith)
                  ],
                  elim (cases_eq a m'.0) [
                    | inl e ↦ (let z = only_one m'.0 m'.1 j w y m'.2 (member_at a m'.0 w y e k) nj in
                        omega arith)
                    | inr ne ↦ (let z = all.rise a w y m'.0 m'.1 j (omega arith) k m'.2 in omega arith)
                  ],
                ) in
                let unfixed : (a w y : ℕ) → m.0 ≤ a → a ≤ m'.0 → IsMember S a w y →
                ¬ (IsFixed (index_space s) r y) = λ a w y p q k.
                (let z = inside a w y p q k in fr y z.0 z.1 (member_is a w y k).1) in
                let turn : definition_cmp (read_definition (index_space s) r j)
                (read_definition (index_space s) r i) ≡ Less →
                IsInversion (read_table s r) m.0 m'.0 = λ le. record {
                  free = λ a p q w y k. record {
                    implicit = elim (member_is a w y k).2 [
                      | inl e ↦
                          absurd (unfixed a w y p q k (inl ((e.1.0, w), e.1.1)))
                      | inr e ↦ e.0
                    ];
                    own = λ w' y' k' n nm _. elim (cases_eq n y') [
                      | inl e ↦ e
                      | inr ne ↦
                          absurd (unfixed a w' y' p q k' (inr (n, nm, ne)))
                    ];
                  };
                  less = λ w y w' y' k k'. (
                      let e = only_one m.0 m.1 i w y m.2 k ni in let e' =
                      only_one m'.0 m'.1 j w' y' m'.2 k' nj in
                      less_along i y j y' e e' le);
                } in (
                  (λ up le. (let z = em.inversions (written m.2) (written m'.2) x (turn le) in omega arith)),
                  (λ nl. em.stands (written m.2) (written m'.2) x (λ t. nl (t.less m.1 i m'.1 j m.2 m'.2))),
                ))
          ]

      pub emitted : IsEmitted (index_space s) (index_space out) r place
      emitted = record {
        below = λ i h v. (let m = member_of i h v in em.below (written m.2));
        onto = λ p h. (let o = em_onto p h in let w = member_is o.0 o.1 o.2 o.3 in (o.2, w.0, w.1, o.4));
        apart = λ i j hi hj vi vj e. (elim (cases_lt i j) [
          | inl x ↦ absurd (not_equal i j x hi hj vi vj e)
          | inr x ↦ (elim (cases_eq i j) [
            | inl y ↦ y
            | inr y ↦
                absurd (not_equal j i (omega arith) hj hi vj vi (sym e))
          ])
        ]);
        definition = λ i h v. (let m = member_of i h v in em.same (written m.2));
        rec_position = λ i h v. (let m = member_of i h v in elim (member_is m.0 m.1 i m.2).2 [
          | inl x ↦ same_numbers s out place keeps i (x.1.0, m.1) h x.1.1 ∙ sym x.1.1
          | inr x ↦ em.single (written m.2) x.0 ∙ sym x.1
        ]);
        fixed = fixed_first;
        free = free_order;
      }

abbrev pub slots_through : Section → (ℕ → ℕ) → (ℕ → ℕ) → List ℕ
slots_through s r place = map (λ i. place (r i)) (range_with_len 0 (index_space s).count)

pub read_then_emitted :
    (s out : Section) (r place : ℕ → ℕ) → IsWellNamed s → IsSlotMap (index_space s) r →
    IsEmission (read_table s r) out place →
    IsNormalForm s out (slots_through s r place)
read_then_emitted s out r place w d em =
    let n = normal_made (index_space s) (index_space out) r place (laid_out s) w.below_ends d
    (emitted s r w.below_ends d out place em) in
    record {
      one_each = length-map-range_with_len (λ i. place (r i)) 0 (index_space s).count;
      filled = em.filled;
      laws = normal_same (index_space s) (index_space out) (λ i. place (r i))
          (image (slots_through s r place)) (laid_out s) w.below_ends (λ i h.
          sym (get_or-map-range_with_len (λ i. place (r i)) 0 (index_space s).count i i 0 h (omega arith))) n;
    }
