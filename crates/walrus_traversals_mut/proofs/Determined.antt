-- Where the steps of a visitor are functions, walks that begin alike do the same, be they whole or cut
-- where the visitor can make no step.
use Rattle.std.proofs.lemmas.Bool.{cases_lt}
use Rattle.std.proofs.Common.{◌≡◌, ◌⊎◌, ◌+◌, ◌-◌, ◌≤◌, ℕ, inl, inr, List, [], ◌∷◌, refl, sym, ap, ◌∙◌, subst, arith}
use Rattle.std.specs.Bool.{⊤}
use Rattle.walrus_ir.specs.Calls.{Calls, leaves, call, unchanged, Extent, Full, Partial, StepRelation, Visits}
use Rattle.walrus_ir.specs.Fields.{sequence_calls}
use Rattle.walrus_ir.specs.Hooks.{Hook, Given}
use Rattle.walrus_ir.proofs.Calls.{sequence_whole}
use Rattle.walrus_functions.specs.Body.{Body, sequence, with_sequence}
use Rattle.walrus_traversals_mut.specs.Counting.{with_budget, CutWalk, CountedWalk, IsFunction}
use Rattle.walrus_traversals_mut.specs.Walks.{VisitsBlock, Walks, WalksAll, goes_on, stops, none, next, stops_in, last_first_of}
use Rattle.walrus_traversals_mut.proofs.Bodies.{same_write}

pub pair_of : {A B : Type 0} (p : A × B) (a : A) (b : B) → a ≡ p.0 → b ≡ p.1 → (a, b) ≡ p
pair_of {A} {B} p a b e k =
    let pair : A → B → A × B = λ x y. (x, y) in ap (λ x. pair x b) e ∙ ap (λ y. pair p.0 y) k

pub moved : {A B : Type 0} (F : A → B → Type 0) (a c : A) (b d : B) → a ≡ c → b ≡ d → F c d → F a b
moved {A} {B} F a c b d e k h = subst (λ (x : A). F x b) (sym e) (subst (λ (y : B). F c y) (sym k) h)

-- visitors that are related do the same at each hook and are related after it, and a walk may be cut
-- where the visitor is spent: it has no step there
record Alike {V : Type 0} (step : StepRelation V) (R : V → V → Type 0) (Spent : V → Type 0)
    : Type 0 where
  pub steps : (hook : Hook) (v r : V) (x : Given hook) (w : V) (y : Given hook) (u : V)
      (z : Given hook) → R v r → step hook v x w y → step hook r x u z → R w u × (y ≡ z)
  pub stuck : (hook : Hook) (v : V) (x : Given hook) (w : V) (y : Given hook) →
      Spent v → step hook v x w y → ⊥
  pub left : (v r : V) → R v r → Spent r → Spent v
  pub right : (v r : V) → R v r → Spent v → Spent r

-- where a walk of this extent may end
abbrev Ends : {V : Type 0} → (V → Type 0) → Extent → V → Type 0
Ends Spent Full w = ⊤
Ends Spent Partial w = Spent w

module _ {V : Type 0} (step : StepRelation V) (R : V → V → Type 0) (Spent : V → Type 0)
    (like : Alike step R Spent) where
  -- a spent visitor changes nothing
  visits_idle : {A : Type 0} (t : Calls A) (v : V) (e : Extent) (w : V) (y : A) →
      Spent v → Visits step v t e w y → Ends Spent e w → (w ≡ v) × (y ≡ unchanged t)
  visits_idle (leaves x) v e w y s h end = h
  visits_idle (call hook x rest) v Full w y s h end = absurd (like.stuck hook v x h.0 h.1 s h.2)
  visits_idle (call hook x rest) v Partial w y s h end =
      elim h [ inl k ↦ k | inr k ↦ absurd (like.stuck hook v x k.0 k.1 s k.2) ]

  related : (v r w u : V) → w ≡ v → u ≡ r → R v r → R w u
  related v r w u a b h = moved R w v u r a b h

  -- the first of these calls is made, or the visitor is spent before it
  first_call :
      {A : Type 0} (hook : Hook) (x : Given hook) (rest : Given hook → Calls A) (v : V) (e : Extent) (w : V)
      (y : A) →
      Visits step v (call hook x rest) e w y → Ends Spent e w →
      (Spent v × (w ≡ v) × (y ≡ unchanged (rest x))) ⊎ ((n : V) × (a : Given hook) × step hook v x n a
      × Visits step n (rest a) e w y)
  first_call hook x rest v Full w y h end = inr h
  first_call hook x rest v Partial w y h end =
      elim h [ inl k ↦ inl (subst Spent k.0 end, k.0, k.1) | inr k ↦ inr k ]

  -- from related visitors come related ones, and the same value
  visits_agree : {A : Type 0} (t : Calls A) (v r : V) (e f : Extent) (w u : V) (y z : A) → R v r →
      Visits step v t e w y → Visits step r t f u z → Ends Spent e w → Ends Spent f u → R w u × (y ≡ z)
  visits_agree (leaves x) v r e f w u y z rel h k end last = (related v r w u h.0 k.0 rel, h.1 ∙ sym k.1)
  visits_agree (call hook x rest) v r e f w u y z rel h k end last =
      elim (first_call hook x rest v e w y h end) [
        | inl a ↦ elim (first_call hook x rest r f u z k last) [
          | inl b ↦ (related v r w u a.1 b.1 rel, a.2 ∙ sym b.2)
          | inr b ↦ absurd (like.stuck hook r x b.0 b.1 (like.right v r rel a.0) b.2)
        ]
        | inr a ↦ elim (first_call hook x rest r f u z k last) [
          | inl b ↦ absurd (like.stuck hook v x a.0 a.1 (like.left v r rel b.0) a.2)
          | inr b ↦ (let d = like.steps hook v r x a.0 a.1 b.0 b.1 rel a.2 b.2 in
              let F : Given hook → Type 0 = λ g. Visits step b.0 (rest g) f u z in
              visits_agree (rest a.1) a.0 b.0 e f w u y z d.0 a.3 (subst F (sym d.1) b.3) end last)
        ]
      ]

  block_idle : (s t : V × Body) (q : ℕ) (e : Extent) → Spent s.0 → VisitsBlock step s q e t →
      Ends Spent e t.0 → (t.0 ≡ s.0) × (t.1 ≡ s.1)
  block_idle s t q e spent h end =
      let d = visits_idle (sequence_calls (sequence s.1 q)) s.0 e t.0 h.0 spent h.1 end in
      (d.0, h.2 ∙ ap (with_sequence s.1 q) (d.1 ∙ sequence_whole (sequence s.1 q)) ∙ same_write s.1 q)

  block_agree : (s r : V × Body) (q : ℕ) (e f : Extent) (t o : V × Body) → R s.0 r.0 → s.1 ≡ r.1 →
      VisitsBlock step s q e t → VisitsBlock step r q f o → Ends Spent e t.0 → Ends Spent f o.0 → R t.0 o.0
      × (t.1 ≡ o.1)
  block_agree s r q e f t o rel same h k end last =
      let F : Body → Type 0 = λ b. Visits step r.0 (sequence_calls (sequence b q)) f o.0 k.0 in
      let d = visits_agree (sequence_calls (sequence s.1 q)) s.0 r.0 e f t.0 o.0 h.0 k.0 rel h.1 (subst F
      (sym same) k.1) end last in
      (d.0, h.2 ∙ ap (with_sequence s.1 q) d.1 ∙ ap (λ b. with_sequence b q k.0) same ∙ sym k.2)

  mutual
    walk_idle : (s t : V × Body) (q : ℕ) (e : Extent) → Spent s.0 → Walks step s q e t → Ends Spent e t.0 →
        (t.0 ≡ s.0) × (t.1 ≡ s.1)
    walk_idle s t q e spent (goes_on a m b p f v h) end =
        let d = block_idle s m q Full spent v tt in
        let g = walks_idle m t (last_first_of m.1 q) e (subst Spent (sym d.0) spent) h end in
        (g.0 ∙ d.0, g.1 ∙ d.1)
    walk_idle s t q Partial spent (stops a b p v) end = block_idle s t q Partial spent v end

    walks_idle : (s t : V × Body) (qs : List ℕ) (e : Extent) → Spent s.0 → WalksAll step s qs e t →
        Ends Spent e t.0 → (t.0 ≡ s.0) × (t.1 ≡ s.1)
    walks_idle s t [] e spent (none a f) end = (refl, refl)
    walks_idle s t (q ∷ qs) e spent (next a m b p ps f w h) end =
        let d = walk_idle s m q Full spent w tt in
        let g = walks_idle m t qs e (subst Spent (sym d.0) spent) h end in
        (g.0 ∙ d.0, g.1 ∙ d.1)
    walks_idle s t (q ∷ qs) Partial spent (stops_in a b p ps w) end = walk_idle s t q Partial spent w end

  mutual
    walk_agree : (s r : V × Body) (q : ℕ) (e f : Extent) (t o : V × Body) → R s.0 r.0 → s.1 ≡ r.1 →
        Walks step s q e t → Walks step r q f o → Ends Spent e t.0 → Ends Spent f o.0 → R t.0 o.0
        × (t.1 ≡ o.1)
    walk_agree s r q e f t o rel same (goes_on a m b p x v h) (goes_on a2 n b2 p2 x2 v2 k) end last =
        let d = block_agree s r q Full Full m n rel same v v2 tt tt in
        let F : Body → Type 0 = λ g. WalksAll step n (last_first_of g q) f o in
        walks_agree m n (last_first_of m.1 q) e f t o d.0 d.1 h (subst F (sym d.1) k) end last
    walk_agree s r q e Partial t o rel same (goes_on a m b p x v h) (stops a2 b2 p2 v2) end last =
        let d = block_agree s r q Full Partial m o rel same v v2 tt last in
        let g = walks_idle m t (last_first_of m.1 q) e (like.left m.0 o.0 d.0 last) h end in
        (related m.0 o.0 t.0 o.0 g.0 refl d.0, g.1 ∙ d.1)
    walk_agree s r q Partial f t o rel same (stops a b p v) (goes_on a2 n b2 p2 x2 v2 k) end last =
        let d = block_agree s r q Partial Full t n rel same v v2 end tt in
        let g = walks_idle n o (last_first_of n.1 q) f (like.right t.0 n.0 d.0 end) k last in
        (related t.0 n.0 t.0 o.0 refl g.0 d.0, d.1 ∙ sym g.1)
    walk_agree s r q Partial Partial t o rel same (stops a b p v) (stops a2 b2 p2 v2) end last =
        block_agree s r q Partial Partial t o rel same v v2 end last

    walks_agree : (s r : V × Body) (qs : List ℕ) (e f : Extent) (t o : V × Body) → R s.0 r.0 → s.1 ≡ r.1 →
        WalksAll step s qs e t → WalksAll step r qs f o → Ends Spent e t.0 → Ends Spent f o.0 → R t.0 o.0
        × (t.1 ≡ o.1)
    walks_agree s r [] e f t o rel same (none a x) (none a2 x2) end last = (rel, same)
    walks_agree s r (q ∷ qs) e f t o rel same (next a m b p ps x w h) (next a2 n b2 p2 ps2 x2 w2 k) end last =
        let d = walk_agree s r q Full Full m n rel same w w2 tt tt in
        walks_agree m n qs e f t o d.0 d.1 h k end last
    walks_agree s r (q ∷ qs) e Partial t o rel same (next a m b p ps x w h) (stops_in a2 b2 p2 ps2 w2) end
        last =
        let d = walk_agree s r q Full Partial m o rel same w w2 tt last in
        let g = walks_idle m t qs e (like.left m.0 o.0 d.0 last) h end in
        (related m.0 o.0 t.0 o.0 g.0 refl d.0, g.1 ∙ d.1)
    walks_agree s r (q ∷ qs) Partial f t o rel same (stops_in a b p ps w) (next a2 n b2 p2 ps2 x2 w2 k) end
        last =
        let d = walk_agree s r q Partial Full t n rel same w w2 end tt in
        let g = walks_idle n o qs f (like.right t.0 n.0 d.0 end) k last in
        (related t.0 n.0 t.0 o.0 refl g.0 d.0, d.1 ∙ sym g.1)
    walks_agree s r (q ∷ qs) Partial Partial t o rel same (stops_in a b p ps w) (stops_in a2 b2 p2 ps2 w2) end
        last =
        walk_agree s r q Partial Partial t o rel same w w2 end last

abbrev Same : {V : Type 0} → V → V → Type 0
Same v r = v ≡ r

-- equal visitors, whose steps are functions
same_alike : {V : Type 0} (step : StepRelation V) (Spent : V → Type 0) → IsFunction step →
    ((hook : Hook) (v : V) (x : Given hook) (w : V) (y : Given hook) → Spent v → step hook v x w y → ⊥) →
    Alike step Same Spent
same_alike {V} step Spent is stuck = record {
  steps = λ hook v r x w y u z e h k. is hook r x w y u z (subst (λ (t : V). step hook t x w y) e h) k;
  stuck = stuck;
  left = λ v r e s. subst Spent (sym e) s;
  right = λ v r e s. subst Spent e s;
}

module _ {V : Type 0} (step : StepRelation V) (is : IsFunction step) where
  pub walk_unique : (s t u : V × Body) (q : ℕ) → Walks step s q Full t → Walks step s q Full u → t ≡ u
  walk_unique s t u q h k =
      let like = same_alike step (λ v. ⊥) is (λ hook v x w y no h. no) in
      let d = walk_agree step Same (λ v. ⊥) like s s q Full Full t u refl refl h k tt tt in
      pair_of u t.0 t.1 d.0 d.1

  budget_function : IsFunction (with_budget step)
  budget_function hook v x w y u z h k =
      let d = is hook v.0 x w.0 y u.0 z h.0 k.0 in
      let a = h.1 in
      let b = k.1 in
      let e : w.1 ≡ u.1 = omega arith in
      (pair_of u w.0 w.1 d.0 e, d.1)

  -- a walk that is cut where its budget is spent
  pub cut_unique : (k : ℕ) (s t u : V × Body) (q : ℕ) → CutWalk step k s q t → CutWalk step k s q u → t ≡ u
  cut_unique k s t u q h j =
      let Spent : V × ℕ → Type 0 = λ v. v.1 ≡ 0 in
      let like = same_alike (with_budget step) Spent budget_function (λ hook v x w y e h. let a = h.1 in
      omega (arith, e, a)) in
      let d = walk_agree (with_budget step) Same Spent like ((s.0, k), s.1) ((s.0, k), s.1) q Partial Partial
      ((t.0, 0), t.1) ((u.0, 0), u.1) refl refl h j refl refl in
      pair_of u t.0 t.1 (ap (λ p. p.0) d.0) d.1

  -- the same visitor with so much more to spend
  abbrev More : ℕ → V × ℕ → V × ℕ → Type 0
  More n v r = (v.0 ≡ r.0) × (r.1 ≡ v.1 + n)

  more_alike : (n : ℕ) → Alike (with_budget step) (More n) (λ v. ⊥)
  more_alike n = record {
    steps = λ hook v r x w y u z e h k.
        let d = is hook v.0 x w.0 y u.0 z h.0 (subst (λ (t : V). step hook t x u.0 z) (sym e.0) k.0) in
        let a = h.1 in
        let b = k.1 in
        let g = e.1 in
        ((d.0, omega arith), d.1);
    stuck = λ hook v x w y no h. no;
    left = λ v r e no. no;
    right = λ v r e no. no;
  }

  fewer_unique : (k l : ℕ) → k ≤ l → (s t u : V × Body) (q : ℕ) → CountedWalk step k s q t →
      CountedWalk step l s q u → (k ≡ l) × (t ≡ u)
  fewer_unique k l le s t u q h j =
      let e : l ≡ k + (l - k) = omega arith in
      let d = walk_agree (with_budget step) (More (l - k)) (λ v. ⊥) (more_alike (l - k)) ((s.0, k), s.1)
      ((s.0, l), s.1) q Full Full ((t.0, 0), t.1) ((u.0, 0), u.1) (refl, e) refl h j tt tt in
      let a : 0 ≡ 0 + (l - k) = d.0.1 in
      (omega arith, pair_of u t.0 t.1 d.0.0 d.1)

  pub count_unique : (k l : ℕ) (s t u : V × Body) (q : ℕ) → CountedWalk step k s q t →
      CountedWalk step l s q u → (k ≡ l) × (t ≡ u)
  count_unique k l s t u q h j = elim (cases_lt k l) [
    | inl a ↦ fewer_unique k l (omega arith) s t u q h j
    | inr a ↦ (let d = fewer_unique l k (omega arith) s u t q j h in (sym d.0, sym d.1))
  ]
