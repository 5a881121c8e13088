-- The hook calls of a walk can be counted.
use Rattle.std.proofs.Common.{ℕ, suc, inl, inr, List, [], ◌∷◌, refl, ap}
use Rattle.walrus_ir.specs.Calls.{Calls, leaves, call, Extent, Full, Partial, StepRelation, Visits}
use Rattle.walrus_ir.specs.Fields.{sequence_calls}
use Rattle.walrus_functions.specs.Body.{Body, sequence}
use Rattle.walrus_traversals_mut.specs.Counting.{with_budget, CutWalk, CountedWalk}
use Rattle.walrus_traversals_mut.specs.Walks.{VisitsBlock, Walks, WalksAll, goes_on, stops, none, next, stops_in, last_first_of}

module _ {V : Type 0} (step : StepRelation V) where
  -- what is visited with m left of a budget was begun with some budget
  visits_counted : {A : Type 0} (t : Calls A) (v : V) (e : Extent) (w : V) (y : A) →
      Visits step v t e w y → (m : ℕ) → (n : ℕ) × Visits (with_budget step) (v, n) t e (w, m) y
  visits_counted (leaves x) v e w y h m = (m, (ap (λ u. (u, m)) h.0, h.1))
  visits_counted (call hook x rest) v Full w y h m =
      let a = visits_counted (rest h.1) h.0 Full w y h.3 m in
      (suc a.0, ((h.0, a.0), h.1, (h.2, refl), a.1))
  visits_counted (call hook x rest) v Partial w y h m = elim h [
    | inl k ↦ (m, inl (ap (λ u. (u, m)) k.0, k.1))
    | inr k ↦ (let a = visits_counted (rest k.1) k.0 Partial w y k.3 m in
        (suc a.0, inr ((k.0, a.0), k.1, (k.2, refl), a.1)))
  ]

  block_counts : (s t : V × Body) (q : ℕ) (e : Extent) → VisitsBlock step s q e t → (m : ℕ) → (n : ℕ)
      × VisitsBlock (with_budget step) ((s.0, n), s.1) q e ((t.0, m), t.1)
  block_counts s t q e h m =
      let a = visits_counted (sequence_calls (sequence s.1 q)) s.0 e t.0 h.0 h.1 m in (a.0, (h.0, a.1, h.2))

  mutual
    walk_counts : (s t : V × Body) (q : ℕ) (e : Extent) → Walks step s q e t → (m : ℕ) → (n : ℕ)
        × Walks (with_budget step) ((s.0, n), s.1) q e ((t.0, m), t.1)
    walk_counts s t q e (goes_on a k b p f v r) m =
        let y = walks_count k t (last_first_of k.1 q) e r m in
        let x = block_counts s k q Full v y.0 in
        (x.0, goes_on ((s.0, x.0), s.1) ((k.0, y.0), k.1) ((t.0, m), t.1) q e x.1 y.1)
    walk_counts s t q Partial (stops a b p v) m =
        let x = block_counts s t q Partial v m in
        (x.0, stops ((s.0, x.0), s.1) ((t.0, m), t.1) q x.1)

    walks_count : (s t : V × Body) (qs : List ℕ) (e : Extent) → WalksAll step s qs e t → (m : ℕ) → (n : ℕ)
        × WalksAll (with_budget step) ((s.0, n), s.1) qs e ((t.0, m), t.1)
    walks_count s t [] e (none a f) m = (m, none ((s.0, m), s.1) e)
    walks_count s t (q ∷ qs) e (next a k b p ps f w r) m =
        let y = walks_count k t qs e r m in
        let x = walk_counts s k q Full w y.0 in
        (x.0, next ((s.0, x.0), s.1) ((k.0, y.0), k.1) ((t.0, m), t.1) q qs e x.1 y.1)
    walks_count s t (q ∷ qs) Partial (stops_in a b p ps w) m =
        let x = walk_counts s t q Partial w m in
        (x.0, stops_in ((s.0, x.0), s.1) ((t.0, m), t.1) q qs x.1)

  pub cut_walk : (s t : V × Body) (q : ℕ) → Walks step s q Partial t → (k : ℕ) × CutWalk step k s q t
  cut_walk s t q h = walk_counts s t q Partial h 0

  pub counted_walk : (s t : V × Body) (q : ℕ) → Walks step s q Full t → (k : ℕ) × CountedWalk step k s q t
  counted_walk s t q h = walk_counts s t q Full h 0
