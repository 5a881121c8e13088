-- A nested sequence has a full walk, where the visitor has a step at each hook.
use Rattle.std.proofs.Common.{ℕ, zero, suc, List, [], ◌∷◌, refl}
use Rattle.std.specs.List.{AllByRecursion}
use Rattle.walrus_ir.specs.Calls.{Calls, leaves, call, Full, StepRelation, Visits}
use Rattle.walrus_ir.specs.Fields.{sequence_calls}
use Rattle.walrus_functions.specs.Body.{Body, sequence, with_sequence}
use Rattle.walrus_functions.specs.Nesting.{IsNested}
use Rattle.walrus_traversals_mut.specs.Premises.{KeepsNesting, HasSteps}
use Rattle.walrus_traversals_mut.specs.Steps.{SameNesting, Within, depth, keeping}
use Rattle.walrus_traversals_mut.specs.Walks.{VisitsBlock, Walks, WalksAll, goes_on, none, next, last_first_of}
use Rattle.walrus_traversals_mut.proofs.Depths.{within_from_nested, within_same, below_within}
use Rattle.walrus_traversals_mut.proofs.Keeping.{nesting_same, nesting_both}
use Rattle.walrus_traversals_mut.proofs.Kept.{block_visited, block_keeps}
use Rattle.walrus_traversals_mut.proofs.Members.{all_weaker}

module _ {V : Type 0} (step : StepRelation V) (has : HasSteps step) (keeps : KeepsNesting step) where
  visits_go : {A : Type 0} (t : Calls A) (v : V) → (w : V) × (y : A) × Visits (keeping step) v t Full w y
  visits_go (leaves x) v = (v, x, (refl, refl))
  visits_go (call hook x rest) v =
      let a = has hook v x in
      let b = visits_go (rest a.1) a.0 in
      (b.0, b.1, (a.0, a.1, (a.2, keeps hook v x a.0 a.1 a.2), b.2))

  block_goes : (s : V × Body) (q : ℕ) → (m : V × Body) × VisitsBlock step s q Full m × SameNesting s.1 m.1
  block_goes s q =
      let a = visits_go (sequence_calls (sequence s.1 q)) s.0 in
      let m : V × Body = (a.0, with_sequence s.1 q a.1) in
      let h : VisitsBlock (keeping step) s q Full m = (a.1, a.2, refl) in
      (m, block_visited step s m q Full h, block_keeps step s m q Full h)

  -- a walk from here, over these that lie within n levels
  abbrev Entered : ℕ → Type 0
  Entered n = (s : V × Body) (q : ℕ) → Within s.1 n q → (t : V × Body) × Walks step s q Full t
      × SameNesting s.1 t.1

  walks_go : (n : ℕ) → Entered n → (s : V × Body) (qs : List ℕ) → AllByRecursion (Within s.1 n) qs →
      (t : V × Body) × WalksAll step s qs Full t × SameNesting s.1 t.1
  walks_go n enter s [] h = (s, none s Full, nesting_same s.1)
  walks_go n enter s (q ∷ qs) h =
      let a = enter s q h.0 in
      let r = walks_go n enter a.0 qs (all_weaker (Within s.1 n) (Within a.0.1 n) qs
      (within_same s.1 a.0.1 a.2 n) h.1) in
      (r.0, next s a.0 r.0 q qs Full a.1 r.1, nesting_both s.1 a.0.1 r.0.1 a.2 r.2)

  walk_goes : (n : ℕ) → Entered n
  unfolding Within
  walk_goes zero s q h = absurd h
  walk_goes (suc n) s q h =
      let b = block_goes s q in
      let below = below_within b.0.1 n q (within_same s.1 b.0.1 b.2 (suc n) q h) in
      let r = walks_go n (walk_goes n) b.0 (last_first_of b.0.1 q) below in
      (r.0, goes_on s b.0 r.0 q Full b.1 r.1, nesting_both s.1 b.0.1 r.0.1 b.2 r.2)

  pub full_walk : (s : V × Body) (q : ℕ) → IsNested s.1 q → (t : V × Body) × Walks step s q Full t
  full_walk s q h = let a = walk_goes (depth s.1) s q (within_from_nested s.1 q h) in (a.0, a.1)
