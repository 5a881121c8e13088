-- What the rest of the stack does, after what was done, is the whole walk.
use Rattle.std.proofs.Common.{◌≡◌, ℕ, suc, ◌⊎◌, inl, inr, List, [], ◌∷◌, ◌++◌, length, refl, sym, ap, subst}
use Rattle.std.specs.List.{AllByRecursion}
use Rattle.walrus_ir.specs.Calls.{Extent, Full, Partial, StepRelation}
use Rattle.walrus_ir.proofs.Calls.{sequence_whole}
use Rattle.walrus_functions.specs.Body.{Body, Knows, sequence}
use Rattle.walrus_functions.specs.Nesting.{IsNested}
use Rattle.walrus_traversals_mut.specs.Steps.{SameNesting, Within, depth, keeping}
use Rattle.walrus_traversals_mut.specs.Walks.{VisitsBlock, Walks, WalksAll, goes_on, stops, none, next, stops_in, last_first_of}
use Rattle.walrus_traversals_mut.proofs.Bodies.{same_write}
use Rattle.walrus_traversals_mut.proofs.Keeping.{nesting_same, nesting_both, nested_after}
use Rattle.walrus_traversals_mut.proofs.Kept.{block_visited, block_keeps}
use Rattle.walrus_traversals_mut.proofs.Depths.{within_from_nested, within_same, still_within, known_within, below_within}
use Rattle.walrus_traversals_mut.proofs.Members.{all_append, all_weaker}

module _ {V : Type 0} (step : StepRelation V) where
  -- what walks two lists walks the one and then the other, or stops in the one
  pub split : (s t : V × Body) (extent : Extent) (qs rs : List ℕ) → WalksAll step s (qs ++ rs) extent t →
      ((m : V × Body) × WalksAll step s qs Full m × WalksAll step m rs extent t)
      ⊎ (WalksAll step s qs Partial t × (extent ≡ Partial))
  split s t extent [] rs h = inl (s, none s Full, h)
  split s t extent (q ∷ qs) rs (next a m b p ps e w r) = elim (split m t extent qs rs r) [
    | inl k ↦ inl (k.0, next s m k.0 q qs Full w k.1, k.2)
    | inr k ↦ inr (next s m t q qs Partial w k.0, k.1)
  ]
  split s t extent (q ∷ qs) rs (stops_in a b p ps w) = inr (stops_in s t q qs w, refl)

  -- a sequence is visited: its children come before the rest
  pub walk_on : (s m t : V × Body) (extent : Extent) (q : ℕ) (rest : List ℕ) → VisitsBlock step s q Full m →
      WalksAll step m (last_first_of m.1 q ++ rest) extent t → WalksAll step s (q ∷ rest) extent t
  walk_on s m t extent q rest v h = elim (split m t extent (last_first_of m.1 q) rest h) [
    | inl k ↦ next s k.0 t q rest extent (goes_on s m k.0 q Full v k.1) k.2
    | inr k ↦ (let F : Extent → Type 0 = λ e. WalksAll step s (q ∷ rest) e t in
        subst F (sym k.1) (stops_in s t q rest (goes_on s m t q Partial v k.0)))
  ]

  -- a whole walk is one that was begun
  pub all_begun : (s t : V × Body) (qs : List ℕ) → WalksAll step s qs Full t → WalksAll step s qs Partial t
  all_begun s t [] (none a e) = none s Partial
  all_begun s t (q ∷ qs) (next a m b p ps e w r) = next s m t q qs Partial w (all_begun m t qs r)

  pub to_extent : (s t : V × Body) (q : ℕ) (extent : Extent) → Walks step s q Full t → Walks step s q extent t
  to_extent s t q Full h = h
  to_extent s t q Partial (goes_on a m b p e v r) =
      goes_on s m t q Partial v (all_begun m t (last_first_of m.1 q) r)

  at_end : (s m t : V × Body) (q : ℕ) (extent : Extent) → Walks step s q Full m →
      WalksAll step m [] extent t → Walks step s q extent t
  at_end s m t q extent w (none a e) = to_extent s t q extent w

  pub alone : (s t : V × Body) (q : ℕ) (extent : Extent) → WalksAll step s (q ∷ []) extent t →
      Walks step s q extent t
  alone s t q extent (next a m b p ps e w r) = at_end s m t q extent w r
  alone s t q extent (stops_in a b p ps w) = w

  -- nothing is done
  pub none_done : (s : V × Body) (q : ℕ) → VisitsBlock step s q Partial s
  none_done s q = (sequence s.1 q, inl (refl, sym (sequence_whole (sequence s.1 q))), sym (same_write s.1 q))

  -- between two visits: walking what is pending from here ends the walk of all, it is nested, and the
  -- nesting is that of the start
  pub record Pending (s0 : V × Body) (start : ℕ) (s : V × Body) (pending : List ℕ) : Type 0 where
    pub rest : (extent : Extent) (t : V × Body) → WalksAll step s pending extent t →
        Walks step s0 start extent t
    pub within : AllByRecursion (Within s.1 (depth s.1)) pending
    pub same : SameNesting s0.1 s.1

  module _ (s0 : V × Body) (start : ℕ) where
    pub begin : IsNested s0.1 start → Pending s0 start s0 (start ∷ [])
    begin h = record {
      rest = λ extent t k. alone s0 t start extent k;
      within = (within_from_nested s0.1 start h, tt);
      same = nesting_same s0.1;
    }

    pub go_on : (s m : V × Body) (q : ℕ) (rest : List ℕ) → Pending s0 start s (q ∷ rest) →
        VisitsBlock (keeping step) s q Full m → Pending s0 start m (last_first_of m.1 q ++ rest)
    go_on s m q rest p v =
        let same = block_keeps step s m q Full v in
        let n : ℕ = length s.1.seqs in
        let size : depth m.1 ≡ depth s.1 = ap suc same.count in
        let F : ℕ → Type 0 = λ k. AllByRecursion (Within m.1 k) (last_first_of m.1 q ++ rest) in
        let G : List ℕ → Type 0 = λ l. AllByRecursion (Within m.1 (suc n)) l in
        let here = all_weaker (Within s.1 n) (Within m.1 (suc n)) (last_first_of s.1 q) (λ c h.
        within_same s.1 m.1 same (suc n) c (still_within s.1 n c h)) (below_within s.1 n q p.within.0) in
        let there = all_weaker (Within s.1 (suc n)) (Within m.1 (suc n)) rest
        (within_same s.1 m.1 same (suc n)) p.within.1 in
        record {
          rest = λ extent t k. p.rest extent t (walk_on s m t extent q rest
              (block_visited step s m q Full v) k);
          within = subst F (sym size) (all_append (Within m.1 (suc n)) (last_first_of m.1 q) rest
              (subst G (sym (same.children q)) here) there);
          same = nesting_both s0.1 s.1 m.1 p.same same;
        }

    -- the body is still nested, before and after a visit
    pub nested_now : (s : V × Body) (pending : List ℕ) → IsNested s0.1 start → Pending s0 start s pending →
        IsNested s.1 start
    nested_now s pending h p = nested_after s0.1 s.1 p.same start h

    pub nested_then : (s m : V × Body) (pending : List ℕ) (q : ℕ) (e : Extent) → IsNested s0.1 start →
        Pending s0 start s pending → VisitsBlock (keeping step) s q e m → IsNested m.1 start
    nested_then s m pending q e h p v =
        nested_after s.1 m.1 (block_keeps step s m q e v) start (nested_now s pending h p)

    pub ended : (s : V × Body) → Pending s0 start s [] → Walks step s0 start Full s
    ended s p = p.rest Full s (none s Full)

    -- a hook refuses
    pub refused : (s t : V × Body) (q : ℕ) (rest : List ℕ) → Pending s0 start s (q ∷ rest) →
        VisitsBlock (keeping step) s q Partial t → Walks step s0 start Partial t
    refused s t q rest p v =
        p.rest Partial t (stops_in s t q rest (stops s t q (block_visited step s t q Partial v)))

    pub pending_is : (s : V × Body) (pending l : List ℕ) → pending ≡ l → Pending s0 start s pending →
        Pending s0 start s l
    pending_is s pending l e p = subst (λ (x : List ℕ). Pending s0 start s x) e p

    pub top_known : (s : V × Body) (q : ℕ) (rest : List ℕ) → Pending s0 start s (q ∷ rest) → Knows s.1 q
    top_known s q rest p = known_within s.1 (depth s.1) q p.within.0

  -- before the first visit
  pub not_begun : (s : V × Body) (start : ℕ) → Walks step s start Partial s
  not_begun s start = stops s s start (none_done s start)
