-- A list shows a rank; a cycle or an unknown id shows that there is none.
use Rattle.std.proofs.Common.{◌≡◌, ℕ, zero, suc, ◌+◌, ◌-◌, ◌≤◌, ◌↔◌, Bool, true, false, cond, eqb, List, [], ◌∷◌, length, refl, sym, ap, subst, ◌∙◌, arith, Some, slice_get}
use Rattle.std.proofs.lemmas.Bool.{eqb-true, eq-eqb}
use Rattle.std.proofs.lemmas.Option.{slice_get_within}
use Rattle.walrus_functions.specs.Body.{Body, Knows}
use Rattle.walrus_functions.specs.Nesting.{IsReachable, at_start, below, IsRank, IsNested}
use Rattle.walrus_nesting.specs.Certificates.{ShowsNested, IsPath, ShowsCycle, ShowsUnknown, Shows, SaysNested}
use Rattle.walrus_nesting.specs.declared.nesting.Nesting.{Nesting}
use Rattle.walrus_nesting.specs.declared.nesting.Nesting.TheVariants.{Nested, Cycle, Unknown}
use Rattle.walrus_nesting.proofs.Lists.{get_from_contains, all_at, get_at, once_from_distinct}

-- the first place of an id in a list
abbrev place_in : List ℕ → ℕ → ℕ
place_in [] id = 0
place_in (x ∷ xs) id = cond (eqb x id) 0 (suc (place_in xs id))

place_there : (xs : List ℕ) (i id : ℕ) → slice_get xs i ≡ Some id → slice_get xs (place_in xs id) ≡ Some id
place_there [] i id h = absurd (cc)
place_there (x ∷ xs) zero id h =
    let e : x ≡ id = cc in
    let b : eqb x id ≡ true = eq-eqb x id e in
    subst (λ (t : Bool). slice_get (x ∷ xs) (cond t 0 (suc (place_in xs id))) ≡ Some id) (sym b) h
place_there (x ∷ xs) (suc i) id h =
    let there = place_there xs i id h in
    elim (eqb x id) as (λ b. b ≡ eqb x id → slice_get (x ∷ xs) (cond b 0 (suc (place_in xs id))) ≡ Some id) [
      | true ↦ λ e. ap (λ (y : ℕ). Some y) (eqb-true x id (sym e))
      | false ↦ λ e. there
    ] refl

module _ (f : Body) (start : ℕ) where
  place_is : (list : List ℕ) → ShowsNested f start list → (i id : ℕ) → slice_get list i ≡ Some id → place_in
      list id ≡ i
  place_is list s i id h = once_from_distinct list s.once (place_in list id) i id (place_there list i id h) h

  rank_from_list : (list : List ℕ) → ShowsNested f start list → IsRank f start (place_in list)
  rank_from_list list s = record {
    known = λ id r. let at = get_from_contains list id ((s.reached id).1 r) in
        all_at (Knows f) list at.0 id s.known at.1;
    falls = λ parent child r c.
        let at = get_from_contains list parent ((s.reached parent).1 r) in
        let first = s.children_first at.0 parent child at.1 c in
        let e = place_is list s at.0 parent at.1 in
        let g = place_is list s first.0 child first.2 in
        let b = first.1 in omega arith;
  }

  -- all on a path is reached
  pub path_reached : (path : List ℕ) → IsPath f start path → (i id : ℕ) → slice_get path i ≡ Some id →
      IsReachable f start id
  path_reached path p zero id h = let e : start ≡ id = (let b = p.begins in cc) in
      subst (IsReachable f start) e at_start
  path_reached path p (suc i) id h =
      let at = get_at path i (let w = slice_get_within path (suc i) id h in omega arith) in
      below at.0 id (path_reached path p i at.0 at.1) (p.children i at.0 id at.1 h)

  -- ranks fall along a path
  rank_falls : (rank : ℕ → ℕ) → IsRank f start rank → (path : List ℕ) → IsPath f start path → (b first : ℕ) →
      slice_get path b ≡ Some first → (n last : ℕ) → slice_get path (b + n) ≡ Some last →
      rank last ≤ rank first
  rank_falls rank r path p b first h zero last k =
      let e : b + 0 ≡ b = omega arith in
      let k' : slice_get path b ≡ Some last = subst (λ (i : ℕ). slice_get path i ≡ Some last) e k in
      let g : first ≡ last = cc in
      subst (λ (x : ℕ). rank x ≤ rank first) g (omega arith)
  rank_falls rank r path p b first h (suc n) last k =
      let e : b + suc n ≡ suc (b + n) = omega arith in
      let k' : slice_get path (suc (b + n)) ≡ Some last =
      subst (λ (i : ℕ). slice_get path i ≡ Some last) e k in
      let at = get_at path (b + n) (let w = slice_get_within path (suc (b + n)) last k' in omega arith) in
      let before = rank_falls rank r path p b first h n at.0 at.1 in
      let less = r.falls at.0 last (path_reached path p (b + n) at.0 at.1)
      (p.children (b + n) at.0 last at.1 k') in
      omega arith

  no_rank_on_cycle : (path : List ℕ) (back_to : ℕ) → ShowsCycle f start path back_to → IsNested f start → ⊥
  no_rank_on_cycle path back_to s n =
      let rank = n.0 in
      let within = s.within in
      let last = get_at path (length path - 1) (omega arith) in
      let first = get_at path back_to within in
      let steps : back_to + (length path - 1 - back_to) ≡ length path - 1 = omega arith in
      let there : slice_get path (back_to + (length path - 1 - back_to)) ≡ Some last.0 =
      ap (slice_get path) steps ∙ last.1 in
      let low = rank_falls rank n.1 path s.is_path back_to first.0 first.1 (length path - 1 - back_to) last.0
      there in
      let less = n.1.falls last.0 first.0 (path_reached path s.is_path (length path - 1) last.0 last.1)
      (s.back last.0 first.0 last.1 first.1) in
      omega arith

  no_rank_beside_unknown : (path : List ℕ) → ShowsUnknown f start path → IsNested f start → ⊥
  no_rank_beside_unknown path s n =
      let some = slice_get_within path 0 start s.is_path.begins in
      let last = get_at path (length path - 1) (omega arith) in
      let reached = path_reached path s.is_path (length path - 1) last.0 last.1 in
      let past = (s.last_alone (length path - 1) last.0 last.1).0 (n.1.known last.0 reached) in
      omega arith

  pub nested_exactly : (verdict : Nesting) → Shows f start verdict → SaysNested verdict ↔ IsNested f start
  nested_exactly (Nested list) s = (λ _. (place_in list.items, rank_from_list list.items s), λ _. tt)
  nested_exactly (Cycle path back_to) s = (λ h. absurd h, no_rank_on_cycle path.items back_to s)
  nested_exactly (Unknown path) s = (λ h. absurd h, no_rank_beside_unknown path.items s)

-- what is reached from a child is reached
reached_on : (f : Body) (start child : ℕ) →
    IsReachable f start child → (id : ℕ) → IsReachable f child id → IsReachable f start id
reached_on f start child r id at_start = r
reached_on f start child r id (below parent c s k) = below parent id (reached_on f start child r parent s) k

-- a body is nested from each sequence that it reaches
pub nested_below : (f : Body) (start id : ℕ) → IsNested f start → IsReachable f start id → IsNested f id
nested_below f start id n r = (
  n.0,
  record {
    known = λ x s. n.1.known x (reached_on f start id r x s);
    falls = λ parent child s c. n.1.falls parent child (reached_on f start id r parent s) c;
  },
)
