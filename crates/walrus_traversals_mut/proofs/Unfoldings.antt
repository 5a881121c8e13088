-- The unfolding of a body visits what is reached, and depends on the nesting alone.
use Rattle.std.proofs.Common.{◌≡◌, ℕ, inl, inr, List, [], ◌∷◌, ◌++◌, refl, sym, ap, ◌∙◌, subst}
use Rattle.walrus_functions.specs.Body.{Body}
use Rattle.walrus_functions.specs.Nesting.{IsChild, IsReachable, at_start, below}
use Rattle.walrus_traversals_mut.specs.Steps.{SameNesting}
use Rattle.walrus_traversals_mut.specs.Unfolding.{Unfolds, UnfoldsAll, then_below, no_child, then_rest}
use Rattle.walrus_traversals_mut.specs.Walks.{last_first_of}
use Rattle.walrus_traversals_mut.proofs.Members.{Member, member_parts, member_left, member_right, child_from_last_first, last_first_from_child}

module _ (f g : Body) (same : SameNesting f g) where
  mutual
    pub same_unfolding : (q : ℕ) (vs : List ℕ) → Unfolds g q vs → Unfolds f q vs
    same_unfolding q _ (then_below a vs h) =
        let F : List ℕ → Type 0 = λ l. UnfoldsAll f l vs in
        then_below q vs (subst F (same.children q) (same_unfoldings (last_first_of g q) vs h))

    pub same_unfoldings : (qs vs : List ℕ) → UnfoldsAll g qs vs → UnfoldsAll f qs vs
    same_unfoldings [] _ no_child = no_child
    same_unfoldings (q ∷ qs) _ (then_rest a b vs os h k) =
        then_rest q qs vs os (same_unfolding q vs h) (same_unfoldings qs os k)

module _ (f : Body) where
  mutual
    pub unfolding_unique : (q : ℕ) (vs ws : List ℕ) → Unfolds f q vs → Unfolds f q ws → vs ≡ ws
    unfolding_unique q _ _ (then_below a vs h) (then_below b ws k) =
        ap (λ l. q ∷ l) (unfoldings_unique (last_first_of f q) vs ws h k)

    unfoldings_unique : (qs vs ws : List ℕ) → UnfoldsAll f qs vs → UnfoldsAll f qs ws → vs ≡ ws
    unfoldings_unique [] _ _ no_child no_child = refl
    unfoldings_unique (q ∷ qs) _ _ (then_rest a b vs os h k) (then_rest c d ws ps i l) =
        ap (λ x. x ++ os) (unfolding_unique q vs ws h i) ∙ ap (λ x. ws ++ x) (unfoldings_unique qs os ps k l)

  module _ (start : ℕ) where
    mutual
      visit_reached : (q : ℕ) (vs : List ℕ) → Unfolds f q vs → IsReachable f start q → (c : ℕ) → Member c vs →
          IsReachable f start c
      visit_reached q _ (then_below a vs h) r c m = elim m [
        | inl e ↦ subst (IsReachable f start) (sym e) r
        | inr n ↦ visits_reached (last_first_of f q) vs h (λ d k.
            below q d r (child_from_last_first f q d k)) c n
      ]

      visits_reached : (qs vs : List ℕ) → UnfoldsAll f qs vs →
          ((d : ℕ) → Member d qs → IsReachable f start d) → (c : ℕ) → Member c vs → IsReachable f start c
      visits_reached [] _ no_child r c m = absurd m
      visits_reached (q ∷ qs) _ (then_rest a b vs os h k) r c m = elim (member_parts c vs os m) [
        | inl n ↦ visit_reached q vs h (r q (inl refl)) c n
        | inr n ↦ visits_reached qs os k (λ d x. r d (inr x)) c n
      ]

  first_visited : (q : ℕ) (vs : List ℕ) → Unfolds f q vs → Member q vs
  first_visited q _ (then_below a vs h) = inl refl

  all_visited : (qs vs : List ℕ) → UnfoldsAll f qs vs → (c : ℕ) → Member c qs → Member c vs
  all_visited [] _ no_child c m = m
  all_visited (q ∷ qs) _ (then_rest a b vs os h k) c m = elim m [
    | inl e ↦ member_left c vs os (subst (λ (x : ℕ). Member x vs) (sym e) (first_visited q vs h))
    | inr n ↦ member_right c vs os (all_visited qs os k c n)
  ]

  mutual
    child_visited : (q : ℕ) (vs : List ℕ) → Unfolds f q vs → (p c : ℕ) → Member p vs → IsChild f p c →
        Member c vs
    child_visited q _ (then_below a vs h) p c m i = elim m [
      | inl e ↦ inr (all_visited (last_first_of f q) vs h c
          (last_first_from_child f q c (let F : ℕ → Type 0 = λ x. IsChild f x c in subst F e i)))
      | inr n ↦ inr (children_visited (last_first_of f q) vs h p c n i)
    ]

    children_visited : (qs vs : List ℕ) → UnfoldsAll f qs vs → (p c : ℕ) → Member p vs → IsChild f p c →
        Member c vs
    children_visited [] _ no_child p c m i = absurd m
    children_visited (q ∷ qs) _ (then_rest a b vs os h k) p c m i = elim (member_parts p vs os m) [
      | inl n ↦ member_left c vs os (child_visited q vs h p c n i)
      | inr n ↦ member_right c vs os (children_visited qs os k p c n i)
    ]

  -- what is visited is reached
  pub reached_from_visited : (start : ℕ) (vs : List ℕ) → Unfolds f start vs → (c : ℕ) → Member c vs →
      IsReachable f start c
  reached_from_visited start vs h c m = visit_reached start start vs h at_start c m

  -- what is reached is visited
  pub visited_from_reached : (start : ℕ) (vs : List ℕ) → Unfolds f start vs → (c : ℕ) →
      IsReachable f start c → Member c vs
  visited_from_reached start vs h _ at_start = first_visited start vs h
  visited_from_reached start vs h _ (below p c r i) =
      child_visited start vs h p c (visited_from_reached start vs h p r) i
