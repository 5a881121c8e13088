-- Visits keep the nesting.
use Rattle.std.proofs.lemmas.List.{reverse-append, append-nil}
use Rattle.std.proofs.lemmas.List.Concat.{flat_map-append}
use Rattle.std.proofs.Common.{◌≡◌, ℕ, List, [], ◌∷◌, ◌++◌, map, reverse, refl, sym, ap, ◌∙◌, subst, flat_map}
use Rattle.ir_instr.specs.Sequence.{Sequence}
use Rattle.ir_instr.specs.declared.instr.Instr.{Instr}
use Rattle.walrus_functions.specs.Body.{Body, sequence, with_sequence}
use Rattle.walrus_functions.specs.Nesting.{children, IsChild, IsReachable, at_start, below, IsNested}
use Rattle.walrus_traversals_mut.specs.Premises.{nonempty, child_lists, KeepsChildren}
use Rattle.walrus_traversals_mut.specs.Steps.{SameNesting}
use Rattle.walrus_traversals_mut.specs.Walks.{last_first}
use Rattle.walrus_traversals_mut.proofs.Bodies.{count_after, last_first_after, still_known}
use Rattle.walrus_traversals_mut.proofs.Members.{Member, child_from_last_first, last_first_from_child}

-- the lists one after another, the last first
abbrev pub back : List (List ℕ) → List ℕ
back [] = []
back (l ∷ ls) = back ls ++ l

back_nonempty : (l : List ℕ) (ls : List (List ℕ)) → back (nonempty (l ∷ ls)) ≡ back (nonempty ls) ++ l
back_nonempty [] ls = sym (append-nil (back (nonempty ls)))
back_nonempty (c ∷ cs) ls = refl

pub last_first_back : (is : List (Instr × ℕ)) →
    flat_map (λ x. children x.0) (reverse is) ≡ back (nonempty (map (λ x. children x.0) is))
last_first_back [] = refl
last_first_back (x ∷ is) =
    ap (flat_map (λ y. children y.0)) (reverse-append (x ∷ []) is)
    ∙ flat_map-append (λ y. children y.0) (reverse is) (x ∷ [])
    ∙ ap (λ l. flat_map (λ y. children y.0) (reverse is) ++ l) (append-nil (children x.0))
    ∙ ap (λ l. l ++ children x.0) (last_first_back is)
    ∙ sym (back_nonempty (children x.0) (map (λ y. children y.0) is))

pub last_first_kept : (old new : Sequence) → KeepsChildren old new → last_first new ≡ last_first old
last_first_kept old new h = last_first_back new.instrs ∙ ap back h.1 ∙ sym (last_first_back old.instrs)

pub nesting_kept : (body : Body) (i : ℕ) (old new : Sequence) →
    sequence body i ≡ old → KeepsChildren old new → SameNesting body (with_sequence body i new)
nesting_kept body i old new g k = record {
  count = count_after body i new;
  children = λ q. last_first_after body i q new (last_first_kept old new k ∙ sym (ap last_first g));
}

abbrev joined : List (List ℕ) → List ℕ
joined [] = []
joined (l ∷ ls) = l ++ joined ls

flat_map_joined : {X : Type 0} (f : X → List ℕ) (xs : List X) → flat_map f xs ≡ joined (map f xs)
flat_map_joined f [] = refl
flat_map_joined f (x ∷ xs) = ap (λ l. f x ++ l) (flat_map_joined f xs)

pub flat_map_kept : {X : Type 0} (f : X → List ℕ) (xs ys : List X) →
    map f xs ≡ map f ys → flat_map f xs ≡ flat_map f ys
flat_map_kept f xs ys e = flat_map_joined f xs ∙ ap joined e ∙ sym (flat_map_joined f ys)

-- an instruction without children at the end
nonempty_end : (ls : List (List ℕ)) → nonempty (ls ++ [] ∷ []) ≡ nonempty ls
nonempty_end [] = refl
nonempty_end ([] ∷ ls) = nonempty_end ls
nonempty_end ((c ∷ cs) ∷ ls) = ap (λ l. (c ∷ cs) ∷ l) (nonempty_end ls)

map_end : (is : List (Instr × ℕ)) (x : Instr × ℕ) →
    map (λ y. children y.0) (is ++ x ∷ []) ≡ map (λ y. children y.0) is ++ children x.0 ∷ []
map_end [] x = refl
map_end (i ∷ is) x = ap (λ l. children i.0 ∷ l) (map_end is x)

no_child_added : (is : List (Instr × ℕ)) (x : Instr × ℕ) → children x.0 ≡ [] →
    nonempty (map (λ y. children y.0) (is ++ x ∷ [])) ≡ nonempty (map (λ y. children y.0) is)
no_child_added is x e =
    ap nonempty (map_end is x) ∙ ap (λ l. nonempty (map (λ (y : Instr × ℕ). children y.0) is ++ l ∷ [])) e
    ∙ nonempty_end (map (λ y. children y.0) is)

pub keeps_children_added : (old new : Sequence) (x : Instr × ℕ) → children x.0 ≡ [] →
    new.id ≡ old.id → new.instrs ≡ old.instrs ++ x ∷ [] → KeepsChildren old new
keeps_children_added old new x c i e =
    (i, ap (λ l. nonempty (map (λ (y : Instr × ℕ). children y.0) l)) e ∙ no_child_added old.instrs x c)

pub keeps_children_same : (a b : Sequence) → b ≡ a → KeepsChildren a b
keeps_children_same a b e = (ap (λ s. s.id) e, ap child_lists e)

pub nesting_same : (f : Body) → SameNesting f f
nesting_same f = record { count = refl; children = λ q. refl }

pub nesting_both : (f g h : Body) → SameNesting f g → SameNesting g h → SameNesting f h
nesting_both f g h a b = record { count = b.count ∙ a.count; children = λ q. b.children q ∙ a.children q }

-- with the same nesting, what is a child, reached, or nested in the one is so in the other
module _ (f g : Body) (same : SameNesting f g) where
  child_before : (p c : ℕ) → IsChild g p c → IsChild f p c
  child_before p c i =
      let F : List ℕ → Type 0 = λ l. Member c l in
      child_from_last_first f p c (subst F (same.children p) (last_first_from_child g p c i))

  reached_before : (start q : ℕ) → IsReachable g start q → IsReachable f start q
  reached_before start _ at_start = at_start
  reached_before start _ (below p c r i) = below p c (reached_before start p r) (child_before p c i)

  pub nested_after : (start : ℕ) → IsNested f start → IsNested g start
  nested_after start h = (
    h.0,
    record {
      known = λ q r. still_known f g q same.count (h.1.known q (reached_before start q r));
      falls = λ p c r i. h.1.falls p c (reached_before start p r) (child_before p c i);
    },
  )
