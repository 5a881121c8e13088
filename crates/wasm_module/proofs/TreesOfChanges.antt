-- What it is to be the syntax trees of texts, for a change of texts.
use Rattle.std.proofs.Common.{◌≡◌, ℕ, ◌<◌, ◌≤◌, List, [], ◌++◌, length, Some, refl, ap, arith}
use Rattle.wasm_module.specs.declared.renaming.Widths.{Widths}
use Rattle.wasm_module.specs.Changes.{Change}
use Rattle.wasm_module.specs.SyntaxTrees.{SyntaxTree, still, joined, bytes_of, names_in, TreeBecomes, unchanged, joins}
use Rattle.wasm_module.specs.Renaming.{NewIndices, new_index}

-- what the bytes of a type section, new indices and widths make of a text
abbrev pub Changing : Type 1
Changing = List ℕ → NewIndices → Widths → Change

-- which trees are those of texts that such a change takes
abbrev pub Trees : Type 1
Trees = SyntaxTree → Type 0

-- and which these are where there are this many types
abbrev pub Counted : Type 1
Counted = ℕ → Trees

-- the new indices are below this number, and there are no fewer of them
pub record HaveBound (m : NewIndices) (n : ℕ) : Type 0 where
  pub few : n ≤ length m
  pub below : (i p : ℕ) → new_index m i ≡ Some p → p < n

-- the bytes of a tree become those of each tree that it becomes
abbrev pub Writes : Changing → Counted → Type 0
Writes C Is =
    (t : List ℕ) (m : NewIndices) (w : Widths) (p q : SyntaxTree) → Is (length m) p
    → TreeBecomes t m w p q → C t m w (bytes_of p) (bytes_of q) (names_in p)

-- the trees of a text and of what it becomes
pub record Found (Is : ℕ → SyntaxTree → Type 0) (t : List ℕ) (m : NewIndices) (w : Widths)
    (text new names : List ℕ) : Type 0 where
  pub tree : SyntaxTree
  pub new_tree : SyntaxTree
  pub is : Is (length m) tree
  pub is_again : (n : ℕ) → HaveBound m n → Is n new_tree
  pub becomes : TreeBecomes t m w tree new_tree
  pub text_is : bytes_of tree ≡ text
  pub new_is : bytes_of new_tree ≡ new
  pub names_are : names ≡ names_in tree

abbrev pub Finds : Changing → Counted → Type 0
Finds C Is =
    (t : List ℕ) (m : NewIndices) (w : Widths) (text new names : List ℕ) → C t m w text new names
    → Found Is t m w text new names

-- no two trees have the same bytes
abbrev pub AreOne : Trees → Type 0
AreOne Is = (p q : SyntaxTree) → Is p → Is q → bytes_of p ≡ bytes_of q → p ≡ q

-- no two trees have bytes that begin the same ones
abbrev pub AreFirst : Trees → Type 0
AreFirst Is =
    (p q : SyntaxTree) (r s : List ℕ) → Is p → Is q → bytes_of p ++ r ≡ bytes_of q ++ s
    → (p ≡ q) × (r ≡ s)

pub still_bytes : (t : List ℕ) (m : NewIndices) (w : Widths) (text : List ℕ) (q : SyntaxTree) →
    TreeBecomes t m w (still text) q → text ≡ bytes_of q
still_bytes t m w text _ (unchanged _) = refl

module _ (t : List ℕ) (m : NewIndices) (w : Widths) where
  pub found_as : (Is As : Counted) → ((n : ℕ) (p : SyntaxTree) → Is n p → As n p) →
      (text new names : List ℕ) → Found Is t m w text new names → Found As t m w text new names
  found_as Is As turn text new names f =
      record {
        tree = f.tree;
        new_tree = f.new_tree;
        is = turn (length m) f.tree f.is;
        is_again = λ n bound. turn n f.new_tree (f.is_again n bound);
        becomes = f.becomes;
        text_is = f.text_is;
        new_is = f.new_is;
        names_are = f.names_are;
      }

  -- of bytes that stay, also where there are fewer types
  pub found_still : (Is : Counted) (text : List ℕ) → ((n : ℕ) → n ≤ length m → Is n (still text)) →
      Found Is t m w text text []
  found_still Is text is =
      record {
        tree = still text;
        new_tree = still text;
        is = is (length m) (omega arith);
        is_again = λ n bound. is n bound.few;
        becomes = unchanged text;
        text_is = refl;
        new_is = refl;
        names_are = refl;
      }

  -- behind bytes that stay
  pub found_behind : (Is All : Counted) (first : List ℕ) →
      ((n : ℕ) (p : SyntaxTree) → Is n p → All n (joined (still first) p)) → (text new names : List ℕ) →
      Found Is t m w text new names → Found All t m w (first ++ text) (first ++ new) names
  found_behind Is All first make text new names f =
      record {
        tree = joined (still first) f.tree;
        new_tree = joined (still first) f.new_tree;
        is = make (length m) f.tree f.is;
        is_again = λ n bound. make n f.new_tree (f.is_again n bound);
        becomes = joins (still first) f.tree (still first) f.new_tree (unchanged first) f.becomes;
        text_is = ap (λ (u : List ℕ). first ++ u) f.text_is;
        new_is = ap (λ (u : List ℕ). first ++ u) f.new_is;
        names_are = f.names_are;
      }
