-- `Move`, `AreJoined` and `DescentTo`: changes of a section that keep its normal form, chains of
-- them, and chains that lead down; and `IsRenumberedSwap`, the swap of two neighbouring `Single`s
-- with the names sent along.
-- WebAssembly core specification, "Modules", types: a definition is named by its index, so where it
-- moves its names move along.
use Rattle.std.specs.Prelude.{◌≡◌, ℕ, suc, ◌<◌, ◌-◌, ◌==◌, nat_lt, cond, List, [], ◌∷◌, ◌++◌, map, length, ◌⊎◌}
use Rattle.std.specs.declared.cmp.Ordering.TheVariants.{Less}
use Rattle.walrus_ty.specs.Definition.{Definition, Names, rename, definition_cmp}
use Rattle.walrus_ty.specs.Groups.{Group, Single, Rec, Section}
use Rattle.walrus_sections.specs.Section.{IndexSpace, index_space, IsSingle, IsWellNamed}
use Rattle.walrus_sections.specs.NormalForm.{IsKept, AreFree, IsNormalForm, image}

-- i and i + 1 exchanged
abbrev pub exchange : ℕ → ℕ → ℕ
exchange i k = cond (k == i) (suc i) (cond (k == suc i) i k)

-- the index that k has once i is gone, where j stands for i
abbrev pub skip : ℕ → ℕ → ℕ → ℕ
skip i j k = cond (k == i) j (cond (nat_lt k i) k (k - 1))

-- each name k replaced by m k
abbrev pub rename_group : (ℕ → ℕ) → Group → Group
rename_group m (Single d) = Single (rename m d)
rename_group m (Rec ds) = Rec (map (rename m) ds)

-- r is s with the neighbouring `Single`s i and i + 1 exchanged, and each name i or i + 1 with them
pub record IsExchanged (s r : Section) (i : ℕ) : Type 0 where
  pub before : Section
  pub first : Definition
  pub second : Definition
  pub after : Section
  pub s_is : s ≡ before ++ Single first ∷ Single second ∷ after
  pub r_is : r ≡ map (rename_group (exchange i)) (before ++ Single second ∷ Single first ∷ after)
  pub place : (index_space before).count ≡ i

-- the renumbered swap: the two name no type at all
pub record IsRenumberedSwap (s r : Section) (i : ℕ) : Type 0 where
  pub exchanged : IsExchanged s r i
  pub first_nameless : (k : ℕ) → ¬ (Names exchanged.first k)
  pub second_nameless : (k : ℕ) → ¬ (Names exchanged.second k)

-- an empty `Rec` goes out
pub record DropsEmptyRec (s r : Section) : Type 0 where
  pub before : Section
  pub after : Section
  pub s_is : s ≡ before ++ Rec [] ∷ after
  pub r_is : r ≡ before ++ after

-- the `Single` i goes out, which is the same as the earlier `Single` j; names of i become names of
-- j, and later ones fall by one
pub record DropsRepeat (s r : Section) (i j : ℕ) : Type 0 where
  pub before : Section
  pub dropped : Definition
  pub after : Section
  pub s_is : s ≡ before ++ Single dropped ∷ after
  pub r_is : r ≡ map (rename_group (skip i j)) (before ++ after)
  pub place : (index_space before).count ≡ i
  pub earlier : j < i
  pub earlier_single : IsSingle (index_space s) j
  pub equal : (index_space s).definition j ≡ dropped

-- neighbouring `Single`s change places; each names no index but its own, and the exchange of the
-- names keeps their order
pub record SwapsNeighbours (s r : Section) (i : ℕ) : Type 0 where
  pub exchanged : IsExchanged s r i
  pub first_own : (k : ℕ) → Names exchanged.first k → k ≡ i
  pub second_own : (k : ℕ) → Names exchanged.second k → k ≡ suc i
  pub order :
      definition_cmp exchanged.first exchanged.second ≡
      definition_cmp (rename (exchange i) exchanged.first) (rename (exchange i) exchanged.second)

-- one move leads from s to r
pub data Move (s r : Section) : Type 0 where
  drop_empty_rec : DropsEmptyRec s r → Move s r
  drop_repeat : (i j : ℕ) → DropsRepeat s r i j → Move s r
  swap_neighbours : (i : ℕ) → SwapsNeighbours s r i → Move s r

-- moves and their reverses lead from a section to r, through well-named sections
pub data ChainTo (r : Section) : Section → Type 0 where
  stop : ChainTo r r
  forth : (s q : Section) → Move s q → IsWellNamed q → ChainTo r q → ChainTo r s
  back : (s q : Section) → Move q s → IsWellNamed q → ChainTo r q → ChainTo r s

-- a chain of moves leads from a to b
abbrev pub AreJoined : Section → Section → Type 0
AreJoined a b = ChainTo b a

-- i and j are out of order, where m is the map to the normal form: both are kept, none from i to j
-- is an anchor, and j is less than i
pub record AreOutOfOrder (space : IndexSpace) (m : ℕ → ℕ) (i j : ℕ) : Type 0 where
  pub earlier : i < j
  pub inside : j < space.count
  pub first_kept : IsKept m i
  pub second_kept : IsKept m j
  pub free : AreFree space m i j
  pub less : definition_cmp (space.definition j) (space.definition i) ≡ Less

-- `new`, whose map is w, has fewer pairs out of order than `old`, whose map is m: each pair of
-- `new` is sent to one of `old`, no two to one, and some pair of `old` is left
pub record HasFewerOutOfOrder (old new : IndexSpace) (m w : ℕ → ℕ) : Type 0 where
  pub embed : ℕ → ℕ
  pub injective : (i j : ℕ) → embed i ≡ embed j → i ≡ j
  pub preserves :
      (i j : ℕ) → AreOutOfOrder new w i j → AreOutOfOrder old m (embed i) (embed j)
  pub first : ℕ
  pub second : ℕ
  pub extra : AreOutOfOrder old m first second
  pub unreached : (i j : ℕ) → AreOutOfOrder new w i j → embed i ≡ first → ¬ (embed j ≡ second)

-- r has fewer groups than s, or as many groups and, by the maps to the normal forms of both, fewer
-- pairs out of order
abbrev pub IsLower : Section → Section → Type 0
IsLower s r =
    (length r < length s) ⊎ ((length r ≡ length s) ×
    ((n p : Section) (m w : List ℕ) → IsNormalForm s n m → IsNormalForm r p w →
    HasFewerOutOfOrder (index_space s) (index_space r) (image m) (image w)))

-- moves lead from a section down to r, through well-named sections
pub data DescentTo (r : Section) : Section → Type 0 where
  bottom : DescentTo r r
  down : (s q : Section) → Move s q → IsLower s q → IsWellNamed q → DescentTo r q → DescentTo r s
