-- `IsSlotMap` and `read_groups`: what a table of types holds once a section is read into it. Each
-- index of the section has a slot of its own; r sends each index to the slot that stands for it,
-- and slot i is live exactly where r i is i.
-- WebAssembly core specification, "Validation", "Modules", types: a definition may name the indices
-- of its own group and of earlier ones.
use Rattle.std.specs.Prelude.{◌≡◌, ℕ, suc, ◌+◌, ◌<◌, ◌==◌, Bool, true, false, cond, List, [], ◌∷◌, length}
use Rattle.std.specs.List.{range_with_len}
use Rattle.walrus_ty.specs.Definition.{Definition, Names, rename}
use Rattle.walrus_sections.specs.Section.{IndexSpace, IsSingle, IsInRec}
use Rattle.walrus_ty.specs.Groups.{Section, Single, Rec}

-- what i defines over slots; a live slot i holds it
abbrev pub read_definition : IndexSpace → (ℕ → ℕ) → ℕ → Definition
read_definition s r i = rename r (s.definition i)

-- j is a candidate for i: an earlier `Single` with a live slot that holds what i defines
pub record IsCandidate (s : IndexSpace) (r : ℕ → ℕ) (i j : ℕ) : Type 0 where
  pub earlier : j < i
  pub single : IsSingle s j
  pub live : r j ≡ j
  pub same : read_definition s r j ≡ read_definition s r i

-- a member of a `Rec`, and a `Single` that names itself, has its own slot; any other `Single` is
-- sent to the one candidate that there is, and has its own slot where there is none
pub record IsSlotMap (s : IndexSpace) (r : ℕ → ℕ) : Type 0 where
  pub recs : (i : ℕ) → i < s.count → IsInRec s i → r i ≡ i
  pub selfs : (i : ℕ) → i < s.count → IsSingle s i → Names (s.definition i) i → r i ≡ i
  pub fresh :
      (i j : ℕ) → i < s.count → IsSingle s i → ¬ (Names (s.definition i) i) → r i ≡ i →
      ¬ (IsCandidate s r i j)
  pub to_candidate : (i : ℕ) → i < s.count → IsSingle s i → ¬ (r i ≡ i) → IsCandidate s r i (r i)

-- ids that stand in one group; a group that is not explicit has one id at most
pub record TypeGroup : Type 0 where
  pub ids : List ℕ
  pub is_explicit : Bool

-- the groups, in the order of the section from index b on: for each `Rec` an explicit one with its
-- indices, for each `Single` with a live slot one that is not explicit
abbrev pub read_groups : ℕ → (ℕ → ℕ) → Section → List TypeGroup
read_groups b r [] = []
read_groups b r (Single d ∷ gs) =
    cond (r b == b) (record { ids = b ∷ []; is_explicit = false } ∷ read_groups (suc b) r gs)
    (read_groups (suc b) r gs)
read_groups b r (Rec ds ∷ gs) =
    record { ids = range_with_len b (length ds); is_explicit = true } ∷
    read_groups (length ds + b) r gs
