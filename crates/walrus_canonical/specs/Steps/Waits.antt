-- Which classes wait for which slots.
-- Of this crate's own.
use Rattle.std.specs.Prelude.{◌≡◌, ◌↔◌, ℕ, suc, Bool, false, ◌+◌, ◌<◌, nat_eq, nat_lt, cond, List, [], ◌∷◌, ◌++◌, length, Some, slice_get}
use Rattle.std.specs.List.{flat_map}
use Rattle.std.specs.List.Sorted.{IsPermutation, IsNonDecreasingBy}
use Rattle.walrus_ty.specs.Definition.{names_of}
use Rattle.walrus_ty.specs.Records.{entry_definition}
use Rattle.walrus_ty.specs.declared.records.EntryAt.{EntryAt}
use Rattle.walrus_canonical.specs.declared.classes.Class.{Class}
use Rattle.walrus_canonical.specs.declared.waiting.Wait.{Wait}
use Rattle.walrus_canonical.specs.Steps.Shown.{own_base}

-- a class that names this number waits for the slot, unless the number stands for a member of its own
abbrev pub wait_at : ℕ → ℕ → ℕ → List Wait
wait_at base waiting name =
    cond (nat_lt name base) (record { named = name; waiting = waiting } ∷ []) []

abbrev pub names_in : List EntryAt → List ℕ
names_in entries = flat_map (λ e. names_of (entry_definition e)) entries

-- the waits of the class at this place
abbrev pub class_waits : ℕ → Class → List Wait
class_waits place class =
    flat_map (wait_at (own_base (length class.entries)) place) (names_in class.entries)

-- those of classes from this place on
abbrev pub waits_from : ℕ → List Class → List Wait
waits_from place [] = []
waits_from place (class ∷ classes) = class_waits place class ++ waits_from (suc place) classes

-- these are the waits of the classes, by the slots that are named
pub record AreWaits (classes : List Class) (waits : List Wait) : Type 0 where
  pub rising : IsNonDecreasingBy (λ (w : Wait). w.named) waits
  pub all : IsPermutation (waits_from 0 classes) waits

-- in how many of the pairs this class waits for a slot that is not written
abbrev pub open_count : (ℕ → Bool) → List Wait → ℕ → ℕ
open_count done [] place = 0
open_count done (w ∷ ws) place =
    cond (nat_eq w.waiting place) (cond (done w.named) 0 1) 0 + open_count done ws place

-- the counts of the classes, of which there are so many
pub record AreCounts (waits : List Wait) (class_count : ℕ) (counts : List ℕ) : Type 0 where
  pub long : length counts ≡ class_count
  pub each :
      (place : ℕ) → place < class_count → slice_get counts place ≡ Some (open_count (λ x. false) waits place)

-- a list has for each slot how many of the pairs name a slot before it, as far as the pairs before this
-- place name slots
pub record AreStarts (waits : List Wait) (known : ℕ) (starts : List ℕ) : Type 0 where
  pub each :
      (slot start at : ℕ) (wait : Wait) → slice_get starts slot ≡ Some start →
      slice_get waits at ≡ Some wait → (at < start) ↔ (wait.named < slot)
  pub small : (at : ℕ) (wait : Wait) → at < known → slice_get waits at ≡ Some wait → wait.named < length starts
