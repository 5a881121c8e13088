-- What a contract sees of a set: an arena, and a finite map from values to ids.
use Rattle.std.specs.Prelude.{◌≡◌, ℕ, List, [], ◌∷◌, ◌++◌, length, Bool, true, false, ◌&&◌, ◌==◌, if◌then◌else◌, Option, Some, None, option_and_then, refl}
use Rattle.std.specs.Option.{option_eq}
use Rattle.std.specs.Coded.{Coded, code_by, coded×, coded_ℕ, coded_list, coded_option}
use Rattle.std.specs.Map.{lookup}
use Rattle.walrus_arena.specs.Arena.{Slots, get, with_value, without, AreClones}
use Rattle.walrus_id.specs.HashKeys.{InitialHasher, keys_code}

-- the slots, the entries of the map, whose order means nothing (`mapped_id` reads them), and the
-- keys of the map's hash
pub record Set (T : Type 0) : Type 0 where
  pub slots : Slots T
  pub entries : List (T × ℕ)
  pub keys : InitialHasher

-- a set is stored as the tuple of its parts
abbrev pub set_code : {T : Type 0} → Coded T → Coded (Set T)
set_code {T} code =
    code_by
    (List (Option T) × (List (T × ℕ) × InitialHasher))
    (coded× (coded_list (coded_option code)) (coded× (coded_list (coded× code coded_ℕ)) keys_code))
    (λ s. (s.slots, (s.entries, s.keys)))
    (λ p. record { slots = p.0; entries = p.1.0; keys = p.1.1 })
    (λ _. refl)

-- a clone is equal to its source
abbrev pub ClonesAreEqual : {T : Type 0} → (T → T → Type 0) → (T → T → Bool) → Type 0
ClonesAreEqual {T} is_clone eq = (source copy : T) → is_clone source copy → eq source copy ≡ true

-- there is a value, and it passes the test
abbrev pub holds : {T : Type 0} → (T → Bool) → Option T → Bool
holds test None = false
holds test (Some value) = test value

module _ {T : Type 0} (eq : T → T → Bool) where
  -- the id that the map has at the values equal to this one
  abbrev pub mapped_id : Set T → T → Option ℕ
  mapped_id s value = lookup (eq value) s.entries

  -- both map each value to the same id
  abbrev pub SameMap : Set T → Set T → Type 0
  SameMap old new = (q : T) → mapped_id new q ≡ mapped_id old q

module _ {T : Type 0} (eq : T → T → Bool) where
  -- the mapped id, if it is live and its item is equal to the value
  abbrev pub found_id : Set T → T → Option ℕ
  found_id s value =
      option_and_then (λ id. if holds (eq value) (get s.slots id) then Some id else None)
      (mapped_id eq s value)

  -- the new map has the id at the values equal to this one, and every other value keeps what it had
  abbrev pub Maps : Set T → Set T → T → ℕ → Type 0
  Maps old new value id =
      (q : T) → mapped_id eq new q ≡ (if eq value q then Some id else mapped_id eq old q)

  -- q is equal to the item of the id, and the map has this very id there
  abbrev pub is_own_entry : Set T → ℕ → T → Bool
  is_own_entry s id q =
      holds (λ item. eq item q && option_eq (λ a b. a == b) (mapped_id eq s item) (Some id))
      (get s.slots id)

module _ {T : Type 0} (eq : T → T → Bool) (old new : Set T) where
  -- the same slots, the same map and the same keys
  pub record IsSame : Type 0 where
    pub slots : new.slots ≡ old.slots
    pub map : SameMap eq old new
    pub keys : new.keys ≡ old.keys

  -- a new slot at the end has the value, the map has its id there, and the keys stay
  pub record Adds (value : T) (id : ℕ) : Type 0 where
    pub named : id ≡ length old.slots
    pub slots : new.slots ≡ old.slots ++ Some value ∷ []
    pub map : Maps eq old new value id
    pub keys : new.keys ≡ old.keys

  -- the slot of the id has the value, the map has the id there, and the keys stay
  pub record Registers (id : ℕ) (value : T) : Type 0 where
    pub slots : new.slots ≡ with_value old.slots id value
    pub map : Maps eq old new value id
    pub keys : new.keys ≡ old.keys

  -- the slot died, the map lost the entry of its item where that was the slot's own, and the keys
  -- stay
  pub record Removes (id : ℕ) : Type 0 where
    pub slots : new.slots ≡ without old.slots id
    pub map :
        (q : T) → mapped_id eq new q ≡
        (if is_own_entry eq old id q then None else mapped_id eq old q)
    pub keys : new.keys ≡ old.keys

-- clones of the values in the same slots, the same keys, and, where clones are equal to their
-- sources, the same map
pub record IsSetClone {T : Type 0} (is_clone : T → T → Type 0) (eq : T → T → Bool) (old new : Set T) : Type 0 where
  pub slots : AreClones is_clone old.slots new.slots
  pub map : ClonesAreEqual is_clone eq → SameMap eq old new
  pub keys : new.keys ≡ old.keys

module _ {T : Type 0} (eq : T → T → Bool) where
  -- `Removes` of each of these ids in order
  abbrev pub RemovesAll : Set T → List ℕ → Set T → Type 0
  RemovesAll old [] new = IsSame eq old new
  RemovesAll old (id ∷ ids) new =
      (between : Set T) × Removes eq old between id × RemovesAll between ids new
