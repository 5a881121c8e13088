-- The classes of equal groups of a section, of those groups that are needed.
-- Of this crate's own.
use Rattle.std.specs.Prelude.{◌≡◌, ℕ, ◌+◌, ◌<◌, ◌≤◌, ◌↔◌, Bool, List, [], ◌∷◌, ◌++◌, length, map, Some, slice_get, slice_index_or}
use Rattle.walrus_ty.specs.declared.records.EntryAt.{EntryAt}
use Rattle.walrus_ty.specs.Records.{entry_definition}
use Rattle.walrus_ty.specs.Groups.{Group, Section}
use Rattle.walrus_sections.specs.FirstError.{definitions_of}
use Rattle.walrus_sections.specs.Section.{IndexSpace, index_space, IsWellNamed}
use Rattle.walrus_canonical.specs.declared.classes.Class.{Class}
use Rattle.walrus_canonical.specs.declared.classes.Reader.{Reader}
use Rattle.walrus_canonical.specs.EqualTypes.{IsMember, NamesOutside, AreEqual}
use Rattle.walrus_canonical.specs.Keys.{IsKey}
use Rattle.walrus_canonical.specs.Steps.KnownClasses.{place_of}
use Rattle.walrus_canonical.specs.Steps.Marks.{IsMarked, MarkNeeds}
use Rattle.walrus_canonical.specs.Steps.Shown.{own_base}

-- the slot of an index
abbrev pub slot_of : List ℕ → ℕ → ℕ
slot_of slots i = slice_index_or slots i 0

-- the number of a place of a group of so many
abbrev pub own_number : ℕ → ℕ → ℕ
own_number count place = own_base count + place

-- the class at this place
abbrev pub class_at_place : List Class → ℕ → Class
class_at_place classes place = slice_index_or classes place (record { first = 0; entries = [] })

-- the records of the group of i, where an index into the group is the number of its place, and any
-- other one its slot
abbrev pub AreRecordsOf : IndexSpace → List ℕ → ℕ → List EntryAt → Type 0
AreRecordsOf s slots i entries =
    IsKey s (own_number (length entries)) (slot_of slots) i (map entry_definition entries)

-- of the indices below `end`, marked ones have one slot exactly where they are equal
abbrev pub AreToldBySlots : IndexSpace → List Bool → ℕ → List ℕ → Type 0
AreToldBySlots s marks end slots =
    (i j : ℕ) → i < end → j < end → IsMarked marks i → IsMarked marks j →
    (slot_of slots i ≡ slot_of slots j) ↔ AreEqual s s i j

-- a marked group whose first member has this slot has these records
pub record IsOfClass (s : IndexSpace) (marks : List Bool) (end : ℕ) (slots : List ℕ) (first : ℕ)
    (entries : List EntryAt) : Type 0 where
  pub head : ℕ
  pub low : head < end
  pub marked : IsMarked marks head
  pub member : IsMember s head 0 head
  pub slot : slot_of slots head ≡ first
  pub records : AreRecordsOf s slots head entries
  -- what the group names outside of it has slots that are no numbers of places
  pub fits : (x : ℕ) → NamesOutside s head x → slot_of slots x < own_base (length entries)

-- What a reader has: the slots, how many there are, the first slot of each class, and the place of
-- the class that has these records.
pub record Reading : Type 0 where
  pub slots : List ℕ
  pub slot_count : ℕ
  pub firsts : List ℕ
  pub known : List (List EntryAt × ℕ)

abbrev pub reading : List ℕ → ℕ → List ℕ → List (List EntryAt × ℕ) → Reading
reading slots slot_count firsts known =
    record { slots = slots; slot_count = slot_count; firsts = firsts; known = known }

abbrev pub reading_of : Reader → Reading
reading_of r =
    reading r.slots.items r.slot_count (map (λ (c : Class). c.first) r.classes.items) r.known.entries

-- the map has one key for each class, and slots of different classes are different
pub record HaveKeys (slot_count : ℕ) (firsts : List ℕ) (known : List (List EntryAt × ℕ)) : Type 0 where
  pub key_of :
      (c first : ℕ) → slice_get firsts c ≡ Some first → (entries : List EntryAt)
      × (place_of known entries ≡ Some c)
  pub fit :
      (entries : List EntryAt) (c first : ℕ) → place_of known entries ≡ Some c →
      slice_get firsts c ≡ Some first → first + length entries ≤ slot_count
  pub apart :
      (b c first next : ℕ) (entries : List EntryAt) → b < c → slice_get firsts b ≡ Some first
      → slice_get firsts c ≡ Some next → place_of known entries ≡ Some b
      → first + length entries ≤ next

-- it has this of the groups before `end`
pub record IsReadTo (s : IndexSpace) (marks : List Bool) (end : ℕ) (r : Reading) : Type 0 where
  pub one_each : length r.slots ≡ end
  pub few : r.slot_count ≤ end
  pub told : AreToldBySlots s marks end r.slots
  pub within : (i : ℕ) → i < end → IsMarked marks i → slot_of r.slots i < r.slot_count
  -- the slots of a marked group follow that of its first member, which is the first one of a class
  pub row :
      (i place k : ℕ) → i < end → IsMarked marks i → IsMember s i 0 i → IsMember s i place k →
      slot_of r.slots k ≡ slot_of r.slots i + place
  pub class_of :
      (i : ℕ) → i < end → IsMarked marks i → IsMember s i 0 i → (c : ℕ)
      × (slice_get r.firsts c ≡ Some (slot_of r.slots i))
  pub keys : HaveKeys r.slot_count r.firsts r.known
  pub keyed :
      (entries : List EntryAt) (c : ℕ) → place_of r.known entries ≡ Some c → (first : ℕ)
      × (slice_get r.firsts c ≡ Some first) × IsOfClass s marks end r.slots first entries

-- these are the classes of the marked groups of a section, by slots
pub record AreClasses (section : Section) (marks : List Bool) (slots : List ℕ) (slot_count : ℕ)
    (classes : List Class) : Type 0 where
  pub one_each : length slots ≡ (index_space section).count
  pub few : slot_count ≤ (index_space section).count
  pub told : AreToldBySlots (index_space section) marks (index_space section).count slots
  pub within : (i : ℕ) → IsMarked marks i → slot_of slots i < slot_count
  -- the slots of a marked group follow that of its first member, which is the first one of a class
  pub row :
      (i place k : ℕ) → IsMarked marks i → IsMember (index_space section) i 0 i →
      IsMember (index_space section) i place k → slot_of slots k ≡ slot_of slots i + place
  pub class_of :
      (i : ℕ) → IsMarked marks i → IsMember (index_space section) i 0 i → (c : ℕ) × (class : Class)
      × (slice_get classes c ≡ Some class) × (class.first ≡ slot_of slots i)
  pub of_class :
      (c : ℕ) (class : Class) → slice_get classes c ≡ Some class →
      IsOfClass (index_space section) marks (index_space section).count slots class.first class.entries
  pub fit :
      (c : ℕ) (class : Class) → slice_get classes c ≡ Some class →
      class.first + length class.entries ≤ slot_count
  pub apart :
      (b c : ℕ) (class other : Class) → b < c → slice_get classes b ≡ Some class →
      slice_get classes c ≡ Some other → class.first + length class.entries ≤ other.first

-- the group begins at this index of the section
pub record StandsAt (section : Section) (start : ℕ) (group : Group) : Type 0 where
  pub before : Section
  pub behind : Section
  pub split : section ≡ before ++ group ∷ behind
  pub count : start ≡ (index_space before).count

-- the reader has read the groups before the index that comes next
abbrev pub HasRead : IndexSpace → List Bool → Reader → Type 0
HasRead s marks r =
    IsReadTo s marks (length r.slots.items) (reading_of r)

-- from one reader to the next one this group was read, where it comes next in a section and the
-- marks are at what some roots need
abbrev pub ReadsGroup : Reader → Reader → List Bool → Group → Type 0
ReadsGroup old new marks group =
    (section : Section) (roots : List ℕ) → IsWellNamed section → MarkNeeds section roots marks →
    StandsAt section (length old.slots.items) group → HasRead (index_space section) marks old →
    HasRead (index_space section) marks new
    × (length new.slots.items ≡ length old.slots.items + length (definitions_of group))
