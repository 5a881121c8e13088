-- Groups of which all that they name outside of them is written: they can come next.
use Rattle.std.proofs.Common.{◌≡◌, ℕ, Bool, true, false, ◌+◌, ◌-◌, ◌%◌, ◌<◌, ◌≤◌, List, length, map, cond, nat_lt, slice_get, Some, ◌⊎◌, inl, inr, ◌∙◌, refl, sym, ap, subst, arith}
use Rattle.std.proofs.lemmas.Bool.{cases_lt}
use Rattle.std.proofs.lemmas.Bool.Decides.{nat_tests}
use Rattle.std.proofs.lemmas.List.{length-map, get_or_default}
use Rattle.walrus_ty.specs.Definition.{Definition, Names, rename}
use Rattle.walrus_ty.specs.Groups.{Section}
use Rattle.walrus_ty.specs.Records.{entry_definition}
use Rattle.walrus_sections.specs.Section.{IndexSpace, index_space}
use Rattle.walrus_canonical.specs.declared.classes.Class.{Class}
use Rattle.walrus_canonical.specs.EqualTypes.{IsMember, IsInGroup, NamesOutside, AreEqual}
use Rattle.walrus_canonical.specs.Greedy.{IsWrittenAs, CanComeNext}
use Rattle.walrus_canonical.specs.Listing.{IsNeeded, by_group, by_name}
use Rattle.walrus_canonical.specs.Steps.Classes.{slot_of, own_number, IsOfClass}
use Rattle.walrus_canonical.specs.Steps.Marks.{IsMarked}
use Rattle.walrus_canonical.specs.Steps.Renamings.{renamed}
use Rattle.walrus_canonical.specs.Steps.Shown.{own_base, shown, shown_definitions}
use Rattle.walrus_canonical.specs.Steps.Writing.{Task, IsBegun, IsReadyAs, ready_number, settled}
use Rattle.walrus_canonical.proofs.Forms.Choice.{Rooted, needed_within, found}
use Rattle.walrus_canonical.proofs.Equality.Written.{said_anew, numbered_anew, name_there, outside_stood}
use Rattle.walrus_canonical.proofs.Equality.EqualTypes.{equal_back, equal_over, equal_within}
use Rattle.walrus_canonical.proofs.Forms.Existence.{next_fits}
use Rattle.walrus_canonical.proofs.Equality.Members.{in_group_or_not}
use Rattle.walrus_canonical.proofs.Reading.RenamedKeys.{renamed_low, renamed_high}
use Rattle.walrus_canonical.proofs.Forms.Writing.{as_written, written_so}

pub shown_below : (base y : ℕ) → y < base → shown base y ≡ y
shown_below base y low = grind (arith, nat_tests, low)

pub shown_behind : (base y : ℕ) → base ≤ y → shown base y ≡ y - base + 4294967296
shown_behind base y over = grind (arith, nat_tests, over)

module _ (task : Task) where
  abbrev S : IndexSpace
  S = index_space task.section

  abbrev pub rooted : Rooted
  rooted = record {
    section = task.section;
    roots = task.roots;
    below = task.well.below_ends;
    known = task.known;
  }

  pub needed_of_mark : (i : ℕ) → IsMarked task.marks i → IsNeeded S task.roots i
  needed_of_mark i m = (task.needs.needed i).0 m

  pub mark_of_need : (i : ℕ) → IsNeeded S task.roots i → IsMarked task.marks i
  mark_of_need i n = (task.needs.needed i).1 n

  pub mark_of_mate : (i k : ℕ) → IsMarked task.marks i → IsInGroup S i k → IsMarked task.marks k
  mark_of_mate i k m g = mark_of_need k (by_group i k (needed_of_mark i m) g)

  pub mark_of_name : (i x : ℕ) → IsMarked task.marks i → NamesOutside S i x → IsMarked task.marks x
  mark_of_name i x m o = mark_of_need x (by_name o.0 x (by_group i o.0 (needed_of_mark i m) o.1) o.2)

  pub marked_low : (i : ℕ) → IsMarked task.marks i → i < S.count
  marked_low i m = needed_within rooted i (needed_of_mark i m)

  pub equal_of_slots :
      (i j : ℕ) → IsMarked task.marks i → IsMarked task.marks j →
      slot_of task.slots i ≡ slot_of task.slots j → AreEqual S S i j
  equal_of_slots i j mi mj e = (task.are.told i j (marked_low i mi) (marked_low j mj) mi mj).0 e

  pub slots_of_equal :
      (i j : ℕ) → IsMarked task.marks i → IsMarked task.marks j → AreEqual S S i j →
      slot_of task.slots i ≡ slot_of task.slots j
  slots_of_equal i j mi mj e = (task.are.told i j (marked_low i mi) (marked_low j mj) mi mj).1 e

-- ---- behind what is written

module _ (task : Task) (done : ℕ → Bool) (before : Section) (new_index : List ℕ) (next : ℕ)
    (b : IsBegun task done before new_index next) where
  abbrev T : IndexSpace
  T = index_space task.section

  abbrev B : IndexSpace
  B = index_space before

  -- what is equal to a written type is written
  pub done_if_there :
      (i p : ℕ) → IsMarked task.marks i → AreEqual T B i p → done (slot_of task.slots i) ≡ true
  done_if_there i p m e =
      let o = b.onto p (equal_within task.section before i p e).1 in
      let same = slots_of_equal task i o.0 m o.1 (equal_over T B T i p o.0 e (equal_back T B o.0 p o.3)) in
      ap done same ∙ o.2

  pub not_there :
      (i p : ℕ) → IsMarked task.marks i → done (slot_of task.slots i) ≡ false → ¬ (AreEqual T B i p)
  not_there i p m undone e = let d = done_if_there i p m e in absurd cc

  -- a group of which all that it names outside of it is written
  module _ (head : ℕ) (marked : IsMarked task.marks head)
      (undone : done (slot_of task.slots head) ≡ false)
      (outer : (x : ℕ) → NamesOutside T head x → done (slot_of task.slots x) ≡ true) where
    pub same_there :
        (x : ℕ) → NamesOutside T head x → AreEqual T B x (slot_of new_index (slot_of task.slots x))
    same_there x o = b.equal x (mark_of_name task head x marked o) (outer x o)

    there_low : (x : ℕ) → NamesOutside T head x → slot_of new_index (slot_of task.slots x) < B.count
    there_low x o =
        (equal_within task.section before x (slot_of new_index (slot_of task.slots x)) (same_there x o)).1

    listed : (x : ℕ) → NamesOutside T head x → (y : ℕ) × AreEqual T B x y
    listed x o = (slot_of new_index (slot_of task.slots x), same_there x o)

    abbrev low : head < T.count
    low = marked_low task head marked

    abbrev some_way : List Definition
    some_way = as_written task.section B (found (rooted task) before b.beginning.apart) head low listed

    comes : CanComeNext T task.roots B head some_way
    comes = record {
      needed = needed_of_mark task head marked;
      fresh = λ p e. not_there head p marked undone e;
      written = written_so task.section B (found (rooted task) before b.beginning.apart) head low listed;
    }

    -- there is room for the group
    pub room :
        (es : List Definition) → ((place : ℕ) → place < length es → (k : ℕ) × IsMember T head place k) →
        B.count + length es ≤ T.count
    room es members =
        let fits = next_fits (rooted task) before b.beginning head some_way comes in
        elim (cases_lt (length some_way) (length es)) [
          | inl less ↦ absurd (
              let k = members (length some_way) less in
              omega (arith, comes.written.places k.0 (length some_way) k.1))
          | inr over ↦ omega (arith, fits, over)
        ]

  -- ---- a class of which all that it names outside of it is written is ready

  module _ (c : ℕ) (class : Class) (at : slice_get task.classes c ≡ Some class)
      (undone : done class.first ≡ false) where
    abbrev o : IsOfClass T task.marks T.count task.slots class.first class.entries
    o = task.are.of_class c class at

    abbrev base : ℕ
    base = own_base (length class.entries)

    abbrev own : List Definition
    own = map entry_definition class.entries

    abbrev r : ℕ → ℕ
    r = renamed base new_index base

    long : length own ≡ length class.entries
    long = length-map class.entries entry_definition

    long_too : length (map (rename r) own) ≡ length class.entries
    long_too = length-map own (rename r) ∙ long

    module _ (outer : (x : ℕ) → NamesOutside T o.head x → done (slot_of task.slots x) ≡ true) where
      space : B.count + length class.entries ≤ T.count
      space = let z = room o.head o.marked (ap done o.slot ∙ undone) outer own o.records.members in
          omega (arith, z, long)

      abbrev again : ℕ
      again = own_base (length (map (rename r) own))

      same_base : again ≡ base
      same_base = ap own_base long_too

      shown_low : (y : ℕ) → y < base → shown again y ≡ y
      shown_low y h =
          ap (λ (u : ℕ). shown u y) same_base ∙ shown_below base y h

      shown_high : (y : ℕ) → base ≤ y → shown again y ≡ y - base + 4294967296
      shown_high y h =
          ap (λ (u : ℕ). shown u y) same_base ∙ shown_behind base y h

      inner_is : (p : ℕ) → p < length (map (rename r) own) →
          shown again (r (own_number (length class.entries) p)) ≡ ready_number p
      inner_is p h =
          let low : p < length class.entries = omega (arith, h, long_too) in
          let is : r (base + p) ≡ base + p = renamed_high base new_index base (base + p) (omega arith)
          (omega (arith, low, space, task.well.few)) ∙ omega arith in
          ap (shown again) is ∙ (shown_high (base + p) (omega arith) ∙ omega arith)

      outer_is :
          (x : ℕ) → NamesOutside T o.head x →
          shown again (r (slot_of task.slots x)) ≡ slot_of new_index (slot_of task.slots x)
      outer_is x u =
          let y = slot_of task.slots x in
          let fits = o.fits x u in
          let within = task.are.within x (mark_of_name task o.head x o.marked u) in
          let is : r y ≡ slot_of new_index y = renamed_low base new_index base y fits
          ∙ get_or_default new_index y y 0 (omega (arith, within, b.one_each)) in
          let there = there_low o.head o.marked (ap done o.slot ∙ undone) outer x u in
          let few = task.well.few in
          ap (shown again) is ∙ shown_low (slot_of new_index y) (omega (arith, there, space, few))

      pub becomes_ready : IsReadyAs task done new_index class (shown_definitions (map (rename r) own))
      becomes_ready = record {
        head = o.head;
        marked = o.marked;
        member = o.member;
        slot = o.slot;
        size = length-map (map (rename r) own) (rename (shown again)) ∙ long_too;
        key = numbered_anew T (λ p. r (own_number (length class.entries) p))
            (λ x y. y ≡ r (slot_of task.slots x)) o.head (map (rename r) own)
            (numbered_anew T (own_number (length class.entries)) (λ x y. y ≡ slot_of task.slots x) o.head own
            o.records r (λ p. r (own_number (length class.entries) p)) (λ x y. y ≡ r (slot_of task.slots x))
            (λ p h. refl) (λ x y u is. ap r is)) (shown again) ready_number
            (λ x y. y ≡ slot_of new_index (slot_of task.slots x)) inner_is
            (λ x y u is. ap (shown again) is ∙ outer_is x u);
        outer = outer;
      }

  -- ---- a class that is ready can come next

  module _ (class : Class) (ds : List Definition) (q : IsReadyAs task done new_index class ds)
      (undone : done class.first ≡ false) where
    abbrev settled_definitions : List Definition
    settled_definitions = map (rename (settled next)) ds

    undone_head : done (slot_of task.slots q.head) ≡ false
    undone_head = ap done q.slot ∙ undone

    pub ready_room : B.count + length ds ≤ T.count
    ready_room = room q.head q.marked undone_head q.outer ds q.key.members

    settled_low : (y : ℕ) → y < 4294967296 → settled next y ≡ y
    settled_low y h = grind (arith, nat_tests, h)

    settled_high : (p : ℕ) → p + next < 4294967296 → settled next (ready_number p) ≡ B.count + p
    settled_high p h =
        let y = 4294967296 + p in
        let e : nat_lt y 4294967296 ≡ false = grind (arith, nat_tests) in
        let small : y - 4294967296 + next ≡ p + next = omega arith in
        ap (λ (u : Bool). cond u y ((y - 4294967296 + next) % 4294967296)) e
        ∙ (ap (λ (u : ℕ). u % 4294967296) small ∙ (stays (p + next) h ∙ omega (arith, b.next_is)))
      where
        stays : (n : ℕ) → n < 4294967296 → n % 4294967296 ≡ n
        stays n h = omega (arith, h)

    pub settles : IsWrittenAs T B q.head settled_definitions
    settles =
        let space = ready_room in
        let few = task.well.few in
        let index : ℕ → ℕ = λ x. slot_of new_index (slot_of task.slots x) in
        numbered_anew T ready_number (λ x y. y ≡ index x) q.head ds q.key (settled next) (λ p. B.count + p)
        (AreEqual T B) (λ p h. settled_high p (omega (arith, h, space, few, b.next_is)))
        (λ x y u e. subst (λ (v : ℕ). AreEqual T B x v)
        (sym (ap (settled next) e ∙ settled_low (index x) (
        omega (arith, there_low q.head q.marked undone_head q.outer x u, space, few))))
        (same_there q.head q.marked undone_head q.outer x u))

    pub can_come : CanComeNext T task.roots B q.head settled_definitions
    can_come = record {
      needed = needed_of_mark task q.head q.marked;
      fresh = λ p e. not_there q.head p q.marked undone_head e;
      written = settles;
    }

    -- its numbers are indices that are written, or those of places
    abbrev pub AreSettled : ℕ → Type 0
    AreSettled y = ((y < B.count) × (settled next y ≡ y))
        ⊎ ((p : ℕ) × (y ≡ ready_number p) × (settled next y ≡ B.count + p))

    pub number_settled :
        (place : ℕ) (d : Definition) (y : ℕ) → slice_get ds place ≡ Some d → Names d y → AreSettled y
    number_settled place d y at names =
        let x = name_there T ready_number (λ x z. z ≡ slot_of new_index (slot_of task.slots x)) q.head ds
        q.key place y d at names in
        let space = ready_room in
        let few = task.well.few in
        let is_next = b.next_is in
        elim (in_group_or_not T q.head 0 x.0 q.member) [
          | inl m ↦ inr (
              let is = q.key.own x.0 y m.0 x.1 m.1 in
              let low = q.key.places x.0 m.0 m.1 in
              (m.0, is, ap (settled next) is ∙ settled_high m.0 (omega (arith, low, space, few, is_next))))
          | inr out ↦ inl (
              let z = there_low q.head q.marked undone_head q.outer x.0 (outside_stood x.1 out) in
              let low : y < B.count = omega (arith, q.key.others x.0 y x.1 out, z) in
              (low, settled_low y (omega (arith, low, space, few))))
        ]

-- ---- what is ready stays so

pub ready_stays :
    (task : Task) (done after : ℕ → Bool) (new_index newer : List ℕ) (class : Class)
    (ds : List Definition) → IsReadyAs task done new_index class ds →
    ((x : ℕ) → done x ≡ true → after x ≡ true) →
    ((x : ℕ) → done x ≡ true → x < task.slot_count → slot_of new_index x ≡ slot_of newer x) →
    IsReadyAs task after newer class ds
ready_stays task done after new_index newer class ds q more same = record {
  head = q.head;
  marked = q.marked;
  member = q.member;
  slot = q.slot;
  size = q.size;
  key = said_anew (index_space task.section) ready_number
      (λ x y. y ≡ slot_of new_index (slot_of task.slots x)) q.head ds q.key ready_number
      (λ x y. y ≡ slot_of newer (slot_of task.slots x)) (λ p h. refl) (λ x y o is. is
      ∙ same (slot_of task.slots x) (q.outer x o)
      (task.are.within x (mark_of_name task q.head x q.marked o)));
  outer = λ x o. more (slot_of task.slots x) (q.outer x o);
}
