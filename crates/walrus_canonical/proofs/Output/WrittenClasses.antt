-- One more class is written behind what is written.
use Rattle.std.proofs.Common.{◌≡◌, ℕ, Bool, true, false, ◌+◌, ◌-◌, ◌<◌, ◌≤◌, List, [], ◌∷◌, ◌++◌, length, map, slice_get, Some, ◌⊎◌, inl, inr, ◌∙◌, sym, ap, subst, arith}
use Rattle.std.proofs.lemmas.Bool.{cases_lt, cases_eq}
use Rattle.std.proofs.lemmas.List.{length-map}
use Rattle.std.proofs.lemmas.Option.{same_Some, slice_get-get_or, get_or_from_slice_get}
use Rattle.walrus_ty.specs.Definition.{Definition, rename}
use Rattle.walrus_ty.specs.Groups.{Section}
use Rattle.walrus_sections.specs.Section.{IndexSpace, index_space}
use Rattle.walrus_canonical.specs.declared.classes.Class.{Class}
use Rattle.walrus_canonical.specs.EqualTypes.{IsMember, AreEqual}
use Rattle.walrus_canonical.specs.Greedy.{AreLeast, CanComeNext, plain_group}
use Rattle.walrus_canonical.specs.Steps.Classes.{slot_of}
use Rattle.walrus_canonical.specs.Steps.Marks.{IsMarked}
use Rattle.walrus_canonical.specs.Steps.WrittenIndices.{GivesIndices}
use Rattle.walrus_canonical.specs.Steps.Writing.{Task, IsBegun, IsReadyAs, with_slots, settled}
use Rattle.walrus_canonical.proofs.Equality.EqualTypes.{equal_over, equal_within}
use Rattle.walrus_canonical.proofs.Forms.Extension.{longer, count_is, member_equal, old_back}
use Rattle.walrus_canonical.proofs.Output.ReadyGroups.{rooted, mark_of_mate, equal_of_slots, can_come}
use Rattle.walrus_canonical.proofs.Output.ReadyOrder.{filled}
use Rattle.walrus_canonical.proofs.Output.WrittenSlots.{now_written, same_below, same_above, still_done, first_written, other_class, other_first}

-- what two lists have at a place
same_slot :
    (xs ys : List ℕ) (i : ℕ) → i < length xs → slice_get ys i ≡ slice_get xs i → slot_of xs i ≡ slot_of ys i
same_slot xs ys i low e = sym (get_or_from_slice_get ys i (slot_of xs i) 0 (e ∙ slice_get-get_or xs i 0 low))

module _ (task : Task) (done : ℕ → Bool) (before : Section) (new_index newer : List ℕ) (next : ℕ)
    (b : IsBegun task done before new_index next) (c : ℕ) (class : Class)
    (at : slice_get task.classes c ≡ Some class) (undone : done class.first ≡ false) (ds : List Definition)
    (q : IsReadyAs task done new_index class ds)
    (long : length newer ≡ length new_index)
    (gives : GivesIndices new_index newer class.first (length class.entries) next) where
  abbrev T : IndexSpace
  T = index_space task.section

  abbrev B : IndexSpace
  B = index_space before

  abbrev n : ℕ
  n = length class.entries

  abbrev end : ℕ
  end = class.first + n

  abbrev now : ℕ → Bool
  now = with_slots done class.first end

  abbrev final : List Definition
  final = map (rename (settled next)) ds

  abbrev after : Section
  after = before ++ plain_group final ∷ []

  abbrev Q : IndexSpace
  Q = index_space after

  can : CanComeNext T task.roots B q.head final
  can = can_come task done before new_index next b class ds q undone

  size : length final ≡ n
  size = length-map ds (rename (settled next)) ∙ q.size

  count : Q.count ≡ B.count + n
  count = let z = count_is (rooted task) before b.beginning q.head final can in
      omega (arith, z, size)

  kept_slot : (x : ℕ) → x < task.slot_count → (x < class.first) ⊎ (end ≤ x) →
      slot_of new_index x ≡ slot_of newer x
  kept_slot x low apart = let o = b.one_each in
      same_slot new_index newer x (omega (arith, low, o)) (gives.kept x apart)

  -- what was written has the same new index
  pub same_indices : (x : ℕ) → done x ≡ true → x < task.slot_count → slot_of new_index x ≡ slot_of newer x
  same_indices x d low = elim (cases_lt x class.first) [
    | inl less ↦ kept_slot x low (inl less)
    | inr over ↦ elim (cases_lt x end) [
      | inr high ↦ kept_slot x low (inr high)
      | inl inside ↦ absurd (
          let p = x - class.first in
          let e : class.first + p ≡ x = omega (arith, over) in
          let whole = b.whole c p class at (omega (arith, over, inside)) in
          let z : true ≡ false = sym d ∙ (ap done (sym e) ∙ (whole ∙ undone)) in absurd cc)
    ]
  ]

  -- the member at each place has the slot and the index at the place
  record Member (p : ℕ) : Type 0 where
    pub k : ℕ
    pub mem : IsMember T q.head p k
    pub marked : IsMarked task.marks k
    pub slot : slot_of task.slots k ≡ class.first + p
    pub there : AreEqual T Q k (B.count + p)

  member : (p : ℕ) → p < n → Member p
  member p low =
      let k = q.key.members p (omega (arith, low, q.size)) in
      let first = q.slot in record {
        k = k.0;
        mem = k.1;
        marked = mark_of_mate task q.head k.0 q.marked (p, k.1);
        slot = omega (arith, task.are.row q.head p k.0 q.marked q.member k.1, first);
        there = member_equal (rooted task) before b.beginning q.head final can k.0 p k.1;
      }

  grown : (i p : ℕ) → AreEqual T B i p → AreEqual T Q i p
  grown i p e = equal_over T B Q i p p e
      (old_back (rooted task) before b.beginning q.head final can p
      (equal_within task.section before i p e).1)

  kept_equal :
      (i : ℕ) → IsMarked task.marks i → done (slot_of task.slots i) ≡ true →
      (slot_of task.slots i < class.first) ⊎ (end ≤ slot_of task.slots i) →
      AreEqual T Q i (slot_of newer (slot_of task.slots i))
  kept_equal i m d apart =
      let x = slot_of task.slots i in
      subst (λ (u : ℕ). AreEqual T Q i u) (kept_slot x (task.are.within i m) apart)
      (grown i (slot_of new_index x) (b.equal i m d))

  equal_now :
      (i : ℕ) → IsMarked task.marks i → now (slot_of task.slots i) ≡ true →
      AreEqual T Q i (slot_of newer (slot_of task.slots i))
  equal_now i m d =
      let x = slot_of task.slots i in
      elim (cases_lt x class.first) [
        | inl less ↦ kept_equal i m (sym (same_below done class.first end x less) ∙ d) (inl less)
        | inr over ↦ elim (cases_lt x end) [
          | inr high ↦ kept_equal i m (sym (same_above done class.first end x high) ∙ d) (inr high)
          | inl inside ↦
              let p = x - class.first in
              let e : class.first + p ≡ x = omega (arith, over) in
              let k = member p (omega (arith, over, inside)) in
              let same = equal_of_slots task i k.k m k.marked (sym e ∙ sym k.slot) in
              let new : slot_of newer (class.first + p) ≡ next + p =
              get_or_from_slice_get newer (class.first + p) (next + p) 0
              (gives.given p (omega (arith, over, inside))) in
              let there : slot_of newer x ≡ B.count + p = ap (slot_of newer) (sym e)
              ∙ (new ∙ omega (arith, b.next_is)) in
              subst (λ (u : ℕ). AreEqual T Q i u) (sym there)
              (equal_over T T Q i k.k (B.count + p) same k.there)
        ]
      ]

  onto_now :
      (p : ℕ) → p < Q.count → (i : ℕ) × IsMarked task.marks i × (now (slot_of task.slots i) ≡ true)
      × AreEqual T Q i p
  onto_now p low = elim (cases_lt p B.count) [
    | inl less ↦ (let o = b.onto p less in
        (o.0, o.1, still_done done class.first end (slot_of task.slots o.0) o.2, grown o.0 p o.3))
    | inr over ↦ (
        let t = p - B.count in
        let e : B.count + t ≡ p = omega (arith, over) in
        let size = count in
        let k = member t (omega (arith, over, low, size)) in
        let s = k.slot in (
          k.k,
          k.marked,
          now_written done class.first end (slot_of task.slots k.k) (omega (arith, s))
              (omega (arith, s, over, low, size)),
          subst (λ (u : ℕ). AreEqual T Q k.k u) e k.there,
        ))
  ]

  whole_now :
      (d p : ℕ) (other : Class) → slice_get task.classes d ≡ Some other → p < length other.entries →
      now (other.first + p) ≡ now other.first
  whole_now d p other at_d low = elim (cases_eq d c) [
    | inl same ↦ (
        let is : other ≡ class = same_Some other class
        (sym at_d ∙ (ap (slice_get task.classes) same ∙ at)) in
        let first = ap (λ (k : Class). k.first) is in
        let long = ap (λ (k : Class). length k.entries) is in
        now_written done class.first end (other.first + p) (omega (arith, first))
        (omega (arith, first, long, low))
        ∙ sym (ap now first ∙ first_written task done c class at))
    | inr apart ↦ (
        let first = other_first task done c class at d other at_d apart in
        other_class task done c class at d other at_d apart p low ∙ (b.whole d p other at_d low ∙ sym first))
  ]

  pub class_written :
      AreLeast T task.roots B final → IsBegun task now after newer (next + n)
  class_written least = record {
    beginning = longer (rooted task) before b.beginning q.head final can least;
    next_is = (omega (arith, count, b.next_is));
    one_each = long ∙ b.one_each;
    whole = λ d p other at_d low. whole_now d p other at_d low;
    equal = equal_now;
    onto = onto_now;
  }

  pub count_grows : B.count < Q.count
  count_grows = omega (arith, count, filled task c class at)
