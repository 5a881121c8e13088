-- The least of the queue is written.
use Rattle.std.proofs.Common.{◌≡◌, ℕ, Bool, true, false, ◌+◌, ◌-◌, ◌^◌, ◌<◌, ◌≤◌, List, [], ◌∷◌, ◌++◌, length, map, slice_get, Some, inl, inr, ◌∙◌, refl, sym, ap, subst, Contains, arith}
use Rattle.std.specs.Prelude.{min}
use Rattle.std.specs.BTreeMap.Range.{IsLtBy}
use Rattle.std.proofs.lemmas.Bool.{cases_lt, cases_eq}
use Rattle.std.proofs.lemmas.Bool.Decides.{nat_tests}
use Rattle.std.proofs.lemmas.List.{length-map, get_or_past}
use Rattle.std.proofs.lemmas.Option.{same_Some, slice_get_within}
use Rattle.walrus_ty.specs.declared.records.EntryAt.{EntryAt}
use Rattle.walrus_ty.specs.Definition.{Definition, rename}
use Rattle.walrus_ty.specs.Groups.{Section}
use Rattle.walrus_ty.specs.Records.{entry_definition, group_of}
use Rattle.walrus_ty.proofs.Names.Definitions.{rename_agree, rename_twice}
use Rattle.walrus_sections.specs.Section.{IndexSpace, index_space}
use Rattle.walrus_canonical.specs.declared.classes.Class.{Class}
use Rattle.walrus_canonical.specs.declared.waiting.Wait.{Wait}
use Rattle.walrus_canonical.specs.declared.write.Writer.{Writer}
use Rattle.walrus_canonical.specs.Greedy.{plain_group}
use Rattle.walrus_canonical.specs.Steps.Classes.{slot_of}
use Rattle.walrus_canonical.specs.Steps.Renamings.{renamed}
use Rattle.walrus_canonical.specs.Steps.Shown.{definitions_cmp, own_base, shown, shown_definitions}
use Rattle.walrus_canonical.specs.Steps.Waits.{AreWaits}
use Rattle.walrus_canonical.specs.Steps.WrittenIndices.{GivesIndices}
use Rattle.walrus_canonical.specs.Steps.Writing.{Task, release_of, IsBegun, IsReadyAs, IsQueue, IsReady, AreOpen, CanRelease, IsReleasing, IsWriting, HasWritten, with_slots, settled}
use Rattle.walrus_canonical.proofs.Reading.Containing.{contained_first}
use Rattle.walrus_canonical.proofs.Equality.EqualTypes.{groups_of, named_of, named_there}
use Rattle.walrus_canonical.proofs.Output.LeastReady.{outer_name, least}
use Rattle.walrus_canonical.proofs.Waits.ClassWaits.{waits_for}
use Rattle.walrus_canonical.proofs.Waits.OpenWaits.{nothing_open, none_released}
use Rattle.std.proofs.lemmas.Bool.{false_from_ne_true}
use Rattle.walrus_canonical.proofs.Output.Queues.{one_written}
use Rattle.walrus_canonical.proofs.Output.ReadyGroups.{mark_of_name, done_if_there, ready_room}
use Rattle.walrus_canonical.proofs.Output.ReadyOrder.{filled}
use Rattle.walrus_canonical.proofs.Output.WrittenClasses.{class_written, count_grows, same_indices}
use Rattle.walrus_canonical.proofs.Output.WrittenSlots.{still_done, other_first}

-- ---- the numbers of a group that is written are settled

settled_shown :
    (base next y : ℕ) → base < 4294967296 → settled next (shown base y) ≡ renamed base [] next y
settled_shown base next y small = elim (cases_lt y base) [
  | inl low ↦ grind (arith, nat_tests, low, small, get_or_past)
  | inr over ↦ grind (arith, nat_tests, over, small)
]

renamed_all :
    (u v w : ℕ → ℕ) (ds : List Definition) → ((y : ℕ) → u (v y) ≡ w y) →
    map (rename u) (map (rename v) ds) ≡ map (rename w) ds
renamed_all u v w [] h = refl
renamed_all u v w (d ∷ ds) h =
    let first : rename u (rename v d) ≡ rename w d =
    rename_twice u v d ∙ rename_agree (λ k. u (v k)) w d (λ k names. h k) in
    ap (λ (e : Definition). e ∷ map (rename u) (map (rename v) ds)) first
    ∙ ap (λ (es : List Definition). rename w d ∷ es) (renamed_all u v w ds h)

pub settles_as_written :
    (ds es : List Definition) (next n : ℕ) → shown_definitions es ≡ ds → n ≡ length es → n < 4294967296 →
    map (rename (settled next)) ds ≡ map (rename (renamed (own_base n) [] next)) es
settles_as_written ds es next n shows size few =
    ap (map (rename (settled next))) (sym shows)
    ∙ (renamed_all (settled next) (shown (own_base (length es))) (renamed (own_base (length es)) [] next) es
    (λ y. settled_shown (own_base (length es)) next y (omega arith))
    ∙ ap (λ (k : ℕ). map (rename (renamed (own_base k) [] next)) es) (sym size))

-- ---- what a class that is written names is written

module _ (task : Task) (waits : List Wait) (are : AreWaits task.classes waits) (done : ℕ → Bool)
    (before : Section) (new_index : List ℕ) (next : ℕ) (b : IsBegun task done before new_index next) where
  abbrev T : IndexSpace
  T = index_space task.section

  abbrev B : IndexSpace
  B = index_space before

  names_written :
      (w : Wait) (class : Class) → Contains waits w → slice_get task.classes w.waiting ≡ Some class →
      done class.first ≡ true → done w.named ≡ true
  names_written w class m at d =
      let x = outer_name task w.waiting class at w.named (waits_for task.classes waits are w m) in
      let o = task.are.of_class w.waiting class at in
      let p = slot_of new_index (slot_of task.slots o.head) in
      let e = b.equal o.head o.marked (ap done o.slot ∙ d) in
      let y = named_there T B o.head p x.1.0 x.0 (groups_of T B o.head p e) x.1.1 x.1.2 in
      ap done x.2
      ∙ done_if_there task done before new_index next b x.0 y.0
      (mark_of_name task o.head x.0 o.marked x.1) (named_of T B o.head p e x.0 y.0 y.1 x.1.3)

-- ---- the least class

module _ (task : Task) (waits : List Wait) (are : AreWaits task.classes waits) (done : ℕ → Bool)
    (before : Section) (new_index : List ℕ) (next : ℕ) (b : IsBegun task done before new_index next)
    (counts : List ℕ) (opens : AreOpen task waits done done 0 counts) (now : List Class)
    (ds : List Definition) (place : ℕ) (rest : List (List Definition × ℕ))
    (queue : IsQueue task done new_index (IsReady task done counts) now ((ds, place) ∷ rest))
    (above : (es : List Definition) (d : ℕ) → Contains rest (es, d) → IsLtBy definitions_cmp ds es)
    (first count end : ℕ) (first_is : (k : Class) → slice_get now place ≡ Some k → first ≡ k.first)
    (entries : List EntryAt) (shows : shown_definitions (map entry_definition entries) ≡ ds)
    (count_is : count ≡ length entries) (end_is : end ≡ min (first + count) 18446744073709551615)
    (newer : List ℕ) (next' : ℕ)
    (given : first + length entries ≤ length new_index → next + length entries < 2 ^ 32 →
    GivesIndices new_index newer first (length entries) next)
    (long : length newer ≡ length new_index)
    (next_is : next + length entries < 2 ^ 32 → next' ≡ next + length entries) where
  abbrev S : IndexSpace
  S = index_space task.section

  found : IsReady task done counts place × ((class : Class) × (slice_get task.classes place ≡ Some class)
      × IsReadyAs task done new_index class ds)
  found = queue.queued ds place (contained_first rest (ds, place))

  abbrev class : Class
  class = found.1.0

  abbrev n : ℕ
  n = length class.entries

  at : slice_get task.classes place ≡ Some class
  at = found.1.1

  q : IsReadyAs task done new_index class ds
  q = found.1.2

  undone : done class.first ≡ false
  undone = let same : found.0.0 ≡ class = same_Some found.0.0 class (sym found.0.1 ∙ at) in
      ap (λ (k : Class). done k.first) (sym same) ∙ found.0.2

  size : length entries ≡ n
  size =
      let a = ap (λ (es : List Definition). length es) shows in
      let l = length-map (map entry_definition entries)
      (rename (shown (own_base (length (map entry_definition entries))))) in
      omega (arith, a, l, length-map entries entry_definition, q.size)

  same_first : first ≡ class.first
  same_first = let k = queue.firsts place class at in first_is k.0 k.1 ∙ k.2

  room : (index_space before).count + n ≤ S.count
  room =
      let z = ready_room task done before new_index next b class ds q undone in
      omega (arith, z, q.size)

  fits : class.first + n ≤ task.slot_count
  fits = task.are.fit place class at

  same_end : end ≡ class.first + n
  same_end =
      omega (arith, end_is, count_is, fits, task.are.few, task.well.few, size, same_first)

  small : next + length entries < 2 ^ 32
  small =
      omega (arith, room, task.well.few, size, b.next_is)

  gives : GivesIndices new_index newer class.first n next
  gives =
      let s = size in
      let e = same_first in
      subst (λ (u : ℕ). GivesIndices new_index newer u n next) e
      (subst (λ (u : ℕ). GivesIndices new_index newer first u next) s
      (given (omega (arith, fits, b.one_each, s, e)) small))

  abbrev final : List Definition
  final = map (rename (settled next)) ds

  abbrev after : ℕ → Bool
  after = with_slots done first end

  abbrev own_after : ℕ → Bool
  own_after = with_slots done class.first (class.first + n)

  same_after : own_after ≡ after
  same_after =
      ap (λ (u : ℕ). with_slots done u (class.first + n)) (sym same_first)
      ∙ ap (λ (u : ℕ). with_slots done first u) (sym same_end)

  abbrev more : Section
  more = before ++ plain_group (map (rename (renamed (own_base (length entries)) [] next))
      (map entry_definition entries)) ∷ []

  same_more : before ++ plain_group final ∷ [] ≡ more
  same_more =
      ap (λ (es : List Definition). before ++ plain_group es ∷ [])
      (settles_as_written ds (map entry_definition entries) next (length entries) shows
      (sym (length-map entries entry_definition)) (omega (arith, task.well.few, room, size)))

  pub begun : IsBegun task after more newer next'
  begun =
      let same_next : next + n ≡ next' = omega (arith, size, next_is small) in
      rw (same_after, same_more, same_next) at (class_written task done before new_index newer next b place
      class at undone ds q long gives (least task waits are done before new_index next b counts opens now ds
      place class rest queue q undone above))

  pub grows : (index_space before).count < (index_space more).count
  grows = subst (λ (u : Section). (index_space before).count < (index_space u).count) same_more
      (count_grows task done before new_index newer next b place class at undone ds q long gives)

  pub queue_now : IsQueue task after newer (IsReady task after counts) now rest
  queue_now = subst (λ (u : ℕ → Bool). IsQueue task u newer (IsReady task u counts) now rest) same_after
      (one_written task done new_index newer counts now place class ds rest queue at undone
      (same_indices task done before new_index newer next b place class at undone ds q long gives))

  pub open_now : AreOpen task waits done after 0 counts
  open_now = none_released task waits done after counts opens

  pub undone_range : (x : ℕ) → first ≤ x → x < end → done x ≡ false
  undone_range x low high =
      let f = same_first in
      let p = x - class.first in
      let is : class.first + p ≡ x = omega (arith, low, f) in
      ap done (sym is) ∙ (b.whole place p class at (omega (arith, low, high, f, same_end)) ∙ undone)

  pub can_release : CanRelease task (release_of waits done after)
  can_release = subst (λ (u : ℕ → Bool). CanRelease task (release_of waits done u)) same_after (record {
    are = are;
    more = still_done done class.first (class.first + n);
    waiting = waiting;
  })
    where
      waiting :
          (w : Wait) (other : Class) → Contains waits w → slice_get task.classes w.waiting ≡ Some other →
          done w.named ≡ false → own_after other.first ≡ false
      waiting w other m at_w still = false_from_ne_true (own_after other.first) (λ z.
          elim (cases_eq w.waiting place) [
            | inl here ↦ (
                let low = slice_get_within counts place 0 found.0.3 in
                let d = nothing_open task waits done done 0 place counts opens low found.0.3 (λ x y. y) w m
                here in
                let k : true ≡ false = sym d ∙ still in cc)
            | inr apart ↦ (
                let same = other_first task done place class at w.waiting other at_w apart in
                let d = names_written task waits are done before new_index next b w other m at_w
                (sym same ∙ z) in
                let k : true ≡ false = sym d ∙ still in cc)
          ])

  pub outcome :
      (old mid new : Writer) → ¬ (old.ready ≡ []) → mid.new_index.items ≡ newer →
      mid.next ≡ next' → map group_of mid.written.items ≡ more → mid.counts.items ≡ counts →
      mid.classes.items ≡ now → mid.ready ≡ rest →
      (CanRelease task (release_of waits done after) → ((x : ℕ) → first ≤ x → x < end → done x ≡ false) →
      IsReleasing task (release_of waits done after) more 0 mid → IsWriting task waits after more new) →
      HasWritten task waits done before old new
  outcome old mid new some e_indices e_next e_written e_counts e_classes e_ready released = inr (
    after,
    more,
    some,
    grows,
    released can_release undone_range (record {
      begun = rw (e_next, e_indices) begun;
      written = e_written;
      counts = rw e_counts open_now;
      queue = rw (e_ready, e_classes, e_counts, e_indices) queue_now;
    }),
  )

-- ---- where all has been written

pub none_ready :
    (task : Task) (waits : List Wait) (done : ℕ → Bool) (before : Section) (new_index : List ℕ) (next : ℕ)
    (b : IsBegun task done before new_index next) (counts : List ℕ) (now : List Class)
    (queue : List (List Definition × ℕ)) → IsQueue task done new_index (IsReady task done counts) now queue →
    (index_space task.section).count ≤ (index_space before).count → queue ≡ []
none_ready task waits done before new_index next b counts now [] q full = refl
none_ready task waits done before new_index next b counts now ((ds, c) ∷ queue) q full = absurd (
    let z = q.queued ds c (contained_first queue (ds, c)) in
    let class = z.1.0 in
    let same : z.0.0 ≡ class = same_Some z.0.0 class (sym z.0.1 ∙ z.1.1) in
    let undone : done class.first ≡ false = ap (λ (k : Class). done k.first) (sym same) ∙ z.0.2 in
    let r = ready_room task done before new_index next b class ds z.1.2 undone in
    omega (arith, full, r, z.1.2.size, filled task c class z.1.1))
