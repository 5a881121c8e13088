-- The queue has all groups that can come next, so its least is the least of them.
use Rattle.std.proofs.Common.{◌≡◌, ℕ, Bool, true, false, ◌+◌, ◌<◌, List, [], ◌∷◌, length, map, slice_get, Some, inl, inr, ◌∙◌, refl, sym, ap, subst, Contains, arith}
use Rattle.std.specs.declared.cmp.Ordering.TheVariants.{Less}
use Rattle.std.specs.List.{flat_map}
use Rattle.std.proofs.lemmas.List.Folds.{flat_map-map}
use Rattle.std.proofs.lemmas.Option.{same_Some, slice_get_within}
use Rattle.walrus_ty.specs.Definition.{Definition, names_of, rename}
use Rattle.walrus_ty.specs.Groups.{Section}
use Rattle.walrus_ty.specs.Records.{entry_definition}
use Rattle.walrus_ty.specs.declared.records.EntryAt.{EntryAt}
use Rattle.walrus_sections.specs.Section.{IndexSpace, index_space}
use Rattle.walrus_canonical.specs.declared.classes.Class.{Class}
use Rattle.walrus_canonical.specs.declared.waiting.Wait.{Wait}
use Rattle.walrus_canonical.specs.EqualTypes.{IsMember, IsInGroup, NamesOutside, AreEqual}
use Rattle.walrus_canonical.specs.Greedy.{IsWrittenAs, CanComeNext, AreLeast}
use Rattle.walrus_canonical.specs.Steps.Classes.{slot_of, own_number, IsOfClass}
use Rattle.walrus_canonical.specs.Steps.Marks.{IsMarked}
use Rattle.walrus_canonical.specs.Steps.Shown.{own_base, definitions_cmp}
use Rattle.walrus_canonical.specs.Steps.Waits.{names_in, AreWaits, open_count}
use Rattle.walrus_canonical.specs.Steps.Writing.{Task, IsBegun, IsReadyAs, IsQueue, IsReady, AreOpen, settled}
use Rattle.walrus_canonical.proofs.Waits.ClassWaits.{NamesSlot, waits_for, wait_there}
use Rattle.walrus_canonical.proofs.Reading.Containing.{contained_at, contained_from, contained_cases, contained_none, in_flat, flat_in}
use Rattle.walrus_canonical.proofs.Equality.Definitions.{names_what_stands}
use Rattle.walrus_canonical.proofs.Equality.EqualTypes.{equal_itself, equal_mates, equal_over, groups_of}
use Rattle.walrus_canonical.proofs.Equality.Members.{mate_from}
use Rattle.walrus_canonical.proofs.Forms.NextGroups.{Around, around}
use Rattle.walrus_canonical.proofs.Waits.OpenWaits.{open_zero, nothing_open}
use Rattle.std.proofs.lemmas.Bool.{false_from_ne_true}
use Rattle.walrus_canonical.proofs.Output.ReadyGroups.{mark_of_need, mark_of_mate, mark_of_name, marked_low, equal_of_slots, done_if_there, can_come}
use Rattle.walrus_canonical.proofs.Output.ReadyOrder.{order_kept}
use Rattle.walrus_canonical.proofs.Forms.Orders.{not_itself}
use Rattle.std.proofs.lemmas.Cmp.{lists_total}
use Rattle.walrus_ty.proofs.Names.Definitions.{definitions_total}
use Rattle.walrus_canonical.proofs.Equality.Written.{said_anew, of_mate, of_equal, stands_there, name_there, outside_stood}
use Rattle.walrus_canonical.proofs.Forms.Writing.{written_once}

-- ---- what a class names and what its records name

all_names :
    (entries : List EntryAt) → flat_map names_of (map entry_definition entries) ≡ names_in entries
all_names entries = flat_map-map names_of entry_definition entries

module _ (task : Task) (c : ℕ) (class : Class) (at : slice_get task.classes c ≡ Some class) where
  abbrev S : IndexSpace
  S = index_space task.section

  abbrev o : IsOfClass S task.marks S.count task.slots class.first class.entries
  o = task.are.of_class c class at

  abbrev own : List Definition
  own = map entry_definition class.entries

  -- what a class names outside of its group it waits for
  pub names_slot : (x : ℕ) → NamesOutside S o.head x → NamesSlot task.classes c (slot_of task.slots x)
  names_slot x u =
      let s = stands_there S (own_number (length class.entries)) (λ y z. z ≡ slot_of task.slots y) o.head own
      o.records u.0 x u.1 u.2 in
      let is = o.records.others x s.0 s.1 u.3 in record {
        class = class;
        at = at;
        names = subst (λ (u : ℕ). Contains (names_in class.entries) u) is
            (subst (λ (ns : List ℕ). Contains ns s.0) (all_names class.entries)
            (flat_in names_of own s.1.definition s.0 (contained_from own s.1.definition s.1.place s.1.written)
            (names_what_stands s.1.definition s.1.position s.0 s.1.new_name)));
        low = o.fits x u;
      }

  -- and what it waits for it names outside of its group
  pub outer_name :
      (slot : ℕ) → NamesSlot task.classes c slot → (x : ℕ) × NamesOutside S o.head x
      × (slot ≡ slot_of task.slots x)
  outer_name slot n =
      let same : n.class ≡ class = same_Some n.class class (sym n.at ∙ at) in
      let names : Contains (names_in class.entries) slot =
      subst (λ (k : Class). Contains (names_in k.entries) slot) same n.names in
      let low : slot < own_base (length class.entries) =
      subst (λ (k : Class). slot < own_base (length k.entries)) same n.low in
      let r = in_flat names_of own slot
      (subst (λ (ns : List ℕ). Contains ns slot) (sym (all_names class.entries)) names) in
      let t = contained_at own r.0 r.1 in
      let x = name_there S (own_number (length class.entries)) (λ y z. z ≡ slot_of task.slots y) o.head own
      o.records t.0 slot r.0 t.1 r.2 in
      let outside : IsInGroup S o.head x.0 → ⊥ = λ m. (
      omega (arith, o.records.own x.0 slot m.0 x.1 m.1, low)) in
      (x.0, outside_stood x.1 outside, o.records.others x.0 slot x.1 outside)

-- a class that waits for nothing names what is written
pub outer_written :
    (task : Task) (waits : List Wait) (done after : ℕ → Bool) (at : ℕ) (counts : List ℕ) →
    AreWaits task.classes waits → AreOpen task waits done after at counts →
    ((x : ℕ) → done x ≡ true → after x ≡ true) → (c : ℕ) (class : Class)
    (is : slice_get task.classes c ≡ Some class) → slice_get counts c ≡ Some 0 → (x : ℕ) →
    NamesOutside (index_space task.section) (task.are.of_class c class is).head x →
    after (slot_of task.slots x) ≡ true
outer_written task waits done after at counts are opens more c class is none x o =
    nothing_open task waits done after at c counts opens (slice_get_within counts c 0 none) none more
    (record { named = slot_of task.slots x; waiting = c })
    (wait_there task.classes waits are c (slot_of task.slots x) (names_slot task c class is x o))
    refl

-- ---- what can come next is of a class that is ready

module _ (task : Task) (waits : List Wait) (are : AreWaits task.classes waits) (done : ℕ → Bool)
    (before : Section) (new_index : List ℕ) (next : ℕ) (b : IsBegun task done before new_index next)
    (counts : List ℕ) (opens : AreOpen task waits done done 0 counts) where
  abbrev T : IndexSpace
  T = index_space task.section

  abbrev B : IndexSpace
  B = index_space before

  -- the class of what can come next
  pub record ComesOf (others : List Definition) : Type 0 where
    pub c : ℕ
    pub ready : IsReady task done counts c
    pub written :
        (head : ℕ) → IsMarked task.marks head → IsMember T head 0 head →
        slot_of task.slots head ≡ ready.0.first → IsWrittenAs T B head others

  module _ (j : ℕ) (others : List Definition) (can : CanComeNext T task.roots B j others) where
    marked : IsMarked task.marks j
    marked = mark_of_need task j can.needed

    abbrev a : Around T j
    a = around task.section j (marked_low task j marked)

    to_j : IsMember T a.head a.place j
    to_j = subst (λ (u : ℕ). IsMember T a.head a.place u) (sym a.is) (a.begins.member a.place a.low)

    own_head : IsMember T a.head 0 a.head
    own_head = let z : a.head + 0 ≡ a.head = omega arith in
        subst (λ (u : ℕ). IsMember T a.head 0 u) z (a.begins.member 0 a.begins.filled)

    to_head : IsMember T j 0 a.head
    to_head = mate_from T a.head a.place j 0 a.head to_j own_head

    marked_head : IsMarked task.marks a.head
    marked_head = mark_of_mate task j a.head marked (0, to_head)

    written_head : IsWrittenAs T B a.head others
    written_head = of_mate T (λ p. B.count + p) (AreEqual T B) j others can.written 0 a.head to_head

    of_head :
        (head : ℕ) → IsMarked task.marks head → slot_of task.slots a.head ≡ slot_of task.slots head →
        IsWrittenAs T B head others
    of_head head m e = said_anew T (λ p. B.count + p) _ head others
        (of_equal T T head a.head (equal_of_slots task head a.head m marked_head (sym e)) (λ p. B.count + p)
        (AreEqual T B) others written_head) (λ p. B.count + p) (AreEqual T B) (λ p h. refl)
        (λ x z o k. equal_over T T B x k.0 z k.2 k.3)

    undone : done (slot_of task.slots a.head) ≡ false
    undone = false_from_ne_true (done (slot_of task.slots a.head)) (λ h. (
        let e = b.equal a.head marked_head h in
        let p = slot_of new_index (slot_of task.slots a.head) in
        let l = (groups_of T B a.head p e).first_places j a.place to_j in
        can.fresh l.0 (equal_mates T B a.head p a.place j l.0 e to_j l.1)))

    abbrev k : (c : ℕ) × (class : Class) × (slice_get task.classes c ≡ Some class)
        × (class.first ≡ slot_of task.slots a.head)
    k = task.are.class_of a.head marked_head own_head

    waits_for_none : (w : Wait) → Contains waits w → w.waiting ≡ k.0 → done w.named ≡ true
    waits_for_none w m same =
        let o = task.are.of_class k.0 k.1 k.2 in
        let n = subst (λ (u : ℕ). NamesSlot task.classes u w.named) same
        (waits_for task.classes waits are w m)
        in
        let x = outer_name task k.0 k.1 k.2 w.named n in
        let v = of_head o.head o.marked (sym k.3 ∙ sym o.slot) in
        let y = stands_there T (λ p. B.count + p) (AreEqual T B) o.head others v x.1.0 x.0 x.1.1 x.1.2 in
        ap done x.2
        ∙ done_if_there task done before new_index next b x.0 y.0
        (mark_of_name task o.head x.0 o.marked x.1) (v.others x.0 y.0 y.1 x.1.3)

    none_open : slice_get counts k.0 ≡ Some 0
    none_open =
        let low = slice_get_within task.classes k.0 k.1 k.2 in
        let long = opens.one_each in
        let none = open_zero done waits k.0 waits_for_none in
        let nil : open_count done [] k.0 ≡ 0 = refl in
        opens.each k.0 (omega (arith, low, long)) ∙ ap (λ (n : ℕ). Some n) (omega (arith, none, nil))

    pub comes_of : ComesOf others
    comes_of = record {
      c = k.0;
      ready = (k.1, k.2, ap done k.3 ∙ undone, none_open);
      written = λ head m own e. of_head head m (sym k.3 ∙ sym e);
    }

  -- ---- the least of the queue

  module _ (now : List Class) (ds : List Definition) (c : ℕ) (class : Class)
      (rest : List (List Definition × ℕ))
      (queue : IsQueue task done new_index (IsReady task done counts) now ((ds, c) ∷ rest))
      (q : IsReadyAs task done new_index class ds) (undone_class : done class.first ≡ false)
      (above : (es : List Definition) (d : ℕ) → Contains rest (es, d) → definitions_cmp ds es ≡ Less) where
    pub least : AreLeast T task.roots B (map (rename (settled next)) ds)
    least j others can less =
        let r = comes_of j others can in
        let e = queue.there r.c r.ready in
        let z = (queue.queued e.0 r.c e.1).1 in
        let same : z.0 ≡ r.ready.0 = same_Some z.0 r.ready.0 (sym z.1 ∙ r.ready.1) in
        let p = z.2 in
        let undone_too : done z.0.first ≡ false = ap (λ (k : Class). done k.first) same ∙ r.ready.2 in
        let w = (can_come task done before new_index next b z.0 e.0 p undone_too).written in
        let v = r.written p.head p.marked p.member (p.slot ∙ ap (λ (k : Class). k.first) same) in
        let is : others ≡ map (rename (settled next)) e.0 =
        written_once task.section before b.beginning.apart p.head p.head
        (equal_itself task.section task.well.below_ends p.head (marked_low task p.head p.marked)) others
        (map (rename (settled next)) e.0) v w
        in
        let lower : definitions_cmp e.0 ds ≡ Less =
        sym (order_kept task done before new_index next b z.0 class e.0 ds p q undone_too undone_class)
        ∙ (ap (λ (xs : List Definition). definitions_cmp xs (map (rename (settled next)) ds)) (sym is) ∙ less)
        in
        elim (contained_cases rest (ds, c) (e.0, r.c) e.1) [
          | inl first ↦ not_itself ds (
              let here : ds ≡ e.0 = ap (λ (x : List Definition × ℕ). x.0) first in
              ap (λ (xs : List Definition). definitions_cmp xs ds) here ∙ lower)
          | inr later ↦ not_itself ds
              ((lists_total definitions_total).trans ds e.0 ds (above e.0 r.c later) lower)
        ]

  -- where the queue is empty nothing can come next
  pub none_comes :
      (now : List Class) → IsQueue task done new_index (IsReady task done counts) now [] →
      (j : ℕ) (others : List Definition) → ¬ (CanComeNext T task.roots B j others)
  none_comes now queue j others can =
      let r = comes_of j others can in
      contained_none ((queue.there r.c r.ready).0, r.c) (queue.there r.c r.ready).1
