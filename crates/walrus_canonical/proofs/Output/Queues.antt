-- The queue of the groups that are ready: one more, and one less.
use Rattle.std.proofs.Common.{◌≡◌, ℕ, Bool, true, false, ◌+◌, ◌<◌, List, [], ◌∷◌, ◌++◌, length, map, slice_get, Some, ◌⊎◌, inl, inr, ◌∙◌, refl, sym, ap, subst, Contains, arith}
use Rattle.std.specs.Prelude.{nat_eq}
use Rattle.std.specs.List.{IsDistinct, list_any}
use Rattle.std.specs.List.Sorted.{IsPermutation}
use Rattle.std.proofs.lemmas.List.Elements.{Contains-append_left, Contains-append_right, Contains-append_cases}
use Rattle.std.proofs.lemmas.Bool.Decides.{nat_tests}
use Rattle.std.proofs.lemmas.Cmp.{nat_eq_equiv}
use Rattle.std.proofs.lemmas.List.{map-append}
use Rattle.std.proofs.lemmas.List.Sorted.{Contains-permutation, IsPermutation-sym}
use Rattle.std.proofs.lemmas.Map.Keys.{IsDistinct-push, IsDistinct-tail}
use Rattle.std.proofs.lemmas.Option.{same_Some}
use Rattle.walrus_ty.specs.Definition.{Definition}
use Rattle.walrus_ty.specs.Groups.{Section}
use Rattle.walrus_canonical.specs.declared.classes.Class.{Class}
use Rattle.walrus_canonical.specs.Steps.Classes.{slot_of}
use Rattle.walrus_canonical.specs.Steps.Queues.{AreApart, HasEachOnce}
use Rattle.walrus_canonical.specs.Steps.Writing.{Task, IsBegun, IsReadyAs, IsQueue, IsReady, with_slots}
use Rattle.walrus_canonical.proofs.Reading.Containing.{contained_first, contained_later, contained_cases, contained_none}
use Rattle.walrus_canonical.proofs.Reading.NeededGroups.{class_at, first_at}
use Rattle.walrus_canonical.proofs.Output.ReadyGroups.{ready_stays}
use Rattle.walrus_canonical.proofs.Output.ReadyOrder.{one_place, same_class}
use Rattle.walrus_canonical.proofs.Output.OrderedQueues.{no_other, once_too, places}
use Rattle.walrus_canonical.proofs.Output.WrittenSlots.{still_done, was_undone, first_written, other_first}

abbrev Entry : Type 0
Entry = List Definition × ℕ

pub pushed_cases : (es : List Entry) (x y : Entry) → Contains (es ++ x ∷ []) y → (x ≡ y) ⊎ Contains es y
pushed_cases es x y m = elim (Contains-append_cases es (x ∷ []) y m) [
  | inl old ↦ inr old
  | inr new ↦ elim (contained_cases [] x y new) [
    | inl is ↦ inl is
    | inr none ↦ absurd (contained_none y none)
  ]
]

-- ---- the same queue by another test

pub told_anew :
    (task : Task) (done : ℕ → Bool) (new_index : List ℕ) (ready newer : ℕ → Type 0) (now : List Class)
    (queue : List Entry) → IsQueue task done new_index ready now queue → ((c : ℕ) → ready c → newer c) →
    ((c : ℕ) → newer c → ready c) → IsQueue task done new_index newer now queue
told_anew task done new_index ready newer now queue q forth back = record {
  queued = λ ds c m. (let z = q.queued ds c m in (forth c z.0, z.1));
  there = λ c r. q.there c (back c r);
  once = q.once;
  firsts = q.firsts;
  left = λ c class at none undone. q.left c class at (λ r. none (forth c r)) undone;
}

-- the same queue in another order
pub queued_anew :
    (task : Task) (done : ℕ → Bool) (new_index : List ℕ) (ready : ℕ → Type 0) (now : List Class)
    (queue other : List Entry) → IsQueue task done new_index ready now queue → IsPermutation queue other →
    IsQueue task done new_index ready now other
queued_anew task done new_index ready now queue other q same = record {
  queued = λ ds c m. q.queued ds c
      (Contains-permutation other queue (ds, c) (IsPermutation-sym queue other same) m);
  there = λ c r. (let z = q.there c r in (z.0, Contains-permutation queue other (z.0, c) same z.1));
  once = once_too queue other same q.once;
  firsts = q.firsts;
  left = q.left;
}

-- a group is of one class
pub queue_apart :
    (task : Task) (done : ℕ → Bool) (before : Section) (new_index : List ℕ) (next : ℕ) →
    IsBegun task done before new_index next → (counts : List ℕ) (now : List Class) (queue : List Entry) →
    IsQueue task done new_index (IsReady task done counts) now queue → AreApart queue
queue_apart task done before new_index next b counts now queue q = (
  q.once,
  λ ds c d m n. (
      let y = q.queued ds c m in
      let z = q.queued ds d n in
      one_place task c d y.1.0 z.1.0 y.1.1 z.1.1
      (same_class task done before new_index next b y.1.0 z.1.0 ds ds y.1.2 z.1.2
      (undone y.0.0 y.1.0 c y.0.1 y.1.1 y.0.2) (undone z.0.0 z.1.0 d z.0.1 z.1.1 z.0.2) refl)),
)
  where
    undone :
        (k l : Class) (e : ℕ) → slice_get task.classes e ≡ Some k → slice_get task.classes e ≡ Some l →
        done k.first ≡ false → done l.first ≡ false
    undone k l e p r u =
        let same : k ≡ l = same_Some k l (sym p ∙ r) in ap (λ (x : Class). done x.first) (sym same) ∙ u

not_among :
    (es : List Entry) (c : ℕ) → ((ds : List Definition) → Contains es (ds, c) → ⊥) →
    list_any (nat_eq c) (places es) ≡ false
not_among [] c none = refl
not_among (e ∷ es) c none =
    go (nat_eq c e.1) refl (not_among es c (λ ds m. none ds (contained_later es e (ds, c) m)))
  where
    go :
        (b : Bool) → nat_eq c e.1 ≡ b → list_any (nat_eq c) (places es) ≡ false →
        list_any (nat_eq c) (places (e ∷ es)) ≡ false
    go true h rest =
        let is : c ≡ e.1 = grind (arith, nat_tests, h) in
        absurd (none e.0 (subst (λ (n : ℕ). Contains (e ∷ es) (e.0, n)) (sym is) (contained_first es e)))
    go false h rest = rw h rest

-- ---- one more

module _ (task : Task) (done : ℕ → Bool) (new_index : List ℕ) (ready : ℕ → Type 0) (now after : List Class)
    (queue : List Entry) (q : IsQueue task done new_index ready now queue) (c : ℕ) (class : Class)
    (at : slice_get task.classes c ≡ Some class) (fresh : ¬ (ready c)) (ds : List Definition)
    (is_ready : IsReadyAs task done new_index class ds)
    (firsts : map (λ (k : Class). k.first) after ≡ map (λ (k : Class). k.first) now)
    (others : (d : ℕ) → ¬ (d ≡ c) → slice_get after d ≡ slice_get now d) where
  abbrev with_this : ℕ → Type 0
  with_this d = ready d ⊎ (d ≡ c)

  abbrev longer : List Entry
  longer = queue ++ (ds, c) ∷ []

  not_queued : (es : List Definition) → Contains queue (es, c) → ⊥
  not_queued es m = fresh (q.queued es c m).0

  parts : (es : List Definition) (d : ℕ) → ◌≡◌ {A = Entry} (ds, c) (es, d) → (ds ≡ es) × (c ≡ d)
  parts es d e = (ap (λ (x : Entry). x.0) e, ap (λ (x : Entry). x.1) e)

  queued_now :
      (es : List Definition) (d : ℕ) → Contains longer (es, d) → with_this d
      × ((other : Class) × (slice_get task.classes d ≡ Some other) × IsReadyAs task done new_index other es)
  queued_now es d m = elim (pushed_cases queue (ds, c) (es, d) m) [
    | inl is ↦ (let p = parts es d is in (
      inr (sym p.1),
      (
        class,
        ap (slice_get task.classes) (sym p.1) ∙ at,
        subst (λ (xs : List Definition). IsReadyAs task done new_index class xs) p.0 is_ready,
      ),
    ))
    | inr old ↦ (let z = q.queued es d old in (inl z.0, z.1))
  ]

  once_now : HasEachOnce longer
  once_now = subst (λ (ns : List ℕ). IsDistinct nat_eq ns)
      (sym (map-append (λ (x : Entry). x.1) queue ((ds, c) ∷ [])))
      (IsDistinct-push nat_eq_equiv (places queue) c q.once (not_among queue c not_queued))

  firsts_now :
      (d : ℕ) (other : Class) → slice_get task.classes d ≡ Some other → (k : Class)
      × (slice_get after d ≡ Some k) × (k.first ≡ other.first)
  firsts_now d other at_d =
      let z = q.firsts d other at_d in
      let k = class_at after d z.0.first
      (ap (λ (ns : List ℕ). slice_get ns d) firsts ∙ first_at now d z.0 z.1) in
      (k.0, k.1, k.2 ∙ z.2)

  pub one_queued : IsQueue task done new_index with_this after longer
  one_queued = record {
    queued = queued_now;
    there = λ d r. elim r [
      | inl old ↦ (let z = q.there d old in
          (z.0, Contains-append_left queue ((ds, c) ∷ []) (z.0, d) z.1))
      | inr is ↦ (
        ds,
        subst (λ (u : ℕ). Contains longer (ds, u)) (sym is)
            (Contains-append_right queue ((ds, c) ∷ []) (ds, c) (contained_first [] (ds, c))),
      )
    ];
    once = once_now;
    firsts = firsts_now;
    left = λ d other at_d none undone. (
        let apart : d ≡ c → ⊥ = λ e. none (inr e) in
        others d apart ∙ q.left d other at_d (λ r. none (inl r)) undone);
  }

-- ---- one less, whose slots are written

module _ (task : Task) (done : ℕ → Bool) (new_index newer counts : List ℕ) (now : List Class) (c : ℕ)
    (class : Class) (ds : List Definition) (rest : List Entry)
    (q : IsQueue task done new_index (IsReady task done counts) now ((ds, c) ∷ rest))
    (at : slice_get task.classes c ≡ Some class) (undone : done class.first ≡ false)
    (same : (x : ℕ) → done x ≡ true → x < task.slot_count → slot_of new_index x ≡ slot_of newer x) where
  abbrev end : ℕ
  end = class.first + length class.entries

  abbrev more : ℕ → Bool
  more = with_slots done class.first end

  filled_now : more class.first ≡ true
  filled_now = first_written task done c class at

  not_first : (es : List Definition) → Contains rest (es, c) → ⊥
  not_first es m = no_other (ds, c) rest q.once (es, c) m refl

  ready_forth : (d : ℕ) → IsReady task done counts d → ¬ (d ≡ c) → IsReady task more counts d
  ready_forth d r apart = (
    r.0,
    r.1,
    other_first task done c class at d r.0 r.1 apart ∙ r.2,
    r.3,
  )

  ready_back : (d : ℕ) → IsReady task more counts d → IsReady task done counts d × (¬ (d ≡ c))
  ready_back d r = (
    (r.0, r.1, was_undone done class.first end r.0.first r.2, r.3),
    λ e. (
        let is : r.0 ≡ class = same_Some r.0 class (sym r.1 ∙ (ap (slice_get task.classes) e ∙ at)) in
        let z : true ≡ false = sym filled_now ∙ (ap (λ (k : Class). more k.first) (sym is) ∙ r.2) in
        absurd cc),
  )

  pub one_written : IsQueue task more newer (IsReady task more counts) now rest
  one_written = record {
    queued = λ es d m. (
        let z = q.queued es d (contained_later rest (ds, c) (es, d) m) in
        let apart : d ≡ c → ⊥ = λ e. not_first es (subst (λ (u : ℕ). Contains rest (es, u)) e m) in (
          ready_forth d z.0 apart,
          (
            z.1.0,
            z.1.1,
            ready_stays task done more new_index newer z.1.0 es z.1.2 (still_done done class.first end) same,
          ),
        ));
    there = λ d r. (
        let b = ready_back d r in
        let z = q.there d b.0 in (
          z.0,
          elim (contained_cases rest (ds, c) (z.0, d) z.1) [
            | inl is ↦ absurd (b.1 (sym (ap (λ (x : Entry). x.1) is)))
            | inr later ↦ later
          ],
        ));
    once = IsDistinct-tail nat_eq c (places rest) q.once;
    firsts = q.firsts;
    left = λ d other at_d none opens. (
        let apart : d ≡ c → ⊥ = λ e. (
        let is : other ≡ class = same_Some other class (sym at_d ∙ (ap (slice_get task.classes) e ∙ at)) in
        let z : true ≡ false = sym filled_now ∙ (ap (λ (k : Class). more k.first) (sym is) ∙ opens) in
        absurd cc) in
        q.left d other at_d (λ r. none (ready_forth d r apart))
        (was_undone done class.first end other.first opens));
  }
