-- A class becomes ready.
use Rattle.std.proofs.Common.{◌≡◌, ℕ, Bool, true, false, ◌+◌, ◌<◌, ◌≤◌, List, [], ◌∷◌, ◌++◌, length, map, slice_get, Some, ◌⊎◌, inl, inr, ◌∙◌, refl, sym, ap, arith}
use Rattle.std.proofs.lemmas.Bool.{cases_eq}
use Rattle.std.proofs.lemmas.Option.{slice_get_within, slice_get-get_or}
use Rattle.std.specs.Prelude.{nat_eq}
use Rattle.std.proofs.lemmas.Map.Keys.{IsDistinct-from_apart}
use Rattle.walrus_ty.specs.Definition.{Definition, rename}
use Rattle.walrus_ty.specs.Groups.{Section}
use Rattle.walrus_ty.specs.Records.{entry_definition}
use Rattle.walrus_canonical.specs.declared.classes.Class.{Class}
use Rattle.walrus_canonical.specs.declared.waiting.Wait.{Wait}
use Rattle.walrus_canonical.specs.Steps.Classes.{class_at_place}
use Rattle.walrus_canonical.specs.Steps.Renamings.{renamed}
use Rattle.walrus_canonical.specs.Steps.Shown.{own_base, shown_definitions}
use Rattle.walrus_canonical.specs.Steps.Waits.{AreWaits}
use Rattle.walrus_canonical.specs.Steps.Writing.{Task, IsBegun, IsReadyAs, IsQueue, IsReady, AreOpen}
use Rattle.walrus_canonical.proofs.Output.LeastReady.{outer_written}
use Rattle.walrus_canonical.proofs.Output.Queues.{one_queued, told_anew}
use Rattle.walrus_canonical.proofs.Output.ReadyGroups.{becomes_ready}

-- the records of a class as the queue has them
abbrev pub queue_key : List ℕ → Class → List Definition
queue_key new_index k =
    shown_definitions (map (rename (renamed (own_base (length k.entries)) new_index
    (own_base (length k.entries))))
    (map entry_definition k.entries))

module _ (task : Task) (waits : List Wait) (done after : ℕ → Bool) (before : Section) (new_index : List ℕ)
    (next : ℕ) (b : IsBegun task after before new_index next) (at : ℕ) (counts : List ℕ)
    (are : AreWaits task.classes waits) (opens : AreOpen task waits done after at counts)
    (more : (x : ℕ) → done x ≡ true → after x ≡ true) (ready : ℕ → Type 0) (now newer : List Class)
    (queue : List (List Definition × ℕ))
    (q : IsQueue task after new_index ready now queue) (c : ℕ) (class : Class)
    (is : slice_get task.classes c ≡ Some class) (none : slice_get counts c ≡ Some 0)
    (undone : after class.first ≡ false) (fresh : ¬ (ready c)) (longer : List (List Definition × ℕ))
    (put : (k : Class) → slice_get now c ≡ Some k →
    longer ≡ queue ++ (queue_key new_index k, c) ∷ [])
    (firsts : map (λ (k : Class). k.first) newer ≡ map (λ (k : Class). k.first) now)
    (others : (d : ℕ) → ¬ (d ≡ c) → slice_get newer d ≡ slice_get now d) where
  abbrev ds : List Definition
  ds = queue_key new_index class

  is_ready : IsReadyAs task after new_index class ds
  is_ready = becomes_ready task after before new_index next b c class is undone
      (outer_written task waits done after at counts are opens more c class is none)

  pub pushed : IsQueue task after new_index (λ d. ready d ⊎ (d ≡ c)) newer longer
  pushed = rw (put class (q.left c class is fresh undone))
      (one_queued task after new_index ready now newer queue q c class is fresh ds is_ready firsts others)

-- ---- at the beginning, place after place

module _ (task : Task) (waits : List Wait) (are : AreWaits task.classes waits) (place : ℕ)
    (new_index : List ℕ) (next : ℕ) (b : IsBegun task (λ x. false) [] new_index next) (counts : List ℕ)
    (opens : AreOpen task waits (λ x. false) (λ x. false) 0 counts) (now : List Class)
    (queue : List (List Definition × ℕ))
    (q : IsQueue task (λ x. false) new_index (λ c. IsReady task (λ x. false) counts c × (c < place)) now
    queue)
  where
    abbrev Below : ℕ → ℕ → Type 0
    Below n c = IsReady task (λ x. false) counts c × (c < n)

    -- the class at the place waits for nothing
    pub one_opened :
        (newer : List Class) (longer : List (List Definition × ℕ)) → place < length task.classes →
        slice_get counts place ≡ Some 0 →
        ((k : Class) → slice_get now place ≡ Some k →
        longer ≡ queue ++ (queue_key new_index k, place) ∷ []) →
        map (λ (k : Class). k.first) newer ≡ map (λ (k : Class). k.first) now →
        ((d : ℕ) → ¬ (d ≡ place) → slice_get newer d ≡ slice_get now d) →
        IsQueue task (λ x. false) new_index (Below (place + 1)) newer longer
    one_opened newer longer low none put firsts others =
        let there = class_at_place task.classes place in
        let k : (k : Class) × (slice_get task.classes place ≡ Some k) =
        (there, slice_get-get_or task.classes place (record { first = 0; entries = [] }) low) in
        told_anew task (λ x. false) new_index (λ d. Below place d ⊎ (d ≡ place)) (Below (place + 1)) newer
        longer
        (pushed task waits (λ x. false) (λ x. false) [] new_index next b 0 counts are opens (λ x d. d)
        (Below place) now newer queue q place k.0 k.1 none refl
        (λ r. (omega (arith, r.1))) longer put firsts others)
        (λ d r. elim r [
          | inl x ↦ (let l = x.1 in (x.0, omega (arith, l)))
          | inr e ↦ (
            (k.0, ap (slice_get task.classes) e ∙ k.1, refl, ap (slice_get counts) e ∙ none),
            omega (arith, e),
          )
        ])
        (λ d r. elim (cases_eq d place) [
          | inl e ↦ inr e
          | inr apart ↦ (let l = r.1 in inl (r.0, omega (arith, l, apart)))
        ])

    -- it waits for something
    pub one_waits :
        ¬ (slice_get counts place ≡ Some 0) → IsQueue task (λ x. false) new_index (Below (place + 1)) now
        queue
    one_waits some = told_anew task (λ x. false) new_index (Below place) (Below (place + 1)) now queue q
        (λ d r. (let l = r.1 in (r.0, omega (arith, l))))
        (λ d r. elim (cases_eq d place) [
          | inl e ↦ absurd (some (ap (slice_get counts) (sym e) ∙ r.0.3))
          | inr apart ↦ (let l = r.1 in (r.0, omega (arith, l, apart)))
        ])

    -- all places are passed
    pub all_opened :
        length task.classes ≤ place →
        IsQueue task (λ x. false) new_index (IsReady task (λ x. false) counts) now queue
    all_opened all = told_anew task (λ x. false) new_index (Below place) (IsReady task (λ x. false) counts)
        now
        queue q (λ d r. r.0)
        (λ d r. (r, (omega (arith, slice_get_within task.classes d r.0 r.1, all))))

-- at first the queue is empty
pub none_opened :
    (task : Task) (new_index counts : List ℕ) →
    IsQueue task (λ x. false) new_index (λ c. IsReady task (λ x. false) counts c × (c < 0)) task.classes []
none_opened task new_index counts = record {
  queued = λ ds c m. absurd (omega (arith, m.1));
  there = λ c r. absurd (omega (arith, r.1));
  once = IsDistinct-from_apart nat_eq [] (λ i j d less below. absurd (omega (arith, below)));
  firsts = λ c class is. (class, is, refl);
  left = λ c class is none undone. is;
}
