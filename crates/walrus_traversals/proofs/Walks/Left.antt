-- what an in-order walk has left
use Rattle.std.proofs.Common.{◌≡◌, ℕ, zero, suc, ◌+◌, ◌<◌, List, [], ◌∷◌, ◌++◌, length, reverse, map, drop, refl, sym, ap, ◌∙◌, subst, arith, add-one, append_assoc, append-nil, slice_get, Option, Some, None}
use Rattle.std.specs.List.{flat_map, AllByRecursion}
use Rattle.std.proofs.lemmas.List.{reverse-append, reverse-reverse}
use Rattle.std.proofs.lemmas.List.Concat.{flat_map-append}
use Rattle.std.proofs.lemmas.List.Folds.{flat_map-map}
use Rattle.ir_instr.specs.Sequence.{Sequence}
use Rattle.ir_instr.specs.declared.instr.Instr.{Instr}
use Rattle.walrus_functions.specs.Body.{Body, sequence, Knows}
use Rattle.walrus_functions.specs.Nesting.{children}
use Rattle.walrus_ir.specs.Calls.{Event, at, reported}
use Rattle.walrus_ir.specs.Fields.{type_fields}
use Rattle.walrus_ir.specs.Hooks.{start_instr_seq, end_instr_seq}
use Rattle.walrus_traversals.specs.Events.{own_events, events_of_instrs, events_to, events}
use Rattle.walrus_traversals.specs.Steps.Walking.{reports, leaves, at_place, after_place, seq_of}
use Rattle.walrus_traversals.specs.declared.traversals.stack.Work.{Work}
use Rattle.walrus_traversals.specs.declared.traversals.stack.Work.TheVariants.{Enter, Resume}
use Rattle.walrus_traversals.proofs.Walks.Levels.{Within, levels, All-append, All-weaker, All-items, flat_map-same, same_deeper, still_within}

-- the events that a piece of work gives, all that is inside it too
abbrev pub work_events : Body → Work → List Event
work_events f (Enter q) = events f q
work_events f (Resume q k) = events_of_instrs (events_to f (length f.seqs)) (drop k (sequence f q).instrs) ++
    at end_instr_seq (sequence f q) ∷ []

abbrev pub IsSound : Body → Work → Type 0
IsSound f w = Within f (levels f) (seq_of w)

-- the events that are left, where the stack's last is done first
abbrev pub left : Body → List Work → List Event
left f ws = flat_map (work_events f) (reverse ws)

pub left-append : (f : Body) (ws vs : List Work) → left f (ws ++ vs) ≡ left f vs ++ left f ws
left-append f ws vs = ap (flat_map (work_events f)) (reverse-append ws vs)
    ∙ flat_map-append (work_events f) (reverse vs) (reverse ws)

pub left-children : (f : Body) (cs : List ℕ) → left f (reverse (map Enter cs)) ≡ flat_map (events f) cs
left-children f cs = ap (flat_map (work_events f)) (reverse-reverse (map Enter cs))
    ∙ flat_map-map (work_events f) Enter cs

-- an item, if there is one, before a list
abbrev pub front : {A : Type 0} → Option A → List A → List A
front None xs = []
front (Some x) xs = x ∷ xs

pub drop_front : {A : Type 0} (xs : List A) (k : ℕ) → drop k xs ≡ front (slice_get xs k) (drop (suc k) xs)
drop_front [] zero = refl
drop_front [] (suc k) = refl
drop_front (x ∷ xs) zero = refl
drop_front (x ∷ xs) (suc k) = drop_front xs k

pub All-drop : {X : Type 0} (P : X → Type 0) (k : ℕ) (xs : List X) →
    AllByRecursion P xs → AllByRecursion P (drop k xs)
All-drop P zero xs h = h
All-drop P (suc k) [] h = tt
All-drop P (suc k) (x ∷ xs) h = All-drop P k xs h.1

pub All-reverse : {X : Type 0} (P : X → Type 0) (xs : List X) →
    AllByRecursion P xs → AllByRecursion P (reverse xs)
All-reverse P [] h = tt
All-reverse {X} P (x ∷ xs) h = let F : List X → Type 0 = λ l. AllByRecursion P l in
    subst F (sym (reverse-append (x ∷ []) xs)) (All-append P (reverse xs) (x ∷ []) (All-reverse P xs h.1)
    (h.0, tt))

pub All-map : {X Y : Type 0} (P : Y → Type 0) (g : X → Y) (xs : List X) →
    AllByRecursion (λ x. P (g x)) xs → AllByRecursion P (map g xs)
All-map P g [] h = tt
All-map P g (x ∷ xs) h = (h.0, All-map P g xs h.1)

-- what stands from a place on leads into sequences of one level less
pub inside_from :
    (f : Body) (q k : ℕ) → Within f (levels f) q →
    AllByRecursion (λ x. AllByRecursion (Within f (length f.seqs)) (children x.0))
    (drop k (sequence f q).instrs)
unfolding Within
inside_from f q k h = All-drop _ k (sequence f q).instrs
    (All-items (Within f (length f.seqs)) (λ x. children x.0) (sequence f q).instrs h.1)

-- what is inside the instruction at a place, if there is one
abbrev pub InsideAt : Body → Option (Instr × ℕ) → Type 0
InsideAt f None = Unit {0}
InsideAt f (Some x) = AllByRecursion (Within f (length f.seqs)) (children x.0)

pub inside_front :
    (f : Body) (o : Option (Instr × ℕ)) (rest : List (Instr × ℕ)) →
    AllByRecursion (λ x. AllByRecursion (Within f (length f.seqs)) (children x.0)) (front o rest) →
    InsideAt f o
inside_front f None rest h = tt
inside_front f (Some x) rest h = h.0

pub inside_at : (f : Body) (q k : ℕ) → Within f (levels f) q → InsideAt f (slice_get (sequence f q).instrs k)
inside_at f q k h =
    let F : List (Instr × ℕ) → Type 0 = λ l. AllByRecursion (λ x.
    AllByRecursion (Within f (length f.seqs)) (children x.0)) l in
    inside_front f (slice_get (sequence f q).instrs k) (drop (suc k) (sequence f q).instrs)
    (subst F (drop_front (sequence f q).instrs k) (inside_from f q k h))

regroup : {A : Type 0} (a b c e : List A) → ((a ++ b) ++ c) ++ e ≡ a ++ (b ++ (c ++ e))
regroup a b c e = simp append_assoc

-- from a place on: what is reported there, then what that leaves
pub resume_parts : (f : Body) (q k : ℕ) (o : Option (Instr × ℕ)) →
    drop k (sequence f q).instrs ≡ front o (drop (k + 1) (sequence f q).instrs) →
    InsideAt f o → work_events f (Resume q k) ≡ at_place (sequence f q) o ++ left f (after_place q k o)
resume_parts f q k None e h = ap (λ l. events_of_instrs (events_to f (length f.seqs)) l ++ at end_instr_seq
    (sequence f q) ∷ []) e
resume_parts f q k (Some x) e h =
    let go = events_to f (length f.seqs) in
    let end = at end_instr_seq (sequence f q) ∷ [] in
    ap (λ l. events_of_instrs go l ++ end) e
    ∙ regroup (own_events x) (flat_map go (children x.0))
    (events_of_instrs go (drop (k + 1) (sequence f q).instrs)) end
    ∙ ap (λ l. own_events x ++ l)
    (sym (left-append f (Resume q (k + 1) ∷ []) (reverse (map Enter (children x.0)))
    ∙ ap (λ l. l ++ left f (Resume q (k + 1) ∷ [])) (left-children f (children x.0)
    ∙ flat_map-same (Within f (length f.seqs)) (events f) go (children x.0)
    (same_deeper f (length f.seqs)) h)
    ∙ ap (λ l. flat_map go (children x.0) ++ l) (append-nil (work_events f (Resume q (k + 1))))))

-- the events of a piece of work: what it reports, then those of what it leaves
pub work_parts : (f : Body) (w : Work) → IsSound f w → work_events f w ≡ reports f w ++ left f (leaves f w)
unfolding events_to
work_parts f (Enter q) h =
    ap (λ l. at start_instr_seq (sequence f q) ∷ l)
    (append_assoc (reported (type_fields (sequence f q).ty))
    (events_of_instrs (events_to f (length f.seqs)) (sequence f q).instrs)
    (at end_instr_seq (sequence f q) ∷ [])
    ∙ ap (λ l. reported (type_fields (sequence f q).ty) ++ l) (sym (append-nil (work_events f (Resume q 0)))))
work_parts f (Resume q k) h =
    resume_parts f q k (slice_get (sequence f q).instrs k) (rw add-one (drop_front (sequence f q).instrs k))
    (inside_at f q k h)

-- what is left stays sound
pub sound_place : (f : Body) (q k : ℕ) (o : Option (Instr × ℕ)) →
    Within f (levels f) q → InsideAt f o → AllByRecursion (IsSound f) (after_place q k o)
sound_place f q k None h i = tt
sound_place f q k (Some x) h i = (
  h,
  All-reverse (IsSound f) (map Enter (children x.0))
      (All-map (IsSound f) Enter (children x.0)
      (All-weaker _ _ (children x.0) (still_within f (length f.seqs)) i)),
)

pub sound_leaves : (f : Body) (w : Work) → IsSound f w → AllByRecursion (IsSound f) (leaves f w)
sound_leaves f (Enter q) h = (h, tt)
sound_leaves f (Resume q k) h = sound_place f q k (slice_get (sequence f q).instrs k) h (inside_at f q k h)

pub sound_knows : (f : Body) (w : Work) → IsSound f w → Knows f (seq_of w)
unfolding Within
sound_knows f w h = h.0

-- each piece of work reports something
pub place_long : (s : Sequence) (o : Option (Instr × ℕ)) → 0 < length (at_place s o)
place_long s None = omega arith
place_long s (Some x) = omega arith

pub reports_long : (f : Body) (w : Work) → 0 < length (reports f w)
reports_long f (Enter q) = omega arith
reports_long f (Resume q k) = place_long (sequence f q) (slice_get (sequence f q).instrs k)
