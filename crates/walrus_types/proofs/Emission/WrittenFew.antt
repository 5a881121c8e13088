-- A table that a section was read into has no more types than the section has definitions.
use Rattle.std.proofs.Common.{◌≡◌, ℕ, suc, ◌+◌, ◌<◌, ◌≤◌, ◌^◌, ◌==◌, sym, subst, arith, Bool, true, false, cond, List, [], ◌∷◌, length}
use Rattle.std.specs.{List.list_any, List.range_with_len, Prelude.if◌then◌else◌, Prelude.not}
use Rattle.std.proofs.lemmas.List.{Sums.sum_by-cons, FromFn.length-range_with_len}
use Rattle.walrus_ty.specs.Groups.{Section, Single, Rec}
use Rattle.walrus_sections.specs.{Section.recs_after, Section.places_from, Section.index_space, NormalForm.image, SlotMap.TypeGroup, SlotMap.read_groups, Refusal.written_count}
use Rattle.walrus_types.specs.{ReaderState.IsReadInto, TableEmission.type_groups, TableEmission.is_entry_at, Table.Table}
use Rattle.walrus_sections.proofs.Sections.Rows.{length-rec_places}

at_most : (b : Bool) (n : ℕ) → (if b then n else 0) ≤ n
at_most true n = omega arith
at_most false n = omega arith

pub written-cons :
    (e : ℕ → Bool) (g : TypeGroup) (gs : List TypeGroup) →
    written_count e (g ∷ gs) ≤ length g.ids + written_count e gs
written-cons e g gs =
    let h = at_most (list_any (λ i. not (e i)) g.ids) (length g.ids) in
    let d : written_count e (g ∷ gs) ≡ (if list_any (λ i. not (e i)) g.ids then length g.ids else 0) +
    written_count e gs = sum_by-cons (λ (x : TypeGroup). if list_any (λ i. not (e i)) x.ids then
    length x.ids else 0) g gs in
    omega (arith, h, d)

single_few : (e : ℕ → Bool) (b : ℕ) (live : Bool) (gs : List TypeGroup) (n : ℕ) → written_count e gs ≤ n →
    written_count e (cond live (record { ids = b ∷ []; is_explicit = false } ∷ gs) gs) ≤ suc n
single_few e b true gs n h = let c = written-cons e (record { ids = b ∷ []; is_explicit = false }) gs in
    omega (arith, c, h)
single_few e b false gs n h = omega (arith, h)

read_few :
    (e : ℕ → Bool) (r : ℕ → ℕ) (b k : ℕ) (s : Section) →
    written_count e (read_groups b r s) ≤ length (places_from b k s)
read_few e r b k [] = omega arith
read_few e r b k (Single d ∷ gs) = single_few e b (r b == b) (read_groups (suc b) r gs)
    (length (places_from (suc b) k gs)) (read_few e r (suc b) k gs)
read_few e r b k (Rec ds ∷ gs) =
    let rest = read_few e r (length ds + b) (recs_after ds k) gs in
    let c = written-cons e (record { ids = range_with_len b (length ds); is_explicit = true })
    (read_groups (length ds + b) r gs) in
    let l = length-range_with_len b (length ds) in
    let m = length-rec_places ds (length ds + b) k 0 (places_from (length ds + b) (recs_after ds k) gs) in
    omega (arith, rest, c, l, m)

pub written_few :
    (s : Section) (t : Table) (ids : List ℕ) → IsReadInto s t ids →
    written_count (is_entry_at t.types.slots) (type_groups t.groups) < 2 ^ 32
written_few s t ids has =
    let h : written_count (is_entry_at t.types.slots) (type_groups t.groups) ≤ (index_space s).count =
    subst (λ (gs : List TypeGroup). written_count (is_entry_at t.types.slots) gs ≤ (index_space s).count)
    (sym has.grouping) (read_few (is_entry_at t.types.slots) (image ids) 0 0 s) in
    omega (arith, h, has.well_named.few)
