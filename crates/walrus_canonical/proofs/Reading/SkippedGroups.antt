-- A reader passes over a group that is not needed.
use Rattle.std.proofs.Common.{◌≡◌, ℕ, Bool, ◌+◌, ◌-◌, ◌<◌, ◌≤◌, List, ◌∷◌, ◌++◌, length, inl, inr, ◌∙◌, sym, ap, subst, length-append, arith}
use Rattle.std.specs.Prelude.{min, ◌^◌}
use Rattle.std.specs.List.{range_with_len}
use Rattle.std.proofs.lemmas.List.FromFn.{length-range_with_len}
use Rattle.std.proofs.lemmas.Bool.{cases_lt}
use Rattle.walrus_ty.specs.declared.records.EntryAt.{EntryAt}
use Rattle.walrus_ty.specs.Definition.{Definition}
use Rattle.walrus_ty.specs.Groups.{Group, Section}
use Rattle.walrus_sections.specs.FirstError.{definitions_of}
use Rattle.walrus_sections.specs.Section.{index_space, IsWellNamed}
use Rattle.walrus_canonical.specs.EqualTypes.{IsMember}
use Rattle.walrus_canonical.specs.Listing.{by_group}
use Rattle.walrus_canonical.specs.Steps.Classes.{reading, IsReadTo, StandsAt}
use Rattle.walrus_canonical.specs.Steps.Marks.{IsMarked, MarkNeeds}
use Rattle.walrus_canonical.proofs.Forms.Beginnings.{member_left, no_fewer}
use Rattle.walrus_canonical.proofs.Reading.ToldGroups.{read_more}
use Rattle.walrus_canonical.proofs.Equality.Members.{mate_from, member_within}
use Rattle.walrus_canonical.proofs.Forms.NextGroups.{BeginsAt}
use Rattle.walrus_canonical.proofs.Needs.TurnsBack.{filled_begins}

pub stands_begins :
    (section : Section) (start : ℕ) (g : Group) → StandsAt section start g →
    0 < length (definitions_of g) → BeginsAt (index_space section) start (definitions_of g)
stands_begins section start g a filled =
    rw (a.split, a.count) (filled_begins a.before g a.behind filled)

-- a group that begins before `start` is before it
pub stands_whole :
    (section : Section) (start : ℕ) (g : Group) → StandsAt section start g →
    (i place k : ℕ) → i < start → IsMember (index_space section) i place k → k < start
stands_whole section start g a i place k low m =
    let c = a.count in
    let m' = subst (λ (t : Section). IsMember (index_space t) i place k) a.split m in
    let z = member_within a.before i place k
    (member_left a.before (g ∷ a.behind) i place k (omega (arith, low, c)) m') in omega (arith, z, c)

stands_low :
    (section : Section) (start : ℕ) (g : Group) → StandsAt section start g →
    start ≤ (index_space section).count
stands_low section start g a =
    let z = no_fewer a.before (g ∷ a.behind) in
    let e = ap (λ (t : Section). (index_space t).count) a.split in omega (arith, a.count, z, e)

pub read_skipped :
    (section : Section) (well : IsWellNamed section) (marks : List Bool) (start end : ℕ) (g : Group) →
    StandsAt section start g → (slots added : List ℕ) (slot_count : ℕ) (firsts : List ℕ)
    (known : List (List EntryAt × ℕ)) →
    IsReadTo (index_space section) marks start (reading slots slot_count firsts known) →
    end ≡ start + length added →
    ((i : ℕ) → start ≤ i → i < end → ¬ (IsMarked marks i)) →
    IsReadTo (index_space section) marks end (reading (slots ++ added) slot_count firsts known)
read_skipped section well marks start end g a slots added slot_count firsts known h is none =
    read_more section well.below_ends marks start end slots added slot_count firsts known h
    (stands_low section start g a) is (stands_whole section start g a) slot_count firsts known (record {
      told = λ i j hi over hj mi mj. absurd (none j over hj mj);
      within = λ i over hi m. absurd (none i over hi m);
      row = λ i place k over hi own m mem. absurd (none i over hi m);
      class_of = λ i over hi own m. absurd (none i over hi m);
    }) (omega arith) (omega (arith, h.few, is)) (λ c f e. e) h.keys (λ es c e. inl e)

-- ---- whether the group is needed

-- with one index of the group its first one is marked
pub first_marked :
    (section : Section) (roots : List ℕ) (marks : List Bool) → MarkNeeds section roots marks →
    (start : ℕ) (ds : List Definition) → BeginsAt (index_space section) start ds → (i : ℕ) → start ≤ i →
    i < start + length ds → IsMarked marks i → IsMarked marks start
first_marked section roots marks needs start ds b i over low m =
    let S = index_space section in
    let t = i - start in
    let ht : t < length ds = omega (arith, over, low) in
    let e : start + t ≡ i = omega (arith, over) in
    let z : start + 0 ≡ start = omega arith in
    let mem = subst (λ (u : ℕ). IsMember S start t u) e (b.member t ht) in
    let own = subst (λ (u : ℕ). IsMember S start 0 u) z (b.member 0 b.filled) in
    (needs.needed start).1
    (by_group i start ((needs.needed i).0 m) (0, mate_from S start t i 0 start mem own))

-- so many are within the section
pub stands_inside :
    (section : Section) (start : ℕ) (g : Group) → StandsAt section start g →
    start + length (definitions_of g) ≤ (index_space section).count
stands_inside section start g a = elim (cases_lt 0 (length (definitions_of g))) [
  | inl filled ↦ (stands_begins section start g a filled).inside
  | inr empty ↦ omega (arith, stands_low section start g a, empty)
]

-- where the group ends, as the program counts
group_ends :
    (section : Section) (start from count end : ℕ) (g : Group) → IsWellNamed section →
    StandsAt section start g → from ≡ start → count ≡ length (definitions_of g) →
    end ≡ min (from + count) 18446744073709551615 → end ≡ start + length (definitions_of g)
group_ends section start from count end g well a f n e =
    omega (arith, stands_inside section start g a, well.few, f, n, e)

pub found_marked :
    (section : Section) (roots : List ℕ) (marks : List Bool) (start from count end : ℕ) (g : Group) →
    IsWellNamed section → MarkNeeds section roots marks → StandsAt section start g → from ≡ start →
    count ≡ length (definitions_of g) → end ≡ min (from + count) 18446744073709551615 →
    ((i : ℕ) × (from ≤ i) × (i < end) × IsMarked marks i) →
    (0 < length (definitions_of g)) × IsMarked marks start
found_marked section roots marks start from count end g well needs a f n e r =
    let ends = group_ends section start from count end g well a f n e in
    let over = r.1 in
    let low = r.2 in
    let filled : 0 < length (definitions_of g) = omega (arith, ends, f, over, low) in (
      filled,
      first_marked section roots marks needs start (definitions_of g)
          (stands_begins section start g a filled) r.0 (omega (arith, f, over)) (omega (arith, ends, low))
          r.3,
    )

pub skipped_ends :
    (section : Section) (marks : List Bool) (start from count end : ℕ) (g : Group) →
    IsWellNamed section → StandsAt section start g → from ≡ start →
    count ≡ length (definitions_of g) → end ≡ min (from + count) 18446744073709551615 →
    (slots slots' : List ℕ) (slot_count : ℕ) (firsts : List ℕ) (known : List (List EntryAt × ℕ)) →
    start ≡ length slots →
    IsReadTo (index_space section) marks (length slots) (reading slots slot_count firsts known) →
    (0 + count < 2 ^ 32 → slots' ≡ slots ++ range_with_len 0 count) →
    ((i : ℕ) → from ≤ i → i < end → ¬ (IsMarked marks i)) →
    IsReadTo (index_space section) marks (length slots') (reading slots' slot_count firsts known)
    × (length slots' ≡ length slots + length (definitions_of g))
skipped_ends section marks start from count end g well a f n e slots slots' slot_count firsts known at h
    pushed none =
    let ends = group_ends section start from count end g well a f n e in
    let inside = stands_inside section start g a in
    let is : slots' ≡ slots ++ range_with_len 0 count = pushed (omega (arith, inside, well.few, n)) in
    let added = length-range_with_len 0 count in
    let both = length-append slots (range_with_len 0 count) in
    let long : length slots' ≡ start + length (range_with_len 0 count) =
    ap (λ (xs : List ℕ). length xs) is ∙ omega (arith, both, at) in
    let stop : length slots' ≡ end = omega (arith, long, added, n, ends) in
    let r = read_skipped section well marks start (length slots') g a slots (range_with_len 0 count)
    slot_count firsts known (rw at h) long
    (λ i over low. none i (omega (arith, f, over)) (omega (arith, stop, low))) in (
      subst (λ (xs : List ℕ). IsReadTo (index_space section) marks (length slots')
          (reading xs slot_count firsts known)) (sym is) r,
      omega (arith, long, added, n, at),
    )
