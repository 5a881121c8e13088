-- A reader reads a needed group: its class is known or new.
use Rattle.std.proofs.Common.{◌≡◌, ℕ, zero, suc, Bool, ◌+◌, ◌^◌, ◌<◌, ◌≤◌, List, [], ◌∷◌, ◌++◌, length, map, slice_get, Some, None, Option, inl, inr, ◌∙◌, refl, sym, ap, subst, arith}
use Rattle.std.specs.Prelude.{option_map, if◌then◌else◌, ◌≢◌}
use Rattle.std.specs.Option.{unwrap_or}
use Rattle.std.specs.List.{range_with_len}
use Rattle.std.proofs.lemmas.List.{length-map}
use Rattle.std.proofs.lemmas.Option.{slice_get_within, slice_get-map}
use Rattle.walrus_sections.proofs.Sections.Lying.{in_or_out}
use Rattle.walrus_ty.specs.declared.records.EntryAt.{EntryAt}
use Rattle.walrus_ty.specs.Definition.{Definition, rename}
use Rattle.walrus_ty.specs.Groups.{Section}
use Rattle.walrus_ty.specs.Records.{entry_definition}
use Rattle.walrus_sections.specs.Section.{index_space, IsWellNamed}
use Rattle.walrus_canonical.specs.declared.classes.Class.{Class}
use Rattle.walrus_canonical.specs.EqualTypes.{IsMember}
use Rattle.walrus_canonical.specs.Steps.Classes.{Reading, reading, IsReadTo}
use Rattle.walrus_canonical.specs.Steps.KnownClasses.{are_same, place_of}
use Rattle.walrus_canonical.specs.Steps.Marks.{IsMarked, MarkNeeds}
use Rattle.walrus_canonical.specs.Steps.Renamings.{renamed}
use Rattle.walrus_canonical.specs.Steps.Shown.{own_base}
use Rattle.walrus_canonical.proofs.Forms.NextGroups.{BeginsAt}
use Rattle.walrus_canonical.proofs.Reading.ReadGroups.{read_known, read_new}

pub class_at :
    (cs : List Class) (c f : ℕ) → slice_get (map (λ (k : Class). k.first) cs) c ≡ Some f →
    (k : Class) × (slice_get cs c ≡ Some k) × (k.first ≡ f)
class_at [] c f e = absurd cc
class_at (k ∷ cs) zero f e = (k, refl, cc)
class_at (k ∷ cs) (suc c) f e = class_at cs c f e

pub first_at :
    (cs : List Class) (c : ℕ) (class : Class) → slice_get cs c ≡ Some class →
    slice_get (map (λ (k : Class). k.first) cs) c ≡ Some class.first
first_at cs c class e =
    slice_get-map (λ (k : Class). k.first) cs c ∙ ap (option_map (λ (k : Class). k.first)) e

-- what the calls on the way have given, from one reading to the next
pub record IsPut (n : ℕ) (entries : List EntryAt) (old new : Reading) (class first : ℕ) : Type 0 where
  pub place : class ≡ unwrap_or (place_of old.known entries) (length old.firsts)
  pub same_known : place_of old.known entries ≢ None → new.known ≡ old.known
  pub new_known :
      place_of old.known entries ≡ None → (other : List EntryAt) → place_of new.known other ≡
      (if are_same entries other then Some (length old.firsts) else place_of old.known other)
  pub old_first : (f : ℕ) → slice_get old.firsts class ≡ Some f → first ≡ f
  pub old_firsts : class < length old.firsts → new.firsts ≡ old.firsts
  pub old_count : class < length old.firsts → new.slot_count ≡ old.slot_count
  pub new_first : length old.firsts ≤ class → first ≡ old.slot_count
  pub new_firsts : length old.firsts ≤ class → new.firsts ≡ old.firsts ++ old.slot_count ∷ []
  pub new_count :
      length old.firsts ≤ class → old.slot_count + n < 2 ^ 32 → new.slot_count ≡ old.slot_count + n
  pub pushed : first + n < 2 ^ 32 → new.slots ≡ old.slots ++ range_with_len first n

pub same_reading :
    (a b : Reading) → a.slots ≡ b.slots → a.slot_count ≡ b.slot_count → a.firsts ≡ b.firsts →
    a.known ≡ b.known → a ≡ b
same_reading a b slots count firsts known =
    ap (λ (u : List ℕ). reading u a.slot_count a.firsts a.known) slots
    ∙ (ap (λ (u : ℕ). reading b.slots u a.firsts a.known) count
    ∙ (ap (λ (u : List ℕ). reading b.slots b.slot_count u a.known) firsts
    ∙ ap (λ (u : List (List EntryAt × ℕ)). reading b.slots b.slot_count b.firsts u) known))

pub read_needed :
    (section : Section) (roots : List ℕ) (well : IsWellNamed section) (marks : List Bool)
    (needs : MarkNeeds section roots marks) (start : ℕ) (ds : List Definition)
    (b : BeginsAt (index_space section) start ds) (old : Reading)
    (h : IsReadTo (index_space section) marks start old)
    (whole : (i place k : ℕ) → i < start → IsMember (index_space section) i place k → k < start)
    (marked : IsMarked marks start) (entries : List EntryAt)
    (is : map entry_definition entries ≡ map (rename (renamed start old.slots (own_base (length ds)))) ds)
    (new : Reading) (class first : ℕ) → IsPut (length ds) entries old new class first →
    IsReadTo (index_space section) marks (start + length ds) new
read_needed section roots well marks needs start ds b old h whole marked entries is new class first p =
    let S = index_space section in
    let room = h.few in
    let inside = b.inside in
    let few = well.few in
    elim (in_or_out (place_of old.known entries)) [
      | inl none ↦ (
          let at : class ≡ length old.firsts = p.place
          ∙ ap (λ (o : Option ℕ). unwrap_or o (length old.firsts)) none in
          let over : length old.firsts ≤ class = omega (arith, at) in
          let fits : old.slot_count + length ds < 2 ^ 32 = omega (arith, room, inside, few) in
          let f = p.new_first over in
          let slots = p.pushed (subst (λ (u : ℕ). u + length ds < 2 ^ 32) (sym f) fits)
          ∙ ap (λ (u : ℕ). old.slots ++ range_with_len u (length ds)) f in
          subst (λ (r : Reading). IsReadTo S marks (start + length ds) r)
          (sym (same_reading new _ slots (p.new_count over fits) (p.new_firsts over) refl))
          (read_new section roots well marks needs start ds b old.slots old.slot_count old.firsts old.known h
          whole marked entries is new.known (record { fresh = none; places = p.new_known none })))
      | inr some ↦ (
          let at : class ≡ some.0 = p.place
          ∙ ap (λ (o : Option ℕ). unwrap_or o (length old.firsts)) some.1 in
          let k = h.keyed entries some.0 some.1 in
          let low : class < length old.firsts = (
          omega (arith, slice_get_within old.firsts some.0 k.0 k.1, at)) in
          let f : first ≡ k.0 = p.old_first k.0 (ap (slice_get old.firsts) at ∙ k.1) in
          let fit = h.keys.fit entries some.0 k.0 some.1 k.1 in
          let fits : k.0 + length ds < 2 ^ 32 = fits_in start (length ds) S.count old.slot_count k.0
          (length entries) inside few room fit in
          let slots = p.pushed (subst (λ (u : ℕ). u + length ds < 2 ^ 32) (sym f) fits)
          ∙ ap (λ (u : ℕ). old.slots ++ range_with_len u (length ds)) f in
          let known = p.same_known (λ e. apart (place_of old.known entries) some.0 some.1 e) in
          subst (λ (r : Reading). IsReadTo S marks (start + length ds) r)
          (sym (same_reading new _ slots (p.old_count low) (p.old_firsts low) known))
          (read_known section roots well marks needs start ds b old.slots old.slot_count old.firsts old.known
          h whole marked entries is k.0 k.2 some.0 some.1 k.1))
    ]
  where
    apart : (o : Option ℕ) (c : ℕ) → o ≡ Some c → o ≡ None → ⊥
    apart o c x y = absurd cc

    fits_in :
        (start n count slots first size : ℕ) → start + n ≤ count → count < 2 ^ 32 → slots ≤ start →
        first + size ≤ slots → first + n < 2 ^ 32
    fits_in start n count slots first size a b c d = omega (arith, a, b, c, d)

-- what renaming has made of the records
pub put_records :
    (old new : List EntryAt) (ds : List Definition) (m : ℕ → ℕ) (bound start first count : ℕ)
    (list slots : List ℕ) → map entry_definition old ≡ ds →
    map entry_definition new ≡ map (rename m) (map entry_definition old) →
    m ≡ renamed bound list first → bound ≡ start → list ≡ slots → first ≡ own_base count →
    count ≡ length old →
    map entry_definition new ≡ map (rename (renamed start slots (own_base (length ds)))) ds
put_records old new ds m bound start first count list slots same made map_is b l f n =
    let long = length-map old entry_definition in
    let size : count ≡ length ds = n ∙ (sym long ∙ ap (λ (es : List Definition). length es) same) in
    rw (made, same, map_is, b, l, f, size) refl

pub size_of_records :
    (old : List EntryAt) (ds : List Definition) (count : ℕ) → map entry_definition old ≡ ds →
    count ≡ length old → count ≡ length ds
size_of_records old ds count same n =
    let long = length-map old entry_definition in
    n ∙ (sym long ∙ ap (λ (es : List Definition). length es) same)

pub first_of_class :
    (cs : List Class) (c first : ℕ) →
    ((k : Class) → slice_get cs c ≡ Some k → first ≡ k.first) →
    (f : ℕ) → slice_get (map (λ (k : Class). k.first) cs) c ≡ Some f → first ≡ f
first_of_class cs c first g f e = let k = class_at cs c f e in g k.0 k.1 ∙ k.2

pub firsts_length : (cs : List Class) → length (map (λ (k : Class). k.first) cs) ≡ length cs
firsts_length cs = length-map cs (λ (k : Class). k.first)
