-- A section either can be read or has a first error, and never both.
use Rattle.std.proofs.Common.{◌≡◌, ℕ, suc, ◌+◌, ◌-◌, ◌<◌, ◌^◌, nat_le, List, [], ◌∷◌, ◌++◌, length, get_or, find, cond, subst, refl, sym, ap, ◌∙◌, arith, Some, None, Option, option_map, Bool, false, ◌⊎◌, inl, inr, append-nil, append_assoc, length-append, rules}
use Rattle.std.specs.Option.{option_or}
use Rattle.std.proofs.lemmas.{Bool.cases_lt, Bool.lt-leb, List.get_or_append_left}
use Rattle.walrus_sections.specs.declared.error.ReadError.{ReadError, TheVariants.BadIndex, TheVariants.TooMany}
use Rattle.walrus_ty.specs.Definition.{Definition, Names, names_of}
use Rattle.walrus_sections.specs.Section.{Place, index_space, places_from, no_place, IsWellNamed}
use Rattle.walrus_ty.specs.Groups.{Group, Section}
use Rattle.walrus_sections.specs.FirstError.{IndexUse, index_uses_from, first_out_of_range, group_error, entry_limit, definitions_of, IsFirstError}
use Rattle.walrus_sections.proofs.FirstError.Search.{IsSound, sound_from_no_error, bad_of_cons, naming}
use Rattle.walrus_sections.proofs.{Reading.NextGroup.follows, Sections.Places.places-append, Sections.Rows.at}
use Rattle.walrus_ty.proofs.Basics.{add_rest}

none_found :
    (end : ℕ) (ks : List ℕ) → ((i k : ℕ) → i < length ks → get_or ks i k ≡ k → k < end) →
    find (nat_le end) ks ≡ None
none_found end [] h = refl
none_found end (k ∷ ks) h =
    let here : nat_le end k ≡ false = lt-leb end k (h 0 k (omega arith) refl) in
    ap (λ (b : Bool). cond b (Some k) (find (nat_le end) ks)) here
    ∙ none_found end ks (λ i x w e. h (suc i) x (omega arith) e)

none_of_all :
    (end i : ℕ) (ds : List Definition) →
    ((u k : ℕ) (d : Definition) → u < length ds → Names (get_or ds u d) k → k < end) →
    first_out_of_range end (index_uses_from i ds) ≡ None
none_of_all end i [] h = refl
none_of_all end i (d ∷ ds) h =
    let own : find (nat_le end) (names_of d) ≡ None =
    none_found end (names_of d) (λ j k w e. h 0 k d (omega arith) (j, w, e)) in
    bad_of_cons end i d ds (find (nat_le end) (names_of d)) refl
    ∙ (ap (λ (o : Option ℕ). option_or (option_map (naming i) o)
    (first_out_of_range end (index_uses_from (i + 1) ds))) own
    ∙ none_of_all end (i + 1) ds (λ u k e w named. h (suc u) k e (omega arith) named))

-- a group whose entries are few and name only what is there has no error
pub no_error_from_sound :
    (start : ℕ) (ds : List Definition) → IsSound start ds → group_error start ds ≡ None
no_error_from_sound start ds is =
    let end : ℕ = start + length ds in
    let short : nat_le entry_limit end ≡ false = lt-leb entry_limit end is.few in
    ap (λ (b : Bool). cond b (Some TooMany) (option_map (λ (n : IndexUse). BadIndex n.entry n.index end)
    (first_out_of_range end (index_uses_from start ds)))) short
    ∙ ap (option_map (λ (n : IndexUse). BadIndex n.entry n.index end)) (none_of_all end start ds is.below)

-- one more group without error
pub well_named_next :
    (s : Section) (g : Group) → IsWellNamed s →
    group_error (index_space s).count (definitions_of g) ≡ None → IsWellNamed (s ++ g ∷ [])
well_named_next s g fine none =
    let c : ℕ = (index_space s).count in
    let ds : List Definition = definitions_of g in
    let next = follows s g in
    let sound = sound_from_no_error c ds none in
    record {
      few = subst (λ (x : ℕ). x < 2 ^ 32) (sym next.count) sound.few;
      below_ends = λ i h k named. elim (cases_lt i c) [
        | inl w ↦ (let e = next.end i w in let b =
            fine.below_ends i w k (subst (λ (d : Definition). Names d k) (next.definition i w) named) in
            omega arith)
        | inr w ↦ (
            let p = add_rest c i w in
            let u : i - c < length ds = let m = next.count in omega arith in
            let d : Definition = (index_space (s ++ g ∷ [])).definition i in
            let e = ap (index_space (s ++ g ∷ [])).end (sym p) ∙ next.new_end (i - c) u in
            let is : d ≡ get_or ds (i - c) d = ap (index_space (s ++ g ∷ [])).definition (sym p)
            ∙ next.new_definition (i - c) d u in
            let b = sound.below (i - c) k d u (subst (λ (x : Definition). Names x k) is named) in
            omega arith)
      ];
    }

-- a section that is well-named begins with such sections
module _ (gs hs : Section) (fine : IsWellNamed (gs ++ hs)) where
  tail_at : (c : ℕ) × (l : ℕ) × (places_from 0 0 (gs ++ hs) ≡ places_from 0 0 gs ++ places_from c l hs)
  tail_at = let r = places-append 0 0 gs hs in (r.0, r.1, r.2)

  place_same : (i : ℕ) → i < (index_space gs).count →
      at (places_from 0 0 (gs ++ hs)) i ≡ at (places_from 0 0 gs) i
  place_same i h = let r = tail_at in ap (λ ps. at ps i) r.2
      ∙ get_or_append_left (places_from 0 0 gs) (places_from r.0 r.1 hs) no_place i h

  pub well_named_start : IsWellNamed gs
  well_named_start =
      let r = tail_at in
      let many : (index_space (gs ++ hs)).count ≡ (index_space gs).count + length (places_from r.0 r.1 hs) =
      ap length r.2 ∙ length-append (places_from 0 0 gs) (places_from r.0 r.1 hs) in
      record {
        few = (let f = fine.few in omega arith);
        below_ends = λ i h k named. (
            let same = place_same i h in
            let e = ap (λ (p : Place). p.end) same in
            let b = fine.below_ends i (omega arith) k
            (subst (λ (d : Definition). Names d k) (sym (ap (λ (p : Place). p.definition) same)) named) in
            omega arith);
      }

-- its last group has no error
sound_last :
    (s : Section) (g : Group) → IsWellNamed (s ++ g ∷ []) →
    IsSound (index_space s).count (definitions_of g)
sound_last s g fine =
    let c : ℕ = (index_space s).count in
    let ds : List Definition = definitions_of g in
    let next = follows s g in
    record {
      few = subst (λ (x : ℕ). x < 2 ^ 32) next.count fine.few;
      below = λ u k d h named. (
          let m = next.count in
          let e = next.new_end u h in
          let b = fine.below_ends (c + u) (omega arith) k
          (subst (λ (x : Definition). Names x k) (sym (next.new_definition u d h)) named) in
          omega arith);
    }

pub not_both : (s : Section) (e : ReadError) → IsFirstError s e → ¬ (IsWellNamed s)
not_both s e refusal fine =
    let whole : s ≡ (refusal.before ++ refusal.group ∷ []) ++ refusal.after = refusal.split
    ∙ sym (append_assoc refusal.before (refusal.group ∷ []) refusal.after) in
    let start = well_named_start (refusal.before ++ refusal.group ∷ []) refusal.after
    (subst IsWellNamed whole fine) in
    let none = no_error_from_sound (index_space refusal.before).count (definitions_of refusal.group)
    (sound_last refusal.before refusal.group start) in
    let both : Some e ≡ None = sym refusal.is ∙ none in
    cc

found_or_none : (o : Option ReadError) → (o ≡ None) ⊎ ((e : ReadError) × (o ≡ Some e))
found_or_none None = inl refl
found_or_none (Some e) = inr (e, refl)

from_start :
    (before rest : Section) → IsWellNamed before →
    IsWellNamed (before ++ rest) ⊎ ((e : ReadError) × IsFirstError (before ++ rest) e)
from_start before [] fine = inl (subst IsWellNamed (sym (append-nil before)) fine)
from_start before (g ∷ rest) fine = elim (found_or_none
    (group_error (index_space before).count (definitions_of g))) [
      | inl none ↦ subst (λ (s : Section). IsWellNamed s ⊎ ((e : ReadError) × IsFirstError s e))
          (append_assoc before (g ∷ []) rest) (from_start (before ++ g ∷ []) rest
          (well_named_next before g fine none))
      | inr x ↦ inr (
        x.0,
        record {
          before = before;
          group = g;
          after = rest;
          split = refl;
          well_named = fine;
          is = x.1;
        },
      )
    ]

empty_fine : IsWellNamed []
empty_fine = record { few = search rules; below_ends = λ i h k named. absurd (omega arith) }

pub either : (s : Section) → IsWellNamed s ⊎ ((e : ReadError) × IsFirstError s e)
either s = from_start [] s empty_fine
