-- The records of a group whose indices are replaced by slots and numbers of places.
use Rattle.std.proofs.Common.{◌≡◌, ℕ, ◌+◌, ◌-◌, ◌<◌, ◌≤◌, List, length, map, slice_index_or, ◌∙◌, ap, arith}
use Rattle.std.proofs.lemmas.Bool.Decides.{nat_tests}
use Rattle.std.proofs.lemmas.List.{get_or_default}
use Rattle.walrus_ty.specs.Definition.{Definition, rename}
use Rattle.walrus_sections.specs.Section.{IndexSpace, index_space, NamesBelowEnds}
use Rattle.walrus_ty.specs.Groups.{Section}
use Rattle.walrus_canonical.specs.EqualTypes.{NamesOutside}
use Rattle.walrus_canonical.specs.Keys.{IsKey}
use Rattle.walrus_canonical.specs.Steps.Classes.{slot_of}
use Rattle.walrus_canonical.specs.Steps.Renamings.{renamed}
use Rattle.walrus_canonical.specs.Steps.Shown.{own_base}
use Rattle.walrus_canonical.proofs.Equality.Members.{named_outside}
use Rattle.walrus_canonical.proofs.Equality.Written.{own_written, numbered_anew}
use Rattle.walrus_canonical.proofs.Forms.NextGroups.{BeginsAt}

pub renamed_low :
    (bound : ℕ) (list : List ℕ) (first x : ℕ) → x < bound →
    renamed bound list first x ≡ slice_index_or list x x
renamed_low bound list first x h = grind (arith, nat_tests, h)

pub renamed_high :
    (bound : ℕ) (list : List ℕ) (first x : ℕ) → bound ≤ x → x - bound + first < 4294967296 →
    renamed bound list first x ≡ x - bound + first
renamed_high bound list first x h fits = grind (arith, nat_tests, h, fits)

module _ (section : Section) (below : NamesBelowEnds (index_space section)) (start : ℕ)
    (ds : List Definition) (b : BeginsAt (index_space section) start ds) (slots : List ℕ)
    (long : length slots ≡ start) (few : start + length ds < 4294967296) where
  abbrev S : IndexSpace
  S = index_space section

  abbrev base : ℕ
  base = own_base (length ds)

  abbrev f : ℕ → ℕ
  f = renamed start slots base

  own_is : (p : ℕ) → p < length ds → f (start + p) ≡ base + p
  own_is p h = renamed_high start slots base (start + p) (omega arith) (omega (arith, h, few)) ∙ omega arith

  -- each name from outside of the group is of an index before it
  pub outside_low : (x : ℕ) → NamesOutside S start x → x < start
  outside_low x o = named_outside section start x below (omega (arith, b.filled, b.inside)) o

  outside_is : (x : ℕ) → x < start → f x ≡ slot_of slots x
  outside_is x h = renamed_low start slots base x h
      ∙ get_or_default slots x x 0 (omega (arith, h, long))

  pub renamed_is_key : IsKey S (λ p. base + p) (slot_of slots) start (map (rename f) ds)
  renamed_is_key = numbered_anew S (λ p. start + p) (λ x y. y ≡ x) start ds (own_written S start ds b) f
      (λ p. base + p) (λ x y. y ≡ slot_of slots x) own_is
      (λ x y o is. ap f is ∙ outside_is x (outside_low x o))
