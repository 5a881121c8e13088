-- Groups of one section are told by their records with slots.
use Rattle.std.proofs.Common.{◌≡◌, ℕ, Bool, ◌+◌, ◌<◌, List, length, ◌∙◌, refl, sym, subst, arith}
use Rattle.std.specs.Prelude.{◌↔◌}
use Rattle.walrus_ty.specs.Definition.{Definition}
use Rattle.walrus_sections.specs.Section.{IndexSpace}
use Rattle.walrus_canonical.specs.EqualTypes.{IsMember, NamesOutside, AreEqual}
use Rattle.walrus_canonical.specs.Keys.{IsKey}
use Rattle.walrus_canonical.specs.Steps.Classes.{slot_of, AreToldBySlots}
use Rattle.walrus_canonical.specs.Steps.Marks.{IsMarked}
use Rattle.walrus_canonical.proofs.Equality.EqualTypes.{groups_of, named_of}
use Rattle.walrus_canonical.proofs.Equality.Written.{equal_if_one, one_if_equal}

-- what a group names outside of it has a slot, which is below the numbers of places
pub record NamesHaveSlots (s : IndexSpace) (marks : List Bool) (slots : List ℕ) (base i : ℕ) : Type 0 where
  pub low : (x : ℕ) → NamesOutside s i x → x < length slots
  pub marked : (x : ℕ) → NamesOutside s i x → IsMarked marks x
  pub fits : (x : ℕ) → NamesOutside s i x → slot_of slots x < base

module _ (s : IndexSpace) (marks : List Bool) (slots : List ℕ) (base i j place : ℕ)
    (own_i : IsMember s i place i) (own_j : IsMember s j place j)
    (told : AreToldBySlots s marks (length slots) slots)
    (first : NamesHaveSlots s marks slots base i) (second : NamesHaveSlots s marks slots base j)
    (ds es : List Definition) (v : IsKey s (λ p. base + p) (slot_of slots) i ds)
    (w : IsKey s (λ p. base + p) (slot_of slots) j es) where
  abbrev inner : ℕ → ℕ
  inner p = base + p

  abbrev Outer : ℕ → ℕ → Type 0
  Outer x y = y ≡ slot_of slots x

  told_outside :
      (x y : ℕ) → NamesOutside s i x → NamesOutside s j y →
      (slot_of slots x ≡ slot_of slots y) ↔ AreEqual s s x y
  told_outside x y o u = told x y (first.low x o) (second.low y u) (first.marked x o) (second.marked y u)

  pub equal_if_one_key : ds ≡ es → AreEqual s s i j
  equal_if_one_key e = equal_if_one s s inner inner Outer Outer i j place own_i own_j es
      (subst (λ (u : List Definition). IsKey s inner (slot_of slots) i u) e v) w
      (λ p q h k is. omega (arith, is)) (λ x p o h is. omega (arith, first.fits x o, is))
      (λ y p o h is. omega (arith, second.fits y o, is))
      (λ x y z n o u a b. (told_outside x y o u).0 (sym a ∙ b))

  pub one_key_if_equal : AreEqual s s i j → ds ≡ es
  one_key_if_equal e = one_if_equal s s inner inner Outer Outer i j (groups_of s s i j e) ds es v w
      (λ p h. refl) (λ x y a b n o u p q. p ∙ ((told_outside x y o u).1 (named_of s s i j e x y n o.3) ∙ sym q))
