-- What a run says of two type sections: that moves lead from one to the other, or where their
-- normal forms first differ.
use Rattle.std.specs.Prelude.{◌≡◌, ℕ, List, [], ◌∷◌, ◌++◌, take, Option, IfSome, codes, decimal}
use Rattle.walrus_ty.specs.declared.records.GroupAt.{GroupAt}
use Rattle.walrus_ty.specs.Groups.{Section}
use Rattle.walrus_ty.specs.Records.{section_of}
use Rattle.wasm_binary.specs.ModuleSections.{HasTypes}
use Rattle.walrus_text.specs.Text.{IsTextOf}
use Rattle.walrus_sections.specs.Section.{index_space, IsWellNamed}
use Rattle.walrus_sections.specs.NormalForm.{IsOutput}
use Rattle.walrus_sections.specs.Moves.{AreJoined}
use Rattle.walrus_types.specs.Differences.{DifferFirstAt}

-- The section of bytes: they are a module with these types, which are none without a type section,
-- or a text of these groups. No bytes are both, and they have one section at most
-- (`laws::no_module_is_a_text`, `laws::one_section`).
pub data HasSection (bytes : List ℕ) (groups : List GroupAt) : Type 0 where
  in_module : HasTypes bytes groups → HasSection bytes groups
  in_text : IsTextOf bytes groups → HasSection bytes groups

-- each of the two has a section that can be read, and this holds of these sections
pub record HaveSections (Holds : Section → Section → Type 0) (first second : List ℕ) : Type 0 where
  pub a : List GroupAt
  pub b : List GroupAt
  pub first_has : HasSection first a
  pub second_has : HasSection second b
  pub first_named : IsWellNamed (section_of a)
  pub second_named : IsWellNamed (section_of b)
  pub holds : Holds (section_of a) (section_of b)

-- this holds of the bytes of two readers, where both are known
abbrev pub IfBothKnown :
    Option (List ℕ) → Option (List ℕ) → (List ℕ → List ℕ → Type 0) → Type 0
IfBothKnown a b Holds = IfSome a (λ first. IfSome b (λ second. Holds first second))

-- no moves lead from one to the other
abbrev pub AreApart : Section → Section → Type 0
AreApart s t = ¬ AreJoined s t

-- the two differ first in a group whose first entry has this index, or one of them ends there
pub record IsFirstDifference (index : ℕ) (xs ys : List GroupAt) : Type 0 where
  pub place : ℕ
  pub differ : DifferFirstAt xs ys place
  pub index_is : index ≡ (index_space (section_of (take place xs))).count

-- the normal forms of the two do
pub record HaveFirstDifference (index : ℕ) (s t : Section) : Type 0 where
  pub n : List GroupAt
  pub p : List GroupAt
  pub first_normal : IsOutput s (section_of n)
  pub second_normal : IsOutput t (section_of p)
  pub differ : IsFirstDifference index n p

abbrev pub same_line : List ℕ
same_line = codes "same" ++ 10 ∷ []

abbrev pub difference_line : ℕ → List ℕ
difference_line index = codes "different at entry " ++ (decimal index ++ 10 ∷ [])
