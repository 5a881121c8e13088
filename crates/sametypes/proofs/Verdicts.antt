-- What two normal forms say of the sections that they are of.
use Rattle.std.proofs.Common.{◌≡◌, ◌∙◌, ℕ, List, Option, None, Some, refl, sym, subst}
use Rattle.std.specs.Prelude.{◌↔◌, IfSome}
use Rattle.walrus_ty.specs.declared.records.GroupAt.{GroupAt}
use Rattle.walrus_ty.specs.Groups.{Section}
use Rattle.walrus_ty.specs.Records.{section_of}
use Rattle.walrus_ty.proofs.Equality.Contents.{same_section}
use Rattle.walrus_sections.specs.Section.{IsWellNamed}
use Rattle.walrus_sections.specs.NormalForm.{IsOutput}
use Rattle.walrus_sections.proofs.Moves.Chains.{same_output}
use Rattle.walrus_sections.proofs.NormalForms.One as one
use Rattle.sametypes.specs.Runs.{HaveSections, IfBothKnown, IsFirstDifference}
use Rattle.sametypes.specs.Steps.Verdicts.{HasNormalForm, IsVerdict}

one_output :
    (s m : Section) (n : List GroupAt) → IsWellNamed s → IsOutput s (section_of n) → IsOutput s m →
    section_of n ≡ m
one_output s m n h x y = (one.one_normal_form s (section_of n) m x.0 y.0 h.below_ends x.1 y.1).0

verdict_holds :
    (s t : Section) (n p : List GroupAt) → IsWellNamed s → IsWellNamed t →
    IsOutput s (section_of n) → IsOutput t (section_of p) → (verdict : Option ℕ) →
    (verdict ≡ None ↔ (n ≡ p)) → IfSome verdict (λ index. IsFirstDifference index n p) →
    IsVerdict verdict s t
verdict_holds s t n p h k x y None same first =
    (same_output s t h k).0 (
      section_of n,
      x,
      subst (λ (gs : List GroupAt). IsOutput t (section_of gs))
          (sym (same.0 refl)) y,
    )
verdict_holds s t n p h k x y (Some index) same first = (
  (λ joined.
      let both = (same_output s t h k).1 joined in
      let equal : n ≡ p = same_section n p (one_output s both.0 n h x both.1
      ∙ sym (one_output t both.0 p k y both.2)) in
      let none : Some index ≡ None = same.1 equal in
      cc),
  record { n = n; p = p; first_normal = x; second_normal = y; differ = first },
)

module _ (a b : Option (List ℕ)) (n p : List GroupAt) where
  pub verdict_known :
      IfSome a (λ bytes. HasNormalForm bytes n) → IfSome b (λ bytes. HasNormalForm bytes p) →
      (verdict : Option ℕ) → (verdict ≡ None ↔ (n ≡ p)) →
      IfSome verdict (λ index. IsFirstDifference index n p) →
      IfBothKnown a b (HaveSections (IsVerdict verdict))
  verdict_known x y verdict same first = by a b x y
    where
      by : (a b : Option (List ℕ)) → IfSome a (λ bytes. HasNormalForm bytes n) →
          IfSome b (λ bytes. HasNormalForm bytes p) → IfBothKnown a b (HaveSections (IsVerdict verdict))
      by None b x y = tt
      by (Some xs) None x y = tt
      by (Some xs) (Some ys) x y = record {
        a = x.section;
        b = y.section;
        first_has = x.read;
        second_has = y.read;
        first_named = x.well_named;
        second_named = y.well_named;
        holds = verdict_holds (section_of x.section) (section_of y.section) n p x.well_named y.well_named
            x.normal y.normal verdict same first;
      }
