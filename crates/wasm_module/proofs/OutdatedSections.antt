-- Which sections no longer fit, from what was found of both modules.
use Rattle.std.proofs.Common.{◌≡◌, ℕ, ◌<◌, true, List, [], length, get_or, subst, ◌∙◌, rules}
use denote.Enum.Bare.{sameb, same_true}
use Rattle.std.proofs.lemmas.List.Elements.{All-contains}
use Rattle.wasm_module.specs.declared.description_kinds.DescriptionKind.{DescriptionKind}
use Rattle.wasm_module.specs.contracts.description_kinds.DescriptionKind.{the_type as kind_type}
use Rattle.wasm_module.specs.Customs.{IsDescriptionOf, HasSections}
use Rattle.wasm_module.specs.Outdated.{HaveSame, Stays, Fits, AllFit}
use Rattle.wasm_module.specs.Sections.{PlacedSection}
use Rattle.wasm_module.specs.Steps.Outdated.{AllStay}
use Rattle.wasm_module.proofs.DescriptionNames.{one_kind}
use Rattle.wasm_module.proofs.ModuleLengths.{Passed, all_passed}

-- ---- what both modules have

pub have_others : {A : Type 0} (Has : List ℕ → A → Type 0) →
    ((bytes : List ℕ) (x y : A) → Has bytes x → Has bytes y → x ≡ y) → (bytes new : List ℕ) (a b : A) →
    Has bytes a → Has new b → (a ≡ b → ⊥) → HaveSame Has bytes new → ⊥
have_others Has once bytes new a b h g differ s =
    differ (once bytes a s.same h s.before ∙ once new s.same b s.after g)

-- ---- one section

pub fits_of_kind : (bytes new : List ℕ) (s : PlacedSection) (k : DescriptionKind) →
    IsDescriptionOf k s.framed → Stays k bytes new → Fits bytes new s
fits_of_kind bytes new s k d h = λ j f.
    subst (λ i. Stays i bytes new) (one_kind s.framed.id s.framed.content k j d f) h

pub fits_of_none : (bytes new : List ℕ) (s : PlacedSection) →
    ((k : DescriptionKind) → IsDescriptionOf k s.framed → ⊥) → Fits bytes new s
fits_of_none bytes new s none = λ k d. absurd (none k d)

-- `==` of kinds is sameness
pub known_stays : (bytes new : List ℕ) (kinds : List DescriptionKind) (k : DescriptionKind) (i : ℕ) →
    AllStay bytes new kinds → i < length kinds
    → ((d : DescriptionKind) → sameb kind_type (get_or kinds i d) k ≡ true) → Stays k bytes new
known_stays bytes new kinds k i all less same =
    All-contains (λ j. Stays j bytes new) kinds k all
    (i, less, same_true kind_type (search rules) (get_or kinds i k) k (same k))

-- ---- all sections

pub all_fit : (bytes new : List ℕ) (all left : List PlacedSection) → HasSections bytes all →
    Passed (Fits bytes new) all left → left ≡ [] → AllFit bytes new
all_fit bytes new all left h p e =
    record { sections = all; has = h; fit = all_passed (Fits bytes new) all left p e }
