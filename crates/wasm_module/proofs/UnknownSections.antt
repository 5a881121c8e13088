-- Custom sections of an unknown kind.
use Rattle.std.proofs.Common.{◌≡◌, ℕ, List, [], ◌∷◌, Bool, map, refl, ap, sym, subst}
use Rattle.std.specs.Prelude.{codes, ◌||◌}
use Rattle.std.specs.Borrow.{Bor}
use Rattle.std.specs.List.{Any, list_any}
use Rattle.wasm_binary.specs.Modules.{section}
use Rattle.wasm_module.specs.Customs.{IsDescriptionName}
use Rattle.wasm_module.specs.Steps.Customs.{BeginsWith}
use Rattle.wasm_module.specs.Sections.{PlacedSection}
use Rattle.wasm_module.specs.UnknownCustoms.{known_names, IsKnownName, listed, component_type, description, is_allowed, IsUnknownCustom}
use Rattle.wasm_module.specs.Steps.NameSections.{TakesSized, BeginsUnsized}
use Rattle.wasm_module.proofs.Descriptions.{name_taken}
use Rattle.wasm_module.proofs.SizedContents.{same_content}

-- ---- names

pub any_mapped : {A B : Type 0} (f : A → B) (p : B → Bool) (xs : List A) →
    list_any p (map f xs) ≡ list_any (λ x. p (f x)) xs
any_mapped f p [] = refl
any_mapped f p (x ∷ xs) = ap (λ b. p (f x) || b) (any_mapped f p xs)

pub no_known_name : (allowed : List (Bor (List ℕ))) (name : List ℕ) →
    (Any (λ k. k ≡ name) known_names → ⊥) → (Any (λ k. k ≡ name) (map (λ k. k.now) allowed) → ⊥) →
    (BeginsWith (codes "component-type") name → ⊥) → (IsDescriptionName name → ⊥) →
    IsKnownName allowed name → ⊥
no_known_name allowed name a d b c (listed _ is) = a is
no_known_name allowed _ a d b c (component_type rest) = b (rest, refl)
no_known_name allowed name a d b c (description _ is) = c is
no_known_name allowed name a d b c (is_allowed _ is) = d is

pub component_known : (allowed : List (Bor (List ℕ))) (name : List ℕ) →
    BeginsWith (codes "component-type") name → IsKnownName allowed name
component_known allowed name begins = subst (IsKnownName allowed) (sym begins.1) (component_type begins.0)

-- ---- sections

pub unknown_of_name : (allowed : List (Bor (List ℕ))) (id : ℕ) (content name rest : List ℕ) → id ≡ 0 →
    TakesSized name content rest → (IsKnownName allowed name → ⊥) → IsUnknownCustom allowed (section id content)
unknown_of_name allowed id content name rest custom t fails =
    record {
      is_custom = custom;
      unknown = λ other h is.
          let same = same_content content other h.follows name rest (name_taken other content h) t in
          fails (subst (IsKnownName allowed) same.0 is);
    }

pub unknown_nameless : (allowed : List (Bor (List ℕ))) (id : ℕ) (content : List ℕ) → id ≡ 0 →
    BeginsUnsized content → IsUnknownCustom allowed (section id content)
unknown_nameless allowed id content custom unsized =
    record {
      is_custom = custom;
      unknown = λ name h is. unsized name h.follows (name_taken name content h);
    }

-- a section that is none of them
abbrev pub IsNoUnknown : List (Bor (List ℕ)) → PlacedSection → Type 0
IsNoUnknown allowed s = IsUnknownCustom allowed s.framed → ⊥
