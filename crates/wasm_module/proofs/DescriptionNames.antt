-- What custom sections describe, by their names.
use Rattle.std.proofs.Common.{◌≡◌, ℕ, List, ◌∷◌, ◌++◌, Option, Some, None, refl, sym, subst, ◌∙◌}
use Rattle.std.specs.Prelude.{codes, nat_eq, cond, IfNone}
use Rattle.wasm_binary.specs.Modules.{section}
use Rattle.wasm_module.specs.declared.description_kinds.DescriptionKind.{DescriptionKind}
use Rattle.wasm_module.specs.declared.description_kinds.DescriptionKind.TheVariants as kind
use Rattle.wasm_module.specs.Customs.{IsNameOf, external_debug_info, debug, code_metadata, source_mapping_url, linking, relocations, signature, IsDescriptionOf, IsDescription}
use Rattle.wasm_module.specs.NameSections.{name_bytes}
use Rattle.wasm_module.specs.Steps.Customs.{BeginsWith}
use Rattle.wasm_module.specs.Steps.NameSections.{TakesSized, BeginsUnsized}
use Rattle.wasm_module.proofs.Descriptions.{name_taken}
use Rattle.wasm_module.proofs.SizedContents.{same_content}

-- ---- names

-- a name that is another one is of its kind
pub named : (k : DescriptionKind) (name other : List ℕ) → name ≡ other → IsNameOf k other → IsNameOf k name
named k name other e is = subst (IsNameOf k) (sym e) is

pub debug_name : (name : List ℕ) → BeginsWith (codes ".debug_") name → IsNameOf kind.CodeOffsets name
debug_name name b = named kind.CodeOffsets name (codes ".debug_" ++ b.0) b.1 (debug b.0)

pub code_metadata_name : (name : List ℕ) → BeginsWith (codes "metadata.code.") name →
    IsNameOf kind.CodeOffsets name
code_metadata_name name b =
    named kind.CodeOffsets name (codes "metadata.code." ++ b.0) b.1 (code_metadata b.0)

pub relocation_name : (name : List ℕ) → BeginsWith (codes "reloc.") name → IsNameOf kind.CodeAndData name
relocation_name name b = named kind.CodeAndData name (codes "reloc." ++ b.0) b.1 (relocations b.0)

pub no_name : (name : List ℕ) → (name ≡ codes "external_debug_info" → ⊥)
    → (BeginsWith (codes ".debug_") name → ⊥) → (BeginsWith (codes "metadata.code.") name → ⊥)
    → (name ≡ codes "sourceMappingURL" → ⊥) → (name ≡ codes "linking" → ⊥)
    → (BeginsWith (codes "reloc.") name → ⊥) → (name ≡ codes "signature" → ⊥)
    → (k : DescriptionKind) → IsNameOf k name → ⊥
no_name _ a b c d e f g _ external_debug_info = a refl
no_name _ a b c d e f g _ (debug rest) = b (rest, refl)
no_name _ a b c d e f g _ (code_metadata rest) = c (rest, refl)
no_name _ a b c d e f g _ source_mapping_url = d refl
no_name _ a b c d e f g _ linking = e refl
no_name _ a b c d e f g _ (relocations rest) = f (rest, refl)
no_name _ a b c d e f g _ signature = g refl

-- the kind of a name, by its first byte or its second; the name `name` has none
abbrev kind_at : List ℕ → Option DescriptionKind
kind_at (x ∷ y ∷ name) =
    cond (nat_eq x 0x73) (Some (cond (nat_eq y 0x69) kind.AllBytes kind.FileOffsets))
    (cond (nat_eq x 0x6C) (Some kind.CodeAndData) (cond (nat_eq x 0x72) (Some kind.CodeAndData)
    (cond (nat_eq x 0x6E) None (Some kind.CodeOffsets))))
kind_at _ = None

kind_is : (k : DescriptionKind) (name : List ℕ) → IsNameOf k name → kind_at name ≡ Some k
kind_is _ _ external_debug_info = refl
kind_is _ _ (debug rest) = refl
kind_is _ _ (code_metadata rest) = refl
kind_is _ _ source_mapping_url = refl
kind_is _ _ linking = refl
kind_is _ _ (relocations rest) = refl
kind_is _ _ signature = refl

-- ---- sections

module _ (id : ℕ) (content : List ℕ) where
  -- the name that a section begins with is one of what it describes
  name_of : (k : DescriptionKind) (name rest : List ℕ) → TakesSized name content rest →
      IsDescriptionOf k (section id content) → IsNameOf k name
  name_of k name rest t d =
      subst (IsNameOf k)
      (same_content content d.name d.has_name.follows name rest (name_taken d.name content d.has_name) t).0
      d.is_name

  pub one_kind : (j k : DescriptionKind) → IsDescriptionOf j (section id content) →
      IsDescriptionOf k (section id content) → j ≡ k
  one_kind j k d f =
      let same : Some j ≡ Some k = sym (kind_is j f.name (name_of j f.name f.has_name.follows
      (name_taken f.name content f.has_name) d)) ∙ kind_is k f.name f.is_name in
      cc

  pub no_kind_of_name : (name rest : List ℕ) (o : Option DescriptionKind) → TakesSized name content rest →
      IfNone o ((k : DescriptionKind) → IsNameOf k name → ⊥)
      → IfNone o ((k : DescriptionKind) → IsDescriptionOf k (section id content) → ⊥)
  no_kind_of_name name rest (Some k) t h = tt
  no_kind_of_name name rest None t h = λ k d. h k (name_of k name rest t d)

  pub nameless : BeginsUnsized content → (k : DescriptionKind) → IsDescriptionOf k (section id content) → ⊥
  nameless unsized k d = unsized d.name d.has_name.follows (name_taken d.name content d.has_name)

  -- a section `name` describes nothing
  pub names_describe_nothing : (rest : List ℕ) → TakesSized name_bytes content rest →
      IsDescription (section id content) → ⊥
  names_describe_nothing rest t d =
      let none : None ≡ Some d.kind = kind_is d.kind name_bytes (name_of d.kind name_bytes rest t d.describes)
      in
      absurd cc
