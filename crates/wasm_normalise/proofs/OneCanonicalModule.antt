-- There is one module with its types in canonical form.
use Rattle.std.proofs.Common.{◌≡◌, ℕ, List, [], ◌++◌, length, take, refl, sym, ap, subst, ◌∙◌, take_at}
use Rattle.wasm_binary.specs.Grammar.{IsTypes}
use Rattle.wasm_binary.specs.ModuleSections.{HasTypes, in_section, without_section}
use Rattle.wasm_binary.specs.Modules.{IsTypeSectionAt}
use Rattle.wasm_binary.proofs.Modules.FirstSections.{contents}
use Rattle.wasm_binary.proofs.Sections as groups
use Rattle.walrus_sections.specs.Section.{index_space}
use Rattle.walrus_ty.specs.Groups.{Section}
use Rattle.walrus_ty.specs.Records.{section_of}
use Rattle.walrus_ty.specs.declared.records.GroupAt.{GroupAt}
use Rattle.walrus_ty.proofs.Equality.Contents.{same_section}
use Rattle.walrus_canonical.specs.Listing.{IsCanonical, all_indices}
use Rattle.walrus_canonical.proofs.Forms.Canonical.{one_section, one_indices}
use Rattle.wasm_module.specs.Renaming.{NewIndices}
use Rattle.wasm_module.specs.RenamedModules.{RenamesModule}
use Rattle.wasm_module.proofs.TreesOfModules.{renamed_once}
use Rattle.wasm_module.proofs.StrippedOnce.{stripped_once}
use Rattle.wasm_module.specs.declared.renaming.Widths.{Widths}
use Rattle.wasm_normalise.specs.CanonicalModules.{AreRoots, HasCanonicalForm, HasCount, IsShortest, IsLeft, IsCanonicalModule}
use Rattle.wasm_normalise.specs.declared.options.UnusedTypes.{UnusedTypes}
use Rattle.wasm_normalise.specs.declared.options.UnusedTypes.TheVariants as kinds
use Rattle.wasm_normalise.specs.declared.options.Descriptions.{Descriptions}
use Rattle.wasm_normalise.specs.declared.options.Descriptions.TheVariants as descriptions
use Rattle.wasm_normalise.specs.declared.options.NormaliseOptions.{NormaliseOptions}
use Rattle.wasm_normalise.proofs.OneNaming.{named_once}
use Rattle.wasm_normalise.proofs.ShortestTexts.{shortest_types_once}

-- ---- the types of a module

-- what a type section contains is a text of the module's types
in_content : (bytes : List ℕ) (start stop : ℕ) (b : List GroupAt) (t : IsTypeSectionAt bytes start stop) →
    HasTypes bytes b → IsTypes t.content b
in_content bytes start stop b t h =
    let k = contents t.prefix t.back t.size (t.content ++ t.back) (length t.content) b bytes t.around_it
    t.sized
    t.parts h in
    let same : k.content ≡ t.content = sym (take_at k.content k.rest (length t.content) k.long)
    ∙ ap (take (length t.content)) (sym k.parts) ∙ take_at t.content t.back (length t.content) refl in
    subst (λ (u : List ℕ). IsTypes u b) same k.is_text

pub types_once : (bytes : List ℕ) (a b : List GroupAt) → HasTypes bytes a → HasTypes bytes b → a ≡ b
types_once bytes _ b (in_section start stop a t text) h =
    groups.one_section t.content a b (in_content bytes start stop a t (in_section start stop a t text))
    (in_content bytes start stop b t h)
types_once bytes _ _ (without_section h) (in_section start stop b t text) =
    groups.one_section t.content [] b (in_content bytes start stop [] t (without_section h))
    (in_content bytes start stop b t (in_section start stop b t text))
types_once bytes _ _ (without_section h) (without_section k) = refl

pub count_once : (bytes : List ℕ) (a b : ℕ) → HasCount bytes a → HasCount bytes b → a ≡ b
count_once bytes a b h k =
    h.same ∙ ap (λ (groups : List GroupAt). (index_space (section_of groups)).count)
    (types_once bytes h.groups k.groups h.read k.read) ∙ sym k.same

-- ---- their canonical form

pub roots_once : (u : UnusedTypes) (bytes : List ℕ) (s t : Section) (a b : List ℕ) → s ≡ t →
    AreRoots u bytes s a → AreRoots u bytes t b → a ≡ b
roots_once kinds.Kept bytes s t a b e h k = h ∙ (ap all_indices e ∙ sym k)
roots_once kinds.Deleted bytes s t a b e h k = named_once bytes a b h k

pub form_once : (u : UnusedTypes) (bytes : List ℕ) (a b : List GroupAt) (m w : NewIndices) →
    HasCanonicalForm u bytes a m → HasCanonicalForm u bytes b w → (a ≡ b) × (m ≡ w)
form_once u bytes a b m w h k =
    let same : k.groups ≡ h.groups = types_once bytes k.groups h.groups k.read h.read in
    let s : Section = section_of h.groups in
    let sections : section_of k.groups ≡ s = ap section_of same in
    let roots-are : k.roots ≡ h.roots =
    roots_once u bytes (section_of k.groups) s k.roots h.roots sections k.are_roots h.are_roots in
    let again : IsCanonical s h.roots (section_of b) w =
    subst (λ (r : List ℕ). IsCanonical s r (section_of b) w) roots-are
    (subst (λ (t : Section). IsCanonical t k.roots (section_of b) w) sections k.is_canonical) in (
      same_section a b (one_section s (section_of a) (section_of b) h.roots m w h.is_canonical again),
      one_indices s (section_of a) (section_of b) h.roots m w h.is_canonical again,
    )

pub same_texts : (a b : List ℕ) (n p : List GroupAt) → n ≡ p → IsShortest a n → IsShortest b p → a ≡ b
same_texts a b n p e h k =
    shortest_types_once a b n h.is_text (subst (λ (v : List GroupAt). IsTypes b v) (sym e) k.is_text) h.least
    (λ o t. k.least o (subst (λ (v : List GroupAt). IsTypes o v) e t))

-- ---- modules

pub left_once : (d : Descriptions) (bytes a b : List ℕ) → IsLeft d bytes a → IsLeft d bytes b → a ≡ b
left_once descriptions.Kept bytes a b h k = h ∙ sym k
left_once descriptions.Stripped bytes a b h k = stripped_once bytes a b h k

-- two modules with the same types and new indices are the same
pub same_module : (w : Widths) (types others : List ℕ) (m n : NewIndices) (left rest a b : List ℕ) →
    types ≡ others → m ≡ n → left ≡ rest → RenamesModule types m w left a → RenamesModule others n w rest b →
    a ≡ b
same_module w types others m n left rest a b e f g h k =
    renamed_once others n w rest a b
    (subst (λ (u : List ℕ). RenamesModule others n w u a) g
    (subst (λ (u : NewIndices). RenamesModule others u w left a) f
    (subst (λ (u : List ℕ). RenamesModule u m w left a) e h))) k

pub module_once : (options : NormaliseOptions) (bytes a b : List ℕ) →
    IsCanonicalModule options bytes a → IsCanonicalModule options bytes b → a ≡ b
module_once options bytes a b h k =
    let one = form_once options.unused bytes h.has.canonical k.has.canonical h.new_indices k.new_indices
    h.has.has k.has.has in
    same_module options.widths h.types k.types h.new_indices k.new_indices h.left k.left a b
    (same_texts h.types k.types h.has.canonical k.has.canonical one.0 h.has.written k.has.written) one.1
    (left_once options.descriptions bytes h.left k.left h.is_left k.is_left) h.renamed k.renamed
