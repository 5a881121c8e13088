-- Two modules have the same result exactly where they differ in nothing but their lists of types.
use Rattle.std.proofs.Common.{◌≡◌, ℕ, List, length, sym, ap, subst}
use Rattle.std.specs.Prelude.{◌↔◌}
use Rattle.wasm_binary.specs.ModuleSections.{HasTypes}
use Rattle.walrus_canonical.specs.Listing.{IsCanonical}
use Rattle.walrus_canonical.proofs.Forms.Canonical.{complete}
use Rattle.walrus_sections.specs.Section.{index_space}
use Rattle.walrus_ty.specs.Groups.{Section}
use Rattle.walrus_ty.specs.Records.{section_of}
use Rattle.walrus_ty.specs.declared.records.GroupAt.{GroupAt}
use Rattle.walrus_ty.proofs.Equality.Contents.{same_section}
use Rattle.wasm_module.specs.declared.renaming.Widths.{Widths}
use Rattle.wasm_module.specs.declared.renaming.Widths.TheVariants.{Shortest}
use Rattle.wasm_module.specs.Alike.{Pairing, AreAlike}
use Rattle.wasm_module.specs.Renaming.{NewIndices}
use Rattle.wasm_module.specs.RenamedModules.{RenamesModule}
use Rattle.wasm_module.proofs.AlikeModules.{modules_alike}
use Rattle.wasm_module.proofs.AlikeTrees.{modules_become_one}
use Rattle.wasm_normalise.specs.AlikeModules.{DifferInLists, BelongTogether}
use Rattle.wasm_normalise.specs.CanonicalModules.{AreRoots, HasCanonicalForm, IsCanonicalModule}
use Rattle.wasm_normalise.specs.declared.options.NormaliseOptions.{NormaliseOptions}
use Rattle.wasm_normalise.specs.declared.options.UnusedTypes.{UnusedTypes}
use Rattle.wasm_normalise.proofs.LeadTogether.{have_bound, lead_together}
use Rattle.wasm_normalise.proofs.OneCanonicalModule.{types_once, roots_once, same_texts, left_once}
use Rattle.wasm_normalise.proofs.SecondRound.{has_canonical}

-- the canonical form, for these groups and roots of the module
form_for : (u : UnusedTypes) (bytes : List ℕ) (groups out : List GroupAt) (roots : List ℕ) (m : NewIndices) →
    HasCanonicalForm u bytes out m → HasTypes bytes groups → AreRoots u bytes (section_of groups) roots →
    IsCanonical (section_of groups) roots (section_of out) m
form_for u bytes groups out roots m h read are =
    let same : h.groups ≡ groups = types_once bytes h.groups groups h.read read in
    let sections : section_of h.groups ≡ section_of groups = ap section_of same in
    let roots-are : h.roots ≡ roots =
    roots_once u bytes (section_of h.groups) (section_of groups) h.roots roots sections h.are_roots are in
    subst (λ (r : List ℕ). IsCanonical (section_of groups) r (section_of out) m) roots-are
    (subst (λ (t : Section). IsCanonical t h.roots (section_of out) m) sections h.is_canonical)

pub same_result : (options : NormaliseOptions) (bytes other a b : List ℕ) → options.widths ≡ Shortest →
    IsCanonicalModule options bytes a → IsCanonicalModule options other b →
    DifferInLists options bytes other → a ≡ b
same_result options bytes other a b short h k d =
    let s : Section = section_of d.groups in
    let t : Section = section_of d.other_groups in
    let f = form_for options.unused bytes d.groups h.has.canonical d.roots h.new_indices h.has.has d.read
    d.are_roots in
    let g = form_for options.unused other d.other_groups k.has.canonical d.other_roots k.new_indices k.has.has
    d.other_read d.other_are_roots in
    let one : section_of h.has.canonical ≡ section_of k.has.canonical =
    (complete s t (section_of h.has.canonical) (section_of k.has.canonical) d.roots d.other_roots
    h.new_indices k.new_indices f g).1 (d.among, d.among_back) in
    let g-too : IsCanonical t d.other_roots (section_of h.has.canonical) k.new_indices =
    subst (λ (n : Section). IsCanonical t d.other_roots n k.new_indices) (sym one) g in
    let texts : h.types ≡ k.types = same_texts h.types k.types h.has.canonical k.has.canonical
    (same_section h.has.canonical k.has.canonical one) h.has.written k.has.written in
    let left : h.left ≡ d.left = left_once options.descriptions bytes h.left d.left h.is_left d.is_left in
    let other-left : k.left ≡ d.other_left =
    left_once options.descriptions other k.left d.other_left k.is_left d.other_is_left in
    let first : RenamesModule h.types h.new_indices Shortest d.left a =
    subst (λ (u : List ℕ). RenamesModule h.types h.new_indices Shortest u a) left
    (subst (λ (w : Widths). RenamesModule h.types h.new_indices w h.left a) short h.renamed) in
    let second : RenamesModule h.types k.new_indices Shortest d.other_left b =
    subst (λ (u : List ℕ). RenamesModule h.types k.new_indices Shortest u b) other-left
    (subst (λ (w : Widths). RenamesModule h.types k.new_indices w k.left b) short
    (subst (λ (u : List ℕ). RenamesModule u k.new_indices options.widths k.left b) (sym texts) k.renamed)) in
    modules_become_one (BelongTogether s d.roots t d.other_roots) h.new_indices k.new_indices
    (lead_together s t (section_of h.has.canonical) d.roots d.other_roots h.new_indices k.new_indices
    f.listing g-too.listing) (index_space s).count (index_space t).count f.listing.one_each
    g-too.listing.one_each h.types d.left d.other_left a b d.alike first second

-- the second module's canonical form, where that is the first one's
pub alike_of : (options : NormaliseOptions) (bytes other new : List ℕ) → options.widths ≡ Shortest →
    IsCanonicalModule options bytes new → IsCanonicalModule options other new →
    DifferInLists options bytes other
alike_of options bytes other new short h k =
    let f = h.has.has in
    let g = k.has.has in
    let s : Section = section_of f.groups in
    let t : Section = section_of g.groups in
    let n : Section = section_of h.has.canonical in
    let same : h.has.canonical ≡ k.has.canonical =
    types_once new h.has.canonical k.has.canonical (has_canonical options bytes new h)
    (has_canonical options other new k) in
    let sections : n ≡ section_of k.has.canonical = ap section_of same in
    let among = (complete s t n (section_of k.has.canonical) f.roots g.roots h.new_indices k.new_indices
    f.is_canonical g.is_canonical).0 sections in
    let g-too : IsCanonical t g.roots n k.new_indices =
    subst (λ (p : Section). IsCanonical t g.roots p k.new_indices) (sym sections) g.is_canonical in
    let first : RenamesModule h.types h.new_indices Shortest h.left new =
    subst (λ (w : Widths). RenamesModule h.types h.new_indices w h.left new) short h.renamed in
    let second : RenamesModule k.types k.new_indices Shortest k.left new =
    subst (λ (w : Widths). RenamesModule k.types k.new_indices w k.left new) short k.renamed in
    let R : Pairing = BelongTogether s f.roots t g.roots in
    let alike : AreAlike R (length h.new_indices) (length k.new_indices) h.left k.left =
    modules_alike R h.new_indices k.new_indices
    (lead_together s t n f.roots g.roots h.new_indices k.new_indices f.is_canonical.listing g-too.listing)
    (index_space n).count (have_bound s n f.roots h.new_indices f.is_canonical.listing)
    (have_bound t n g.roots k.new_indices g-too.listing) h.types k.types h.left k.left new first second in
    record {
      groups = f.groups;
      other_groups = g.groups;
      read = f.read;
      other_read = g.read;
      roots = f.roots;
      other_roots = g.roots;
      are_roots = f.are_roots;
      other_are_roots = g.are_roots;
      among = among.0;
      among_back = among.1;
      left = h.left;
      other_left = k.left;
      is_left = h.is_left;
      other_is_left = k.is_left;
      alike = subst (λ i. AreAlike R i (index_space t).count h.left k.left) f.is_canonical.listing.one_each
          (subst (λ j. AreAlike R (length h.new_indices) j h.left k.left) g-too.listing.one_each alike);
    }

pub one_result : (options : NormaliseOptions) (bytes other a b : List ℕ) → options.widths ≡ Shortest →
    IsCanonicalModule options bytes a → IsCanonicalModule options other b →
    (a ≡ b) ↔ DifferInLists options bytes other
one_result options bytes other a b short h k = (
  (λ e. alike_of options bytes other a short h
      (subst (λ (u : List ℕ). IsCanonicalModule options other u) (sym e) k)),
  (λ d. same_result options bytes other a b short h k d),
)
