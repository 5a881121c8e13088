-- A second round changes nothing.
use Rattle.std.proofs.Common.{◌≡◌, ℕ, ◌<◌, ◌≤◌, List, [], ◌∷◌, length, Option, Some, inl, inr, refl, sym, ap, subst, ◌∙◌, map, arith}
use Rattle.std.specs.Option.{unwrap_or}
use Rattle.wasm_binary.specs.ModuleSections.{HasTypes, without_section}
use Rattle.wasm_binary.specs.Modules.{HasNoTypeSection}
use Rattle.walrus_ty.specs.Groups.{Section, Single, Rec}
use Rattle.walrus_ty.specs.Records.{section_of}
use Rattle.walrus_ty.specs.declared.records.GroupAt.{GroupAt}
use Rattle.walrus_ty.proofs.Equality.Contents.{same_section}
use Rattle.walrus_sections.specs.Section.{index_space}
use Rattle.walrus_canonical.specs.Listing.{HasPlainGroups, IsCanonical, IsListing, all_indices, kept_indices, new_or_zero}
use Rattle.walrus_canonical.proofs.Forms.Canonical as forms
use Rattle.walrus_canonical.proofs.Forms.Indices.{built_length, built_at}
use Rattle.wasm_module.specs.declared.renaming.Widths.{Widths}
use Rattle.wasm_module.specs.OwnIndices.{AreOwn}
use Rattle.wasm_module.specs.Renaming.{NewIndices, new_index}
use Rattle.wasm_module.specs.RenamedModules.{RenamesModule}
use Rattle.wasm_module.proofs.StrippedOnce.{renamed_is_stripped, no_types_before}
use Rattle.wasm_module.proofs.TreesOfModules.{module_stays}
use Rattle.wasm_normalise.specs.CanonicalModules.{HasCanonicalForm, IsLeft, IsCanonicalModule}
use Rattle.wasm_normalise.specs.declared.options.Descriptions.{Descriptions}
use Rattle.wasm_normalise.specs.declared.options.Descriptions.TheVariants as descriptions
use Rattle.wasm_normalise.specs.declared.options.NormaliseOptions.{NormaliseOptions}
use Rattle.wasm_normalise.specs.declared.options.UnusedTypes.{UnusedTypes}
use Rattle.wasm_normalise.specs.declared.options.UnusedTypes.TheVariants as kinds
use Rattle.wasm_normalise.proofs.LeadTogether.{have_bound}
use Rattle.wasm_normalise.proofs.OneNaming.{NamesInTurn, names_in_turn, named_once}
use Rattle.wasm_normalise.proofs.OneCanonicalModule.{types_once, module_once}
use Rattle.wasm_normalise.proofs.ResultTypes.{has_new_types}

-- ---- the types of the result

-- there is no new index of nothing
none_of_nothing : (m : NewIndices) (i p : ℕ) → length m ≡ 0 → new_index m i ≡ Some p → ⊥
none_of_nothing [] i p e is = absurd cc
none_of_nothing (x ∷ m) i p e is = absurd cc

-- a section without types is listed as one without groups
nothing_listed : (n : Section) (roots : List ℕ) (m : NewIndices) → IsListing [] roots n m → n ≡ []
nothing_listed n roots m h = by_group n h.plain h.onto
  where
    none_goes : (p : ℕ) → (i : ℕ) × (new_index m i ≡ Some p) → ⊥
    none_goes p o = none_of_nothing m o.0 p h.one_each o.1

    by_group : (n : Section) → HasPlainGroups n
        → ((p : ℕ) → p < (index_space n).count → (i : ℕ) × (new_index m i ≡ Some p)) → n ≡ []
    by_group [] plain onto = refl
    by_group (Single d ∷ gs) plain onto = absurd (none_goes 0 (onto 0 (omega arith)))
    by_group (Rec [] ∷ gs) plain onto = absurd plain
    by_group (Rec (d ∷ []) ∷ gs) plain onto = absurd plain
    by_group (Rec (d ∷ e ∷ ds) ∷ gs) plain onto = absurd (none_goes 0 (onto 0 (omega arith)))

-- a module without types has none in canonical form
nothing_left : (u : UnusedTypes) (bytes : List ℕ) (out : List GroupAt) (m : NewIndices) →
    HasTypes bytes [] → HasCanonicalForm u bytes out m → section_of out ≡ []
nothing_left u bytes out m nothing h =
    let read : h.groups ≡ [] = types_once bytes h.groups [] h.read nothing in
    nothing_listed (section_of out) h.roots m
    (subst (λ (g : List GroupAt). IsListing (section_of g) h.roots (section_of out) m) read
    h.is_canonical.listing)

no_types_read : (d : Descriptions) (bytes left : List ℕ) → IsLeft d bytes left → HasNoTypeSection left →
    HasNoTypeSection bytes
no_types_read descriptions.Kept bytes left e h = subst (λ (u : List ℕ). HasNoTypeSection u) e h
no_types_read descriptions.Stripped bytes left s h = no_types_before bytes left s h

pub has_canonical : (options : NormaliseOptions) (bytes new : List ℕ) →
    (h : IsCanonicalModule options bytes new) → HasTypes new h.has.canonical
has_canonical options bytes new h =
    elim (has_new_types h.types h.new_indices options.widths h.left new h.has.canonical h.renamed
    h.has.written.is_text) [
      | inl found ↦ found
      | inr none ↦ (
          let nothing : HasTypes bytes [] =
          without_section (no_types_read options.descriptions bytes h.left h.is_left none.0) in
          let empty = nothing_left options.unused bytes h.has.canonical h.new_indices nothing h.has.has in
          subst (λ (u : List GroupAt). HasTypes new u) (sym (same_section h.has.canonical [] empty))
          (without_section none.1))
    ]

-- ---- the new indices of the result

-- each new index is its own in the second round
own_indices : (s n : Section) (roots : List ℕ) (m : NewIndices) → IsListing s roots n m →
    AreOwn m (kept_indices n)
own_indices s n roots m h k p e = built_at (λ i. Some i) (index_space n).count p (h.below k p e)

-- and there are no more of them
no_more_own : (s n : Section) (roots : List ℕ) (m : NewIndices) → IsListing s roots n m →
    length (kept_indices n) ≤ length m
no_more_own s n roots m h =
    subst (λ k. k ≤ length m) (sym (built_length (λ i. Some i) (index_space n).count))
    (have_bound s n roots m h).few

-- the new roots are what the names of the result are
new_roots : (m : NewIndices) (names new : List ℕ) →
    map (λ k. new_index m k) names ≡ map (λ k. Some k) new → map (new_or_zero m) names ≡ new
new_roots m [] [] e = refl
new_roots m [] (p ∷ new) e = absurd cc
new_roots m (k ∷ names) [] e = absurd cc
new_roots m (k ∷ names) (p ∷ new) e =
    let head : new_index m k ≡ Some p = cc in
    let tail : map (λ k. new_index m k) names ≡ map (λ k. Some k) new = cc in
    ap (λ (o : Option ℕ). unwrap_or o 0 ∷ map (new_or_zero m) names) head
    ∙ ap (λ (u : List ℕ). p ∷ u) (new_roots m names new tail)

-- ---- the result is one of its own

stays_left : (d : Descriptions) (w : Widths) (types : List ℕ) (map : NewIndices) (bytes left new : List ℕ) →
    IsLeft d bytes left → RenamesModule types map w left new → IsLeft d new new
stays_left descriptions.Kept w types map bytes left new e r = refl
stays_left descriptions.Stripped w types map bytes left new s r =
    renamed_is_stripped types map w bytes left new s r

-- the canonical form of a module's types is that of the result's types, where all of these are kept
kept_form : (u : UnusedTypes) (bytes new : List ℕ) (out : List GroupAt) (m : NewIndices) →
    HasCanonicalForm u bytes out m → HasTypes new out →
    HasCanonicalForm kinds.Kept new out (kept_indices (section_of out))
kept_form u bytes new out m h read = record {
  groups = out;
  read = read;
  well_named = h.is_canonical.listing.well_named;
  roots = all_indices (section_of out);
  are_roots = refl;
  is_canonical = forms.second_round (section_of h.groups) (section_of out) h.roots m h.is_canonical;
}

-- and where those are kept that it names, if the module's unused types were deleted
used_form : (bytes new : List ℕ) (out : List GroupAt) (m : NewIndices) →
    HasCanonicalForm kinds.Deleted bytes out m → HasTypes new out → NamesInTurn m bytes new →
    HasCanonicalForm kinds.Deleted new out (kept_indices (section_of out))
used_form bytes new out m h read names =
    let n : Section = section_of out in
    let roots : h.roots ≡ names.names = named_once bytes h.roots names.names h.are_roots names.named in
    let are : map (new_or_zero m) h.roots ≡ names.new_names =
    ap (λ (u : List ℕ). map (new_or_zero m) u) roots
    ∙ new_roots m names.names names.new_names names.mapped
    in
    record {
      groups = out;
      read = read;
      well_named = h.is_canonical.listing.well_named;
      roots = names.new_names;
      are_roots = names.new_named;
      is_canonical = subst (λ (r : List ℕ). IsCanonical n r n (kept_indices n)) are
          (forms.second_pruning (section_of h.groups) n h.roots m h.is_canonical);
    }

-- the result is one of its own, where its types keep their indices
module _ (options other : NormaliseOptions) (bytes new : List ℕ) (widths : other.widths ≡ options.widths)
    (described : other.descriptions ≡ options.descriptions) (h : IsCanonicalModule options bytes new) where
  abbrev own : NewIndices
  own = kept_indices (section_of h.has.canonical)

  stays : HasCanonicalForm other.unused new h.has.canonical own → IsCanonicalModule other new new
  stays has = record {
    types = h.types;
    new_indices = own;
    has = record { canonical = h.has.canonical; has = has; written = h.has.written };
    left = new;
    is_left = subst (λ (d : Descriptions). IsLeft d new new) (sym described)
        (stays_left options.descriptions options.widths h.types h.new_indices bytes h.left new h.is_left
        h.renamed);
    renamed = subst (λ (w : Widths). RenamesModule h.types own w new new) (sym widths)
        (module_stays h.new_indices own
        (own_indices (section_of h.has.has.groups) (section_of h.has.canonical) h.has.has.roots h.new_indices
        h.has.has.is_canonical.listing)
        (no_more_own (section_of h.has.has.groups) (section_of h.has.canonical) h.has.has.roots h.new_indices
        h.has.has.is_canonical.listing)
        options.widths h.types h.left new h.renamed);
  }

  kept_again : other.unused ≡ kinds.Kept → IsCanonicalModule other new new
  kept_again kept = stays
      (subst (λ (u : UnusedTypes). HasCanonicalForm u new h.has.canonical own) (sym kept)
      (kept_form options.unused bytes new h.has.canonical h.new_indices h.has.has
      (has_canonical options bytes new h)))

  used_again : options.unused ≡ kinds.Deleted → other.unused ≡ kinds.Deleted →
      IsCanonicalModule other new new
  used_again deleted also =
      let form = subst (λ (u : UnusedTypes). HasCanonicalForm u bytes h.has.canonical h.new_indices) deleted
      h.has.has
      in
      stays
      (subst (λ (u : UnusedTypes). HasCanonicalForm u new h.has.canonical own) (sym also)
      (used_form bytes new h.has.canonical h.new_indices form (has_canonical options bytes new h)
      (names_in_turn options bytes new h)))

pub made_again : (options : NormaliseOptions) (bytes new : List ℕ) → IsCanonicalModule options bytes new →
    IsCanonicalModule options new new
made_again options bytes new h = by_kind options.unused refl
  where
    by_kind : (u : UnusedTypes) → options.unused ≡ u → IsCanonicalModule options new new
    by_kind kinds.Kept kept = kept_again options options bytes new refl refl h kept
    by_kind kinds.Deleted deleted = used_again options options bytes new refl refl h deleted deleted

pub again_after_deleting : (options other : NormaliseOptions) (bytes new : List ℕ) →
    options.unused ≡ kinds.Deleted → other.widths ≡ options.widths
    → other.descriptions ≡ options.descriptions → IsCanonicalModule options bytes new
    → IsCanonicalModule other new new
again_after_deleting options other bytes new deleted widths described h = by_kind other.unused refl
  where
    by_kind : (u : UnusedTypes) → other.unused ≡ u → IsCanonicalModule other new new
    by_kind kinds.Kept kept = kept_again options other bytes new widths described h kept
    by_kind kinds.Deleted also = used_again options other bytes new widths described h deleted also

-- ---- there is no other result

pub second_unchanged : (options : NormaliseOptions) (bytes new again : List ℕ) →
    IsCanonicalModule options bytes new → IsCanonicalModule options new again → again ≡ new
second_unchanged options bytes new again h k =
    module_once options new again new k (made_again options bytes new h)

pub unchanged_after_deleting : (options other : NormaliseOptions) (bytes new again : List ℕ) →
    options.unused ≡ kinds.Deleted → other.widths ≡ options.widths
    → other.descriptions ≡ options.descriptions → IsCanonicalModule options bytes new
    → IsCanonicalModule other new again → again ≡ new
unchanged_after_deleting options other bytes new again deleted widths described h k =
    module_once other new again new k (again_after_deleting options other bytes new deleted widths described
    h)
