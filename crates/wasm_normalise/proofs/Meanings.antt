-- Types keep their meaning.
use Rattle.std.proofs.Common.{◌≡◌, ℕ, zero, suc, List, [], ◌∷◌, length, map, Some, refl, ap, subst, ◌∙◌, slice_get}
use Rattle.walrus_ty.specs.Records.{section_of}
use Rattle.wasm_module.specs.Renaming.{NewIndices, new_index}
use Rattle.wasm_normalise.specs.CanonicalModules.{IsCanonicalModule}
use Rattle.wasm_normalise.specs.Meanings.{AreAllEqual, NameEqualTypes}
use Rattle.wasm_normalise.specs.declared.options.NormaliseOptions.{NormaliseOptions}
use Rattle.wasm_normalise.proofs.OneNaming.{names_in_turn}
use Rattle.wasm_normalise.proofs.SecondRound.{has_canonical}

pub all_equal : (options : NormaliseOptions) (bytes new : List ℕ) →
    (h : IsCanonicalModule options bytes new)
    → AreAllEqual (section_of h.has.has.groups) (section_of h.has.canonical) h.new_indices
all_equal options bytes new h = h.has.has.is_canonical.listing.equal

-- what was mapped is as long as before
as_many : (m : NewIndices) (names new : List ℕ) →
    map (λ k. new_index m k) names ≡ map (λ k. Some k) new → length new ≡ length names
as_many m [] [] e = refl
as_many m [] (p ∷ new) e = absurd cc
as_many m (k ∷ names) [] e = absurd cc
as_many m (k ∷ names) (p ∷ new) e =
    let tail : map (λ k. new_index m k) names ≡ map (λ k. Some k) new = cc in
    ap suc (as_many m names new tail)

-- and at each place has the new index of what was there
in_turn : (m : NewIndices) (names new : List ℕ) →
    map (λ k. new_index m k) names ≡ map (λ k. Some k) new → (place i j : ℕ)
    → slice_get names place ≡ Some i → slice_get new place ≡ Some j → new_index m i ≡ Some j
in_turn m [] new e place i j h k = absurd cc
in_turn m (n ∷ names) [] e place i j h k = absurd cc
in_turn m (n ∷ names) (p ∷ new) e zero i j h k =
    let head : new_index m n ≡ Some p = cc in
    let old : n ≡ i = cc in
    let is : p ≡ j = cc in
    subst (λ (u : ℕ). new_index m u ≡ Some j) old (head ∙ ap (λ (u : ℕ). Some u) is)
in_turn m (n ∷ names) (p ∷ new) e (suc place) i j h k =
    let tail : map (λ k. new_index m k) names ≡ map (λ k. Some k) new = cc in
    in_turn m names new tail place i j h k

pub name_equal_types : (options : NormaliseOptions) (bytes new : List ℕ) →
    IsCanonicalModule options bytes new → NameEqualTypes bytes new
name_equal_types options bytes new h =
    let f = names_in_turn options bytes new h in
    record {
      groups = h.has.has.groups;
      new_groups = h.has.canonical;
      read = h.has.has.read;
      new_read = has_canonical options bytes new h;
      names = f.names;
      new_names = f.new_names;
      named = f.named;
      new_named = f.new_named;
      equal = record {
        as_many = as_many h.new_indices f.names f.new_names f.mapped;
        equal = λ place i j at_old at_new. h.has.has.is_canonical.listing.equal i j
            (in_turn h.new_indices f.names f.new_names f.mapped place i j at_old at_new);
      };
    }
