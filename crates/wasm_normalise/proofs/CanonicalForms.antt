-- What was read, brought into canonical form and written is the canonical form of a module's types.
use Rattle.std.proofs.Common.{◌≡◌, ◌≤◌, ◌∙◌, ℕ, List, length, refl, sym, subst}
use Rattle.wasm_binary.specs.Grammar.{IsTypes}
use Rattle.walrus_ty.specs.declared.records.GroupAt.{GroupAt}
use Rattle.wasm_module.specs.Customs.{IsStripped}
use Rattle.wasm_module.specs.Outdated.{HasOutdatedAt}
use Rattle.wasm_module.specs.Renaming.{NewIndices}
use Rattle.wasm_module.specs.RenamedModules.{RenamesModule}
use Rattle.wasm_normalise.specs.CanonicalModules.{HasCanonicalForm, IsShortest, HasCanonicalTypes, IsLeft, IsCanonicalModule, BecomesOutdated}
use Rattle.wasm_normalise.specs.declared.options.Descriptions.{Descriptions}
use Rattle.wasm_normalise.specs.declared.options.Descriptions.TheVariants as descriptions
use Rattle.wasm_normalise.specs.declared.options.NormaliseOptions.{NormaliseOptions}
use Rattle.wasm_normalise.specs.declared.options.UnusedTypes.{UnusedTypes}

-- the same, for a list that was lent
pub lent_form :
    (unused : UnusedTypes) (bytes : List ℕ) (canonical written : List GroupAt) (new_indices : NewIndices)
    → HasCanonicalForm unused bytes canonical new_indices → written ≡ canonical
    → HasCanonicalForm unused bytes written new_indices
lent_form unused bytes canonical written new_indices has is =
    subst (λ (x : List GroupAt). HasCanonicalForm unused bytes x new_indices) (sym is) has

pub has_canonical_types :
    (unused : UnusedTypes) (bytes : List ℕ) (written : List GroupAt) (new_indices lent : NewIndices)
    (types lent_types : List ℕ)
    → HasCanonicalForm unused bytes written new_indices → lent ≡ new_indices → IsTypes types written
    → ((others : List ℕ) → IsTypes others written → length types ≤ length others)
    → lent_types ≡ types → HasCanonicalTypes unused bytes lent_types lent
has_canonical_types unused bytes written new_indices lent types lent_types has same text least is = record {
  canonical = written;
  has = subst (λ (x : NewIndices). HasCanonicalForm unused bytes written x) (sym same) has;
  written =
      subst (λ (x : List ℕ). IsShortest x written) (sym is)
      (record { is_text = text; least = least });
}

-- where the sections that describe other bytes are kept, all is left
pub all_left : (d : Descriptions) (bytes : List ℕ) → d ≡ descriptions.Kept → IsLeft d bytes bytes
all_left d bytes is = subst (λ x. IsLeft x bytes bytes) (sym is) refl

pub stripped_left :
    (d : Descriptions) (bytes left lent : List ℕ) → d ≡ descriptions.Stripped
    → IsStripped bytes left → lent ≡ left → IsLeft d bytes lent
stripped_left d bytes left lent is stripped same =
    subst (λ x. IsLeft x bytes lent) (sym is)
    (subst (λ (u : List ℕ). IsStripped bytes u) (sym same) stripped)

pub is_canonical_module :
    (options : NormaliseOptions) (bytes types : List ℕ) (new_indices : NewIndices) (left new : List ℕ)
    → HasCanonicalTypes options.unused bytes types new_indices → IsLeft options.descriptions bytes left
    → RenamesModule types new_indices options.widths left new → IsCanonicalModule options bytes new
is_canonical_module options bytes types new_indices left new has is_left renamed = record {
  types = types;
  new_indices = new_indices;
  has = has;
  left = left;
  is_left = is_left;
  renamed = renamed;
}

pub becomes_outdated :
    (options : NormaliseOptions) (bytes new lent : List ℕ) (offset : ℕ)
    → IsCanonicalModule options bytes new → options.descriptions ≡ descriptions.Kept → lent ≡ new
    → (lent ≡ bytes → ⊥) → HasOutdatedAt bytes lent offset → BecomesOutdated options offset bytes
becomes_outdated options bytes new lent offset made are_kept same differs has = record {
  new = new;
  is_canonical = made;
  are_kept = are_kept;
  differs = λ e. differs (same ∙ e);
  has = subst (λ (u : List ℕ). HasOutdatedAt bytes u offset) same has;
}
