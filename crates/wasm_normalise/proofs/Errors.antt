-- What an error of a step says after it became a refusal of the whole.
use Rattle.std.proofs.Common.{◌≡◌, ℕ, List, Result, Ok, Err, Some, inr, refl, sym, subst, slice_get, arith}
use Rattle.std.specs.Prelude.{IfErr, IsErrAnd, IsErrOf}
use Rattle.wasm_binary.specs.declared.error.EncodeError.{EncodeError}
use Rattle.wasm_binary.specs.declared.error.EncodeError.TheVariants as encode
use Rattle.wasm_binary.specs.ModuleSections.{HasTypes}
use Rattle.wasm_module.specs.declared.renaming.RenameError.{RenameError}
use Rattle.wasm_module.specs.declared.renaming.RenameError.TheVariants as rename
use Rattle.walrus_sections.specs.FirstError.{IsFirstError}
use Rattle.walrus_sections.specs.Section.{index_space}
use Rattle.walrus_sections.specs.declared.error.ReadError.{ReadError}
use Rattle.walrus_sections.specs.declared.error.ReadError.TheVariants as read
use Rattle.walrus_ty.specs.Groups.{Section}
use Rattle.walrus_ty.specs.Records.{section_of}
use Rattle.walrus_ty.specs.declared.records.GroupAt.{GroupAt}
use Rattle.walrus_canonical.specs.Listing.{all_indices}
use Rattle.walrus_canonical.specs.Refusals.{IsRefusal as IsNotCanonical}
use Rattle.walrus_canonical.specs.Roots.{IsFirstUnknown}
use Rattle.walrus_canonical.specs.declared.error.CanonicalError.{CanonicalError}
use Rattle.walrus_canonical.specs.declared.error.CanonicalError.TheVariants as canonical
use Rattle.walrus_canonical.proofs.Forms.Rounds.{all_known}
use Rattle.walrus_canonical.proofs.Reading.Containing.{contained_from}
use Rattle.wasm_normalise.specs.CanonicalModules.{AreRoots, HasTypesError, IsRefusedBy, IsStoppedByFault, BecomesTooLong}
use Rattle.wasm_normalise.specs.Steps.Errors.{canonical_refusal, encode_refusal, read_failure, rename_refusal}
use Rattle.wasm_normalise.specs.Steps.CanonicalModules.{IsRefusal}
use Rattle.wasm_normalise.specs.Steps.CanonicalTypes.{IsTypesRefusal}
use Rattle.wasm_normalise.specs.declared.error.NormaliseModuleError.{NormaliseModuleError}
use Rattle.wasm_normalise.specs.declared.error.NormaliseModuleError.TheVariants as error
use Rattle.wasm_normalise.specs.declared.options.NormaliseOptions.{NormaliseOptions}
use Rattle.wasm_normalise.specs.declared.options.UnusedTypes.{UnusedTypes}
use Rattle.wasm_normalise.specs.declared.options.UnusedTypes.TheVariants as kinds
use Rattle.wasm_normalise.specs.declared.refusal.Refusal.{Refusal}

-- ---- the types of a module

pub types_error : (options : NormaliseOptions) (bytes : List ℕ) (e : NormaliseModuleError) →
    HasTypesError bytes e → IsRefusedBy options bytes e
types_error options bytes (error.Types e) h = h
types_error options bytes (error.BadIndex entry index end) h = h
types_error options bytes error.TooMany h = h
types_error options bytes (error.Malformed place) h = absurd h
types_error options bytes (error.UnknownType index count place) h = absurd h
types_error options bytes error.TooLong h = absurd h
types_error options bytes (error.Outdated offset) h = absurd h
types_error options bytes error.Memory h = tt

section_first : (bytes : List ℕ) (groups : List GroupAt) (e : ReadError) → HasTypes bytes groups →
    IsFirstError (section_of groups) e → HasTypesError bytes (read_failure e)
section_first bytes groups (read.BadIndex entry index end) types first =
    record { groups = groups; read = types; first = first }
section_first bytes groups read.TooMany types first = record { groups = groups; read = types; first = first }
section_first bytes groups read.Memory types first = tt

no_unknown : (s : Section) (roots : List ℕ) (root : ℕ) → roots ≡ all_indices s →
    IsFirstUnknown (index_space s).count roots root → ⊥
no_unknown s roots root all h =
    let there : slice_get (all_indices s) h.place ≡ Some root =
    subst (λ (u : List ℕ). slice_get u h.place ≡ Some root) all h.is in
    let low = all_known s root (contained_from (all_indices s) root h.place there) in
    let high = h.unknown in
    omega (arith, low, high)

types_are : (unused : UnusedTypes) (bytes : List ℕ) (groups : List GroupAt) (roots : List ℕ)
    (e : CanonicalError) → HasTypes bytes groups → AreRoots unused bytes (section_of groups) roots →
    IsNotCanonical (section_of groups) roots e → IsTypesRefusal unused bytes (canonical_refusal e)
types_are unused bytes groups roots (canonical.Section e) types are h = section_first bytes groups e types h
types_are kinds.Kept bytes groups roots (canonical.UnknownRoot index) types all h =
    absurd (no_unknown (section_of groups) roots index all h)
types_are kinds.Deleted bytes groups roots (canonical.UnknownRoot index) types named h = (
  refl,
  inr (record { groups = groups; roots = roots; read = types; named = named; index = index; unknown = h }),
)
types_are unused bytes groups roots canonical.Memory types are h = tt

pub types_not_made :
    {B : Type 0} (unused : UnusedTypes) (bytes : List ℕ) (groups : List GroupAt) (roots : List ℕ)
    (result : Result B Refusal) (e : CanonicalError)
    → IsErrAnd result (λ x. x ≡ canonical_refusal e) → HasTypes bytes groups
    → AreRoots unused bytes (section_of groups) roots → IsNotCanonical (section_of groups) roots e
    → IfErr result (IsTypesRefusal unused bytes)
types_not_made unused bytes groups roots (Ok new) e is types are h = absurd is
types_not_made unused bytes groups roots (Err x) e is types are h =
    subst (λ y. IsTypesRefusal unused bytes y) (sym is) (types_are unused bytes groups roots e types are h)

-- ---- the text of a type section, and modules that are written again

pub encode_refused :
    {A B : Type 0} (options : NormaliseOptions) (bytes : List ℕ) (result : Result B Refusal) (e : EncodeError)
    → IsErrAnd result (λ x. x ≡ encode_refusal e)
    → (IsErrOf {T = A} (Err e) encode.TooMany → BecomesTooLong options bytes)
    → IfErr result (IsRefusal options bytes)
encode_refused options bytes (Ok new) e is long = absurd is
encode_refused options bytes (Err x) encode.TooMany is long =
    subst (λ y. IsRefusal options bytes y) (sym is) (long refl)
encode_refused options bytes (Err x) encode.Memory is long = subst (λ y. IsRefusal options bytes y) (sym is)
    tt

pub rename_refused :
    {A B : Type 0} (options : NormaliseOptions) (bytes : List ℕ) (result : Result B Refusal) (e : RenameError)
    → IsErrAnd result (λ x. x ≡ rename_refusal e)
    → ((place : ℕ) → IsErrOf {T = A} (Err e) (rename.Malformed place) → IsStoppedByFault options bytes)
    → ((k place : ℕ) → IsErrOf {T = A} (Err e) (rename.UnknownType k place) → IsStoppedByFault options bytes)
    → (IsErrOf {T = A} (Err e) rename.TooLong → BecomesTooLong options bytes)
    → IfErr result (IsRefusal options bytes)
rename_refused options bytes (Ok new) e is malformed unknown long = absurd is
rename_refused options bytes (Err x) (rename.Malformed place) is malformed unknown long =
    subst (λ y. IsRefusal options bytes y) (sym is) (malformed place refl)
rename_refused options bytes (Err x) (rename.UnknownType index place) is malformed unknown long =
    subst (λ y. IsRefusal options bytes y) (sym is) (unknown index place refl)
rename_refused options bytes (Err x) rename.TooLong is malformed unknown long =
    subst (λ y. IsRefusal options bytes y) (sym is) (long refl)
rename_refused options bytes (Err x) rename.Memory is malformed unknown long =
    subst (λ y. IsRefusal options bytes y) (sym is) tt
