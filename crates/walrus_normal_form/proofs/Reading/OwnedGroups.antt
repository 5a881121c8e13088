-- A section that is read group by group, out of a list of groups that gets shorter.
use Rattle.std.proofs.Common.{◌≡◌, ◌⊎◌, ℕ, List, [], ◌∷◌, ◌++◌, length, ap, sym, subst, ◌∙◌, None, Some, inl, inr, append_assoc, IfErr}
use Rattle.std.specs.Result.{IsErrAnd}
use Rattle.std.specs.declared.result.Result.{Result}
use Rattle.std.specs.declared.result.Result.TheVariants.{Ok, Err}
use Rattle.std.proofs.lemmas.List.{append-nil, map-append}
use Rattle.walrus_ty.specs.Groups.{Section}
use Rattle.walrus_ty.specs.Records.{group_of, section_of}
use Rattle.walrus_ty.specs.declared.records.EntryAt.{EntryAt}
use Rattle.walrus_ty.specs.declared.records.GroupAt.{GroupAt}
use Rattle.walrus_sections.specs.FirstError.{group_error, definitions_of, IsFirstError}
use Rattle.walrus_sections.specs.declared.error.ReadError.{ReadError}
use Rattle.walrus_sections.specs.declared.error.ReadError.TheVariants.{Memory}
use Rattle.walrus_normal_form.specs.declared.slot_group.SlotGroup.{SlotGroup}
use Rattle.walrus_normal_form.specs.Steps.SectionReaders.{IsReadSoFar}

-- the groups but for the ones that are left were read
pub record HasRead (given left : List GroupAt) (slots : List ℕ) (groups : List SlotGroup)
    (lone : List (EntryAt × ℕ)) : Type 0 where
  pub before : List GroupAt
  pub parts : given ≡ before ++ left
  pub read : IsReadSoFar (section_of before) slots groups lone

module _ (given left : List GroupAt) (slots : List ℕ) (groups : List SlotGroup)
    (lone : List (EntryAt × ℕ)) (h : HasRead given left slots groups lone) where
  -- one more is read
  pub one_more :
      (rest : List GroupAt) (g : GroupAt) (more : List ℕ) (new : List SlotGroup)
      (after : List (EntryAt × ℕ)) → left ≡ g ∷ rest →
      ((s : Section) → IsReadSoFar s slots groups lone → IsReadSoFar (s ++ group_of g ∷ []) more new after) →
      HasRead given rest more new after
  one_more rest g more new after next reads = record {
    before = h.before ++ g ∷ [];
    parts =
        h.parts ∙ (ap (λ (gs : List GroupAt). h.before ++ gs) next
        ∙ sym (append_assoc h.before (g ∷ []) rest));
    read = subst (λ (s : Section). IsReadSoFar s more new after)
        (sym (map-append group_of h.before (g ∷ []))) (reads (section_of h.before) h.read);
  }

  -- where none is left, the whole section is read
  pub all_read : left ≡ [] → IsReadSoFar (section_of given) slots groups lone
  all_read none = subst (λ (gs : List GroupAt). IsReadSoFar (section_of gs) slots groups lone)
      (sym (h.parts ∙ (ap (λ (gs : List GroupAt). h.before ++ gs) none ∙ append-nil h.before))) h.read

  -- a group that is refused is the first, as those before it are read
  pub refused_first :
      (rest : List GroupAt) (g : GroupAt) (e : ReadError) → left ≡ g ∷ rest →
      ((e ≡ Memory) × (group_error (length slots) (definitions_of (group_of g)) ≡ None)) ⊎
      (group_error (length slots) (definitions_of (group_of g)) ≡ Some e) →
      (e ≡ Memory) ⊎ IsFirstError (section_of given) e
  refused_first rest g e next (inl m) = inl m.0
  refused_first rest g e next (inr f) = inr (record {
    before = section_of h.before;
    group = group_of g;
    after = section_of rest;
    split = ap section_of (h.parts ∙ ap (λ (gs : List GroupAt). h.before ++ gs) next)
        ∙ map-append group_of h.before (g ∷ rest);
    well_named = h.read.read.well_named;
    is = subst (λ (n : ℕ). group_error n (definitions_of (group_of g)) ≡ Some e) h.read.read.one_each f;
  })

-- an error that comes as another's does keeps what holds of it
pub if_err_from :
    {T E : Type 0} {Q : E → Type 0} (P : E → Type 0) (r : Result T E) → IsErrAnd r Q →
    ((y : E) → Q y → P y) → IfErr r P
if_err_from P (Ok x) h f = absurd h
if_err_from P (Err y) h f = f y h
