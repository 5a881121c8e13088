-- Groups that are checked one by one.
use Rattle.std.proofs.Common.{◌≡◌, ℕ, ◌+◌, ◌<◌, List, [], ◌∷◌, ◌++◌, length, take, drop, get_or, ap, sym, subst, ◌∙◌}
use Rattle.std.specs.Prelude.{Some, None, IfErr}
use Rattle.std.specs.Result.{IsErrAnd}
use Rattle.std.specs.declared.result.Result.{Result}
use Rattle.std.specs.declared.result.Result.TheVariants.{Ok, Err}
use Rattle.std.proofs.lemmas.List.{map-append, take_more, drop_more, take-append-drop}
use Rattle.walrus_ty.specs.declared.records.GroupAt.{GroupAt}
use Rattle.walrus_ty.specs.Groups.{Section}
use Rattle.walrus_ty.specs.Records.{group_of, section_of}
use Rattle.walrus_sections.specs.declared.error.ReadError.{ReadError}
use Rattle.walrus_sections.specs.FirstError.{definitions_of, group_error, IsFirstError}
use Rattle.walrus_sections.specs.Section.{index_space, IsWellNamed}
use Rattle.walrus_sections.proofs.FirstError.Laws.{well_named_next}
use Rattle.walrus_sections.proofs.Reading.NextGroup.{follows}

-- the groups before this place can be read, and have so many entries
pub record IsCheckedTo (given : List GroupAt) (at start : ℕ) : Type 0 where
  pub well_named : IsWellNamed (section_of (take at given))
  pub count : start ≡ (index_space (section_of (take at given))).count

pub more_groups :
    (given : List GroupAt) (at : ℕ) (g : GroupAt) → at < length given → g ≡ get_or given at g →
    section_of (take (at + 1) given) ≡ section_of (take at given) ++ group_of g ∷ []
more_groups given at g within is =
    ap section_of (take_more given at g within ∙ ap (λ x. take at given ++ x ∷ []) (sym is))
    ∙ map-append group_of (take at given) (g ∷ [])

pub one_checked :
    (given : List GroupAt) (at start end : ℕ) (g : GroupAt) → at < length given → g ≡ get_or given at g →
    IsCheckedTo given at start → group_error start (definitions_of (group_of g)) ≡ None →
    end ≡ start + length (definitions_of (group_of g)) → IsCheckedTo given (at + 1) end
one_checked given at start end g within is so_far fine ends =
    let s = section_of (take at given) in
    let more = more_groups given at g within is in
    let none = subst (λ (n : ℕ). group_error n (definitions_of (group_of g)) ≡ None) so_far.count fine in
    record {
      well_named = subst IsWellNamed (sym more) (well_named_next s (group_of g) so_far.well_named none);
      count = ends ∙ (ap (λ n. n + length (definitions_of (group_of g))) so_far.count
          ∙ (sym (follows s (group_of g)).count ∙ ap (λ (t : Section). (index_space t).count) (sym more)));
    }

pub split_at :
    (given : List GroupAt) (at : ℕ) (g : GroupAt) → at < length given → g ≡ get_or given at g →
    given ≡ take at given ++ g ∷ drop (at + 1) given
split_at given at g within is =
    sym (take-append-drop at given) ∙ ap (λ gs. take at given ++ gs)
    (drop_more given at g within ∙ ap (λ x. x ∷ drop (at + 1) given) (sym is))

pub first_refused :
    (given : List GroupAt) (at start : ℕ) (g : GroupAt) (e : ReadError) → at < length given →
    g ≡ get_or given at g → IsCheckedTo given at start →
    group_error start (definitions_of (group_of g)) ≡ Some e → IsFirstError (section_of given) e
first_refused given at start g e within is so_far refused = record {
  before = section_of (take at given);
  group = group_of g;
  after = section_of (drop (at + 1) given);
  split = ap section_of (split_at given at g within is)
      ∙ map-append group_of (take at given) (g ∷ drop (at + 1) given);
  well_named = so_far.well_named;
  is = subst (λ (n : ℕ). group_error n (definitions_of (group_of g)) ≡ Some e) so_far.count refused;
}

-- an error that comes as another's does keeps what holds of it
pub if_err_from :
    {T E : Type 0} {Q : E → Type 0} (P : E → Type 0) (r : Result T E) → IsErrAnd r Q →
    ((y : E) → Q y → P y) → IfErr r P
if_err_from P (Ok x) h f = absurd h
if_err_from P (Err y) h f = f y h
