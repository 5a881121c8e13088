-- What a failure says of the text, and its exit status.
use Rattle.std.proofs.Common.{◌≡◌, ◌<◌, ◌≤◌, ℕ, List, Option, None, Some, Result, Ok, Err, ◌⊎◌, inl, inr, sym, subst, arith}
use Rattle.std.specs.Prelude.{IfErr, IfSome}
use Rattle.std.specs.Result.{IsErrAnd}
use Rattle.walrus_ty.specs.declared.records.GroupAt.{GroupAt}
use Rattle.walrus_ty.specs.Groups.{Section}
use Rattle.walrus_ty.specs.Records.{section_of}
use Rattle.walrus_sections.specs.FirstError.{IsFirstError}
use Rattle.walrus_sections.specs.Section.{IsWellNamed}
use Rattle.walrus_sections.specs.declared.error.ReadError.{ReadError}
use Rattle.walrus_sections.specs.declared.error.ReadError.TheVariants as read
use Rattle.walrus_text.specs.declared.error.TextError.{TextError}
use Rattle.walrus_text.specs.declared.error.TextError.TheVariants as text
use Rattle.walrus_text.specs.Words.{lines_of}
use Rattle.walrus_text.specs.Text.{HasSectionIndices, IsSectionText, section_lines}
use Rattle.walrus_text.specs.Errors.{bad_line}
use Rattle.typenorm.specs.declared.failure.Failure.{Failure}
use Rattle.typenorm.specs.declared.failure.Failure.TheVariants as failure
use Rattle.typenorm.specs.Steps.Failures.{Explains, ExplainsReadError, status_of, text_failure}

pub status_range : (f : Failure) → (0 < status_of f) × (status_of f ≤ 4)
status_range (failure.BadText line) = (omega arith, omega arith)
status_range (failure.Refused (read.BadIndex entry index end)) = (omega arith, omega arith)
status_range (failure.Refused read.TooMany) = (omega arith, omega arith)
status_range (failure.Refused read.Memory) = (omega arith, omega arith)
status_range failure.Memory = (omega arith, omega arith)
status_range failure.Stream = (omega arith, omega arith)

pub if_err_and :
    {X E : Type 0} (r : Result X E) (P Q : E → Type 0) → ((e : E) → P e → Q e) → IsErrAnd r P →
    IfErr r Q
if_err_and (Ok x) P Q f h = tt
if_err_and (Err e) P Q f h = f e h

-- what the refusal of a text says
explains_text_error :
    (lines : List (List (List ℕ))) (e : TextError) →
    IfSome (bad_line e) (λ line. ¬ IsSectionText lines) → Explains (text_failure e) lines
explains_text_error lines (text.BadText bad) h = h
explains_text_error lines text.Memory h = tt
explains_text_error lines text.Stream h = tt

pub explains_text :
    (known : Option (List ℕ)) (e : TextError) →
    IfSome known (λ text. IfSome (bad_line e) (λ line. ¬ IsSectionText (lines_of text))) →
    (s : Failure) → s ≡ text_failure e → IfSome known (λ text. Explains s (lines_of text))
explains_text None e why s is = tt
explains_text (Some text) e why s is = subst (λ x. Explains x (lines_of text)) (sym is)
    (explains_text_error (lines_of text) e why)

-- no section is well-named if it has a first error
abbrev NotBoth : Type 0
NotBoth = (s : Section) (e : ReadError) → IsFirstError s e → ¬ IsWellNamed s

-- what the refusal of a section says
explains_read_error :
    NotBoth → (groups : List GroupAt) (lines : List (List (List ℕ))) → HasSectionIndices groups →
    lines ≡ section_lines groups → (r : ReadError) →
    (r ≡ read.Memory) ⊎ IsFirstError (section_of groups) r → ExplainsReadError r lines
explains_read_error law groups lines f e read.Memory h = tt
explains_read_error law groups lines f e read.TooMany (inl k) = absurd cc
explains_read_error law groups lines f e read.TooMany (inr fault) =
    (groups, f, e, law (section_of groups) read.TooMany fault)
explains_read_error law groups lines f e (read.BadIndex i k n) (inl m) = absurd cc
explains_read_error law groups lines f e (read.BadIndex i k n) (inr fault) =
    (groups, f, e, law (section_of groups) (read.BadIndex i k n) fault)

pub explains_refused :
    NotBoth → (known : Option (List ℕ)) (groups : List GroupAt) (r : ReadError) → HasSectionIndices groups →
    IfSome known (λ text. lines_of text ≡ section_lines groups) →
    (r ≡ read.Memory) ⊎ IsFirstError (section_of groups) r → (s : Failure) → s ≡ failure.Refused r →
    IfSome known (λ text. Explains s (lines_of text))
explains_refused law None groups r f e why s is = tt
explains_refused law (Some text) groups r f e why s is =
    subst (λ x. Explains x (lines_of text)) (sym is)
    (explains_read_error law groups (lines_of text) f e r why)
