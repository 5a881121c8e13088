-- What a failure says of the text, `Explains`, and the exit status that it has.
use Rattle.std.specs.Prelude.{ℕ, List}
use Rattle.walrus_sections.specs.declared.error.ReadError.{ReadError}
use Rattle.walrus_sections.specs.declared.error.ReadError.TheVariants as read
use Rattle.typenorm.specs.declared.failure.Failure.{Failure}
use Rattle.typenorm.specs.declared.failure.Failure.TheVariants as failure
use Rattle.walrus_text.specs.declared.error.TextError.{TextError}
use Rattle.walrus_text.specs.declared.error.TextError.TheVariants as text
use Rattle.walrus_text.specs.Text.{IsSectionText}
use Rattle.typenorm.specs.Runs.{IsIllNamedText}

-- the failure that a text ends with which could not be read
abbrev pub text_failure : TextError → Failure
text_failure (text.BadText bad) = failure.BadText bad.line
text_failure text.Memory = failure.Memory
text_failure text.Stream = failure.Stream

abbrev pub ExplainsReadError : ReadError → List (List (List ℕ)) → Type 0
ExplainsReadError (read.BadIndex entry index end) lines = IsIllNamedText lines
ExplainsReadError read.TooMany lines = IsIllNamedText lines
ExplainsReadError read.Memory lines = Unit {0}

-- what a failure says of the lines of the text
abbrev pub Explains : Failure → List (List (List ℕ)) → Type 0
Explains (failure.BadText line) lines = ¬ IsSectionText lines
Explains (failure.Refused refused) lines = ExplainsReadError refused lines
Explains failure.Memory lines = Unit {0}
Explains failure.Stream lines = Unit {0}

abbrev pub read_error_status : ReadError → ℕ
read_error_status (read.BadIndex entry index end) = 2
read_error_status read.TooMany = 2
read_error_status read.Memory = 3

abbrev pub status_of : Failure → ℕ
status_of (failure.BadText line) = 1
status_of (failure.Refused refused) = read_error_status refused
status_of failure.Memory = 3
status_of failure.Stream = 4
