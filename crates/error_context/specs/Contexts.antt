-- What is known of the input beside an error, `IsContext`: what it looks like, or the section that
-- a byte is in. `IsErrorContext` says for an error of reading the types which byte that is.
use Rattle.std.specs.Prelude.{◌≡◌, ℕ, ◌+◌, ◌-◌, ◌≤◌, ◌⊎◌, List, take, drop, IfNone, IfSome}
use Rattle.wasm_binary.specs.declared.error.DecodeError.{DecodeError}
use Rattle.wasm_binary.specs.declared.error.DecodeError.TheVariants as decode
use Rattle.wasm_binary.specs.declared.error.Expected.{Expected}
use Rattle.wasm_binary.specs.declared.error.Expected.TheVariants as expected
use Rattle.wasm_binary.specs.declared.error.NotHeld.TheVariants as held
use Rattle.wasm_binary.specs.declared.module.around.SectionPlace.{SectionPlace}
use Rattle.wasm_binary.specs.CustomSections.{BeginsCustom}
use Rattle.wasm_binary.specs.Modules.{Section, IsModule}
use Rattle.wasm_binary.specs.Sections.{IsSectionHead, IsSizeAt, NoneEndsBetween, HasNoHeaderBy, EndsBy}
use Rattle.error_context.specs.declared.lookalike.Lookalike.{Lookalike}
use Rattle.error_context.specs.declared.context.Context.{Context}
use Rattle.error_context.specs.declared.context.Context.TheVariants as context
use Rattle.error_context.specs.declared.context.NamedSection.{NamedSection}
use Rattle.error_context.specs.declared.shown_name.ShownName.{ShownName}
use Rattle.error_context.specs.Lookalikes.{LooksLike}
use Rattle.error_context.specs.Proposals.{IsProposedAt, HasNoneAt}
use Rattle.error_context.specs.ShownNames.{IsShown}

abbrev pub LooksLikeNothing : List ℕ → Type 0
LooksLikeNothing bytes = (kind : Lookalike) → ¬ LooksLike kind bytes

-- ---- the section

-- The byte at the place is in the section: it begins where the bytes before it are a module, at the
-- place or before it, and behind that no section ends up to the place.
pub record IsSectionAround (bytes : List ℕ) (place : ℕ) (s : SectionPlace) : Type 0 where
  pub sections : List Section
  pub before : IsModule (take s.offset bytes) sections
  pub begins : s.offset ≤ place
  pub last : NoneEndsBetween s.offset place bytes
  pub id : IsSectionHead s.id (drop s.offset bytes)
  pub size : IfSome s.size (λ size. IsSizeAt size (drop (s.offset + 1) bytes))
  pub no_size :
      IfNone s.size ((size : ℕ) → IsSizeAt size (drop (s.offset + 1) bytes) → ⊥)

-- no section is around the place: there is no whole header up to it, or the module ends by it
abbrev pub HasNoSection : List ℕ → ℕ → Type 0
HasNoSection bytes place = HasNoHeaderBy place bytes ⊎ EndsBy place bytes

-- the bytes begin with a custom section whose name this shows
abbrev pub HasShownName : ShownName → List ℕ → Type 0
HasShownName shown bytes = (name : List ℕ) × BeginsCustom name bytes × IsShown shown name

-- the section has that name, or none
pub record IsNamed (bytes : List ℕ) (s : NamedSection) : Type 0 where
  pub found : IfSome s.name (λ shown. HasShownName shown (drop s.place.offset bytes))
  pub none :
      IfNone s.name ((name : List ℕ) → BeginsCustom name (drop s.place.offset bytes) → ⊥)

abbrev pub IsWithin : NamedSection → List ℕ → ℕ → Type 0
IsWithin s bytes place =
    LooksLikeNothing bytes × IsSectionAround bytes place s.place × IsNamed bytes s

-- ---- the context

-- of the byte at this place
abbrev pub IsContext : Context → List ℕ → ℕ → Type 0
IsContext (context.Looks kind) bytes place = LooksLike kind bytes
IsContext (context.Within s) bytes place = IsWithin s bytes place
IsContext (context.Proposed s part) bytes place = ⊥
IsContext context.Nothing bytes place = LooksLikeNothing bytes × HasNoSection bytes place

-- A section becomes one with what a code at the place would be, if it would be something. Any other
-- context stays.
abbrev pub IsWithProposal : Context → List ℕ → ℕ → Context → Type 0
IsWithProposal (context.Within s) bytes place (context.Proposed t part) =
    (t ≡ s) × IsProposedAt part s.place.id bytes place
IsWithProposal (context.Within s) bytes place new =
    (new ≡ context.Within s) × HasNoneAt s.place.id bytes place
IsWithProposal old bytes place new = new ≡ old

-- that of the byte, with what a code there would be
abbrev pub IsCodeContext : Context → List ℕ → ℕ → Type 0
IsCodeContext new bytes place =
    (old : Context) × IsContext old bytes place × IsWithProposal old bytes place new

-- ---- beside an error of reading the types

-- A byte of the section in which this was expected at this place. It is the byte before the place
-- where the section can end there, and not begin.
abbrev pub place_within : ℕ → Expected → ℕ
place_within offset expected.SectionId = offset
place_within offset expected.LaterSection = offset
place_within offset other = offset - 1

-- A count of supertypes is no code.
abbrev pub IsErrorContext : Context → List ℕ → DecodeError → Type 0
IsErrorContext c bytes (decode.Malformed offset expected) =
    IsContext c bytes (place_within offset expected)
IsErrorContext c bytes (decode.NotHeld offset held.Supertypes) = IsContext c bytes offset
IsErrorContext c bytes (decode.NotHeld offset what) = IsCodeContext c bytes offset
IsErrorContext c bytes decode.Memory = c ≡ context.Nothing
