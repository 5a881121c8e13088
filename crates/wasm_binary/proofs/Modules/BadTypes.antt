-- What an error says of a module whose types can't be read.
use Rattle.std.proofs.Common.{◌≡◌, ℕ, ◌+◌, ◌^◌, ◌<◌, ◌≤◌, inl, inr, List, [], ◌∷◌, ◌++◌, length, take, drop, sym, ap, subst, ◌∙◌, arith, append_assoc, append-nil}
use Rattle.std.specs.Prelude.{IfSome, slice_range}
use Rattle.std.proofs.Math.Seq.{take-append-add, drop-length}
use Rattle.std.proofs.lemmas.Bool.{cases_lt}
use Rattle.std.proofs.lemmas.List.{take-append-le, length-take-le}
use Rattle.walrus_ty.specs.declared.records.GroupAt.{GroupAt}
use Rattle.wasm_binary.specs.declared.error.DecodeError.{DecodeError}
use Rattle.wasm_binary.specs.declared.error.DecodeError.TheVariants as decode
use Rattle.wasm_binary.specs.declared.error.NotHeld.{NotHeld}
use Rattle.wasm_binary.specs.declared.error.NotHeld.TheVariants as held
use Rattle.wasm_binary.specs.Grammar.{IsTypes}
use Rattle.wasm_binary.specs.Faults.{IsNoText, BeginsNoText, GoesOn, IsBegun, IsSeenThere, error_offset, NamesUnsupported}
use Rattle.wasm_binary.specs.Modules.{Section, section, IsModule, IsNoModule, BeginsNoModule, IsTypeSectionAt}
use Rattle.wasm_binary.specs.ModuleSections.{HasTypes, in_section, without_section, BeginsNoTypes, HasBadTypes, no_module, bad_section, shifted, HasBadTypesBy, no_module_by, bad_section_by}
use Rattle.wasm_binary.proofs.Modules.Uniqueness.{located_types}
use Rattle.wasm_binary.proofs.Modules.TypeContents.{content_is, content_within}
use Rattle.wasm_binary.proofs.Modules.FirstSections.{contents, prefix_of}

-- ---- bytes that are no module

module_of : (bytes : List ℕ) (groups : List GroupAt) → HasTypes bytes groups → (sections : List Section)
    × IsModule bytes sections
module_of bytes _ (in_section start stop groups t text) =
    let m = located_types bytes start stop t in (m.0 ++ section 1 t.content ∷ m.1, m.2)
module_of bytes _ (without_section n) = (n.sections, n.is_module)

no_types : (prefix : List ℕ) → BeginsNoModule prefix → BeginsNoTypes prefix
no_types prefix bad more groups h = let m = module_of (prefix ++ more) groups h in bad more m.0 m.1

-- ---- the content of the type section is no text

-- with the byte at this place of the content
stuck_in_content : (bytes : List ℕ) (start stop offset : ℕ) → IsTypeSectionAt bytes start stop →
    IsNoText (slice_range bytes start stop)
    → offset ≤ length (slice_range bytes start stop)
    → (offset < length (slice_range bytes start stop) →
    BeginsNoText (take (offset + 1) (slice_range bytes start stop)))
    → BeginsNoTypes (take (start + offset + 1) bytes)
stuck_in_content bytes start stop offset t bad place stuck more groups h =
    let content : List ℕ = t.content in
    let is : slice_range bytes start stop ≡ content = content_is bytes start stop t in
    let prefix : List ℕ = t.prefix ++ 1 ∷ t.size in
    let taken : List ℕ = take (offset + 1) (content ++ t.back) in
    let many : start + offset + 1 ≡ length prefix + (offset + 1) = omega (arith, t.starts) in
    let part : take (start + offset + 1) bytes ≡ prefix ++ taken =
    ap (λ k. take k bytes) many ∙ ap (λ (u : List ℕ). take (length prefix + (offset + 1)) u) t.parts
    ∙ take-append-add prefix (content ++ t.back) (offset + 1) in
    let whole : take (start + offset + 1) bytes ++ more ≡ prefix ++ (taken ++ more) =
    ap (λ (u : List ℕ). u ++ more) part ∙ append_assoc prefix taken more in
    let k = contents t.prefix t.back t.size (taken ++ more) (length content) groups
    (take (start + offset + 1) bytes ++ more) t.around_it t.sized whole h in
    elim (cases_lt offset (length content)) [
      | inl lt ↦
          let u : List ℕ = take (offset + 1) content in
          let first : taken ≡ u = take-append-le (offset + 1) content t.back (omega (arith, lt)) in
          let long : length u ≡ offset + 1 = length-take-le (offset + 1) content (omega (arith, lt)) in
          let both : u ++ more ≡ k.content ++ k.rest = sym (ap (λ (w : List ℕ). w ++ more) first) ∙ k.parts in
          let begins : k.content ≡ u ++ drop (length u) k.content =
          prefix_of u more k.content k.rest both (omega (arith, lt, long, k.long)) in
          let inner : offset < length (slice_range bytes start stop) =
          subst (λ (w : List ℕ). offset < length w) (sym is) lt in
          let none : BeginsNoText u = subst (λ (w : List ℕ). BeginsNoText (take (offset + 1) w)) is
          (stuck inner) in
          none (drop (length u) k.content) groups (subst (λ (w : List ℕ). IsTypes w groups) begins k.is_text)
      | inr le ↦
          let last : offset ≡ length content = let p : offset ≤ length content =
          subst (λ (w : List ℕ). offset ≤ length w) is place in omega (arith, le, p) in
          let first : taken ≡ content ++ take 1 t.back = ap (λ n. take (n + 1) (content ++ t.back)) last
          ∙ take-append-add content t.back 1 in
          let both : content ++ (take 1 t.back ++ more) ≡ k.content ++ k.rest =
          sym (append_assoc content (take 1 t.back) more) ∙ sym (ap (λ (w : List ℕ). w ++ more) first)
          ∙ k.parts in
          let begins : k.content ≡ content ++ drop (length content) k.content =
          prefix_of content (take 1 t.back ++ more) k.content k.rest both (omega (arith, k.long)) in
          let nothing : drop (length content) k.content ≡ [] = ap (λ n. drop n k.content) (sym k.long)
          ∙ drop-length k.content in
          let same : k.content ≡ content = begins ∙ ap (λ (w : List ℕ). content ++ w) nothing
          ∙ append-nil content in
          bad groups (subst (λ (w : List ℕ). IsTypes w groups) (same ∙ sym is) k.is_text)
    ]

-- ---- what follows

same_seen : (a b : ℕ) (what : NotHeld) → IsSeenThere (decode.NotHeld a what) →
    IsSeenThere (decode.NotHeld b what)
same_seen a b held.Supertypes h = h
same_seen a b held.Shared h = tt
same_seen a b held.Continuation h = tt
same_seen a b held.Descriptor h = tt

pub bad_refused : (bytes : List ℕ) (e : DecodeError) → HasBadTypesBy bytes e → HasBadTypes bytes
bad_refused bytes _ (no_module_by e n) = no_module n.no_module
bad_refused bytes _ (bad_section_by start stop e t n) = bad_section start stop t n.no_text

within : (bytes : List ℕ) (start stop offset : ℕ) → IsTypeSectionAt bytes start stop →
    offset ≤ length (slice_range bytes start stop) → start + offset ≤ length bytes
within bytes start stop offset t le =
    let p : offset ≤ length t.content = subst (λ (w : List ℕ). offset ≤ length w)
    (content_is bytes start stop t) le in
    omega (arith, p, content_within bytes start stop t)

pub bad_place : (bytes : List ℕ) (e : DecodeError) → HasBadTypesBy bytes e →
    IfSome (error_offset e) (λ offset. offset ≤ length bytes)
bad_place bytes _ (no_module_by e n) = n.place
bad_place bytes _ (bad_section_by start stop (decode.Malformed offset x) t n) = within
    bytes start stop offset t n.place
bad_place bytes _ (bad_section_by start stop (decode.NotHeld offset x) t n) = within
    bytes start stop offset t n.place
bad_place bytes _ (bad_section_by start stop decode.Memory t n) = tt

abbrev IsStuck : List ℕ → DecodeError → Type 0
IsStuck bytes e = IfSome (error_offset e) (λ offset. IsSeenThere e → offset < length bytes →
    BeginsNoTypes (take (offset + 1) bytes))

pub stuck_framing : (bytes : List ℕ) (e : DecodeError)
    → IfSome (error_offset e) (λ offset. offset < length bytes → BeginsNoModule (take (offset + 1) bytes)) →
    IsStuck bytes e
stuck_framing bytes (decode.Malformed offset x) h = λ seen lt. no_types (take (offset + 1) bytes) (h lt)
stuck_framing bytes (decode.NotHeld offset x) h = λ seen lt. no_types (take (offset + 1) bytes) (h lt)
stuck_framing bytes decode.Memory h = tt

pub bad_stuck : (bytes : List ℕ) (e : DecodeError) → HasBadTypesBy bytes e
    → IfSome (error_offset e) (λ offset. IsSeenThere e → offset < length bytes →
    BeginsNoTypes (take (offset + 1) bytes))
bad_stuck bytes _ (no_module_by e n) = stuck_framing bytes e n.stuck
bad_stuck bytes _ (bad_section_by start stop (decode.Malformed offset x) t n) =
    λ seen lt. stuck_in_content bytes start stop offset t n.no_text n.place (λ inner. n.stuck tt inner)
bad_stuck bytes _ (bad_section_by start stop (decode.NotHeld offset x) t n) =
    λ seen lt. stuck_in_content bytes start stop offset t n.no_text n.place (λ inner.
    n.stuck (same_seen (start + offset) offset x seen) inner)
bad_stuck bytes _ (bad_section_by start stop decode.Memory t n) = tt

-- ---- of an error with a place

at_place : (e : DecodeError) (P : Type 0) → P → IfSome (error_offset e) (λ offset. P)
at_place (decode.Malformed offset x) P h = h
at_place (decode.NotHeld offset x) P h = h
at_place decode.Memory P h = tt

abbrev IsBadBy : List ℕ → DecodeError → Type 0
IsBadBy bytes e = IfSome (error_offset e) (λ offset. HasBadTypesBy bytes e)

-- of the framing
pub framing_bad : (bytes : List ℕ) (e : DecodeError) → IsNoModule bytes
    → IfSome (error_offset e) (λ offset. offset ≤ length bytes)
    → IfSome (error_offset e) (λ offset. offset < length bytes → BeginsNoModule (take (offset + 1) bytes))
    → IfSome (error_offset e) (λ offset. GoesOn IsModule (take offset bytes)) → IsBadBy bytes e
framing_bad bytes e none place stuck begun =
    at_place e (HasBadTypesBy bytes e)
    (no_module_by e (record { no_module = none; place = place; stuck = stuck; begun = begun }))

-- of the content
pub content_bad : (bytes : List ℕ) (start stop : ℕ) (e : DecodeError) → IsTypeSectionAt bytes start stop
    → IfSome (error_offset e) (λ offset. IsNoText (slice_range bytes start stop))
    → IfSome (error_offset e) (λ offset. offset ≤ length (slice_range bytes start stop))
    → IfSome (error_offset e)
    (λ offset. IsSeenThere e → offset < length (slice_range bytes start stop) →
    BeginsNoText (take (offset + 1) (slice_range bytes start stop)))
    → IfSome (error_offset e) (λ offset. IsBegun (take offset (slice_range bytes start stop)))
    → NamesUnsupported (slice_range bytes start stop) e → IsBadBy bytes (shifted start e)
content_bad bytes start stop (decode.Malformed offset x) t none place stuck begun unsupported =
    bad_section_by start stop (decode.Malformed offset x) t
    (record { no_text = none; place = place; stuck = stuck; begun = begun; unsupported = unsupported })
content_bad bytes start stop (decode.NotHeld offset x) t none place stuck begun unsupported =
    bad_section_by start stop (decode.NotHeld offset x) t
    (record { no_text = none; place = place; stuck = stuck; begun = begun; unsupported = unsupported })
content_bad bytes start stop decode.Memory t none place stuck begun unsupported = tt

pub refused_if : (bytes : List ℕ) (e : DecodeError) → IsBadBy bytes e →
    IfSome (error_offset e) (λ offset. HasBadTypes bytes)
refused_if bytes (decode.Malformed offset x) h = bad_refused bytes (decode.Malformed offset x) h
refused_if bytes (decode.NotHeld offset x) h = bad_refused bytes (decode.NotHeld offset x) h
refused_if bytes decode.Memory h = tt

pub place_if : (bytes : List ℕ) (e : DecodeError) → IsBadBy bytes e →
    IfSome (error_offset e) (λ offset. offset ≤ length bytes)
place_if bytes (decode.Malformed offset x) h = bad_place bytes (decode.Malformed offset x) h
place_if bytes (decode.NotHeld offset x) h = bad_place bytes (decode.NotHeld offset x) h
place_if bytes decode.Memory h = tt

pub stuck_if : (bytes : List ℕ) (e : DecodeError) → IsBadBy bytes e → IsStuck bytes e
stuck_if bytes (decode.Malformed offset x) h = bad_stuck bytes (decode.Malformed offset x) h
stuck_if bytes (decode.NotHeld offset x) h = bad_stuck bytes (decode.NotHeld offset x) h
stuck_if bytes decode.Memory h = tt

fits : (bytes : List ℕ) (start stop offset : ℕ) → IsTypeSectionAt bytes start stop → stop < 2 ^ 64
    → offset ≤ length (slice_range bytes start stop) → start + offset < 2 ^ 64
fits bytes start stop offset t lt le =
    let p : offset ≤ length t.content = subst (λ (w : List ℕ). offset ≤ length w)
    (content_is bytes start stop t) le in
    omega (arith, p, lt, t.stops)

-- the place of an error in the content fits where the end of the content does
pub place_fits : (bytes : List ℕ) (start stop : ℕ) (e : DecodeError) → IsTypeSectionAt bytes start stop →
    stop < 2 ^ 64
    → IfSome (error_offset e) (λ offset. offset ≤ length (slice_range bytes start stop))
    → IfSome (error_offset e) (λ offset. start + offset < 2 ^ 64)
place_fits bytes start stop (decode.Malformed offset x) t lt le = fits bytes start stop offset t lt le
place_fits bytes start stop (decode.NotHeld offset x) t lt le = fits bytes start stop offset t lt le
place_fits bytes start stop decode.Memory t lt le = tt
