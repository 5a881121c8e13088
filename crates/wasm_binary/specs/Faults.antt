-- Where bytes stop being a text of a type section, as an error says it.
-- None of it is of the WebAssembly specification.
use Rattle.std.specs.Prelude.{◌≡◌, ℕ, ◌+◌, ◌<◌, ◌≤◌, Bool, List, [], ◌∷◌, ◌++◌, length, take, drop, Option, Some, None}
use Rattle.walrus_ty.specs.declared.records.GroupAt.{GroupAt}
use Rattle.wasm_binary.specs.declared.error.DecodeError.{DecodeError}
use Rattle.wasm_binary.specs.declared.error.DecodeError.TheVariants as decode
use Rattle.wasm_binary.specs.declared.error.NotHeld.{NotHeld}
use Rattle.wasm_binary.specs.declared.error.NotHeld.TheVariants as held
use Rattle.wasm_binary.specs.Leb128.{IsU32}
use Rattle.wasm_binary.specs.Grammar.{IsHeapType, IsRefType, IsCompType, sub_code, IsSubType, IsTypes}
use Rattle.wasm_binary.specs.Places.{IsBeforeSubType, IsBeforeCompType, IsBeforeValType, IsBeforeHeapType}

-- no bytes are a text of it
abbrev pub HasNoText : {A : Type 0} → (List ℕ → A → Type 0) → A → Type 0
HasNoText IsText value = (bytes : List ℕ) → IsText bytes value → ⊥

-- the bytes are a text of no groups
abbrev pub IsNoText : List ℕ → Type 0
IsNoText bytes = (groups : List GroupAt) → IsTypes bytes groups → ⊥

-- no text begins with these bytes
abbrev pub BeginsNoText : List ℕ → Type 0
BeginsNoText prefix = (more : List ℕ) → IsNoText (prefix ++ more)

-- a text begins with these bytes
pub record GoesOn {A : Type 0} (IsText : List ℕ → A → Type 0) (prefix : List ℕ) : Type 0 where
  pub more : List ℕ
  pub value : A
  pub is_text : IsText (prefix ++ more) value

-- The bytes are no text, and the byte at this place is the first bad one: a text begins with the
-- bytes before it, and none with it too. At the end of the bytes, a text begins with all of them.
pub record IsFirstBad (bytes : List ℕ) (offset : ℕ) : Type 0 where
  pub refused : IsNoText bytes
  pub place : offset ≤ length bytes
  pub begun : GoesOn IsTypes (take offset bytes)
  pub stuck : offset < length bytes → BeginsNoText (take (offset + 1) bytes)

-- each text of this part may stand behind the bytes: a section's text goes on with it
abbrev pub MayFollow : {A : Type 0} → (List ℕ → A → Type 0) → List ℕ → Type 0
MayFollow IsPart prefix =
    (text : List ℕ) (part : _) → IsPart text part → GoesOn IsTypes (prefix ++ text)

-- A text begins with the bytes; or they begin a definition of several supertypes, which no record
-- holds: they end in its first byte and the first bytes of its count, which is two or more however
-- it goes on, and each definition may stand where that one begins.
pub data IsBegun : List ℕ → Type 0 where
  begins_text : (prefix : List ℕ) → GoesOn IsTypes prefix → IsBegun prefix
  begins_several_supertypes :
      (prefix count : List ℕ) (is_final : Bool) (least : ℕ)
      → MayFollow IsSubType prefix
      → IsU32 (count ++ 0 ∷ []) least → 2 ≤ least
      → IsBegun (prefix ++ sub_code is_final ∷ count)

-- ---- what no record holds

-- the first byte of a composite type that no record holds
pub data IsUnsupportedComp : NotHeld → ℕ → Type 0 where
  shared_comp : IsUnsupportedComp held.Shared 0x65
  continuation_comp : IsUnsupportedComp held.Continuation 0x5D
  describing_comp : IsUnsupportedComp held.Descriptor 0x4C
  described_comp : IsUnsupportedComp held.Descriptor 0x4D

-- The first byte of a heap type that no record holds. An abbreviated reference to it has the same.
pub data IsUnsupportedHeap : NotHeld → ℕ → Type 0 where
  shared_heap : IsUnsupportedHeap held.Shared 0x65
  continuation_heap : IsUnsupportedHeap held.Continuation 0x68
  no_continuation_heap : IsUnsupportedHeap held.Continuation 0x75

-- What no record holds, the bytes before the place that an error names, and the bytes from there
-- on. Any type that a record holds may be there too. The place of several supertypes is that of
-- their count, behind the first byte of their definition, and no text goes on with that count.
pub data IsUnsupported : NotHeld → List ℕ → List ℕ → Type 0 where
  several_supertypes :
      (prefix count others : List ℕ) (is_final : Bool) (n : ℕ)
      → MayFollow IsSubType prefix → IsU32 count n → 2 ≤ n
      → BeginsNoText ((prefix ++ sub_code is_final ∷ []) ++ count)
      → IsUnsupported held.Supertypes (prefix ++ sub_code is_final ∷ []) (count ++ others)
  comp_type :
      (prefix others : List ℕ) (what : NotHeld) (code : ℕ)
      → MayFollow IsCompType prefix → IsUnsupportedComp what code → IsUnsupported what prefix (code ∷ others)
  heap_type :
      (prefix others : List ℕ) (what : NotHeld) (code : ℕ)
      → MayFollow IsHeapType prefix → IsUnsupportedHeap what code → IsUnsupported what prefix (code ∷ others)
  ref_type :
      (prefix others : List ℕ) (what : NotHeld) (code : ℕ)
      → MayFollow IsRefType prefix → IsUnsupportedHeap what code → IsUnsupported what prefix (code ∷ others)

-- What no record holds begins behind the first bytes, by the grammar, and the second bytes begin
-- with it. The place of several supertypes is that of their count.
pub data BeginsUnsupported : NotHeld → List ℕ → List ℕ → Type 0 where
  supertypes_begin :
      (prefix count others : List ℕ) (is_final : Bool) (n : ℕ)
      → IsBeforeSubType prefix → IsU32 count n → 2 ≤ n
      → BeginsUnsupported held.Supertypes (prefix ++ sub_code is_final ∷ []) (count ++ others)
  comp_begins :
      (prefix others : List ℕ) (what : NotHeld) (code : ℕ)
      → IsBeforeCompType prefix → IsUnsupportedComp what code → BeginsUnsupported what prefix (code ∷ others)
  heap_begins :
      (prefix others : List ℕ) (what : NotHeld) (code : ℕ)
      → IsBeforeHeapType prefix → IsUnsupportedHeap what code → BeginsUnsupported what prefix (code ∷ others)
  ref_begins :
      (prefix others : List ℕ) (what : NotHeld) (code : ℕ)
      → IsBeforeValType prefix → IsUnsupportedHeap what code → BeginsUnsupported what prefix (code ∷ others)

-- nothing of the kind begins in the bytes
abbrev pub HasNothingUnsupported : List ℕ → Type 0
HasNothingUnsupported bytes =
    (what : NotHeld) (prefix others : List ℕ) → bytes ≡ prefix ++ others
    → BeginsUnsupported what prefix others → ⊥

-- ---- errors

-- the place that an error names
abbrev pub error_offset : DecodeError → Option ℕ
error_offset (decode.Malformed offset expected) = Some offset
error_offset (decode.NotHeld offset what) = Some offset
error_offset decode.Memory = None

-- The byte at the place of the error can't stand there. Nothing is said of several supertypes:
-- their place is where their count begins, and the first byte of a count may be right.
abbrev pub IsSeenThere : DecodeError → Type 0
IsSeenThere (decode.Malformed offset expected) = Unit {0}
IsSeenThere (decode.NotHeld offset held.Supertypes) = ⊥
IsSeenThere (decode.NotHeld offset held.Shared) = Unit {0}
IsSeenThere (decode.NotHeld offset held.Continuation) = Unit {0}
IsSeenThere (decode.NotHeld offset held.Descriptor) = Unit {0}
IsSeenThere decode.Memory = Unit {0}

-- An error names what no record holds where that begins, and no other error comes where it does.
abbrev pub NamesUnsupported : List ℕ → DecodeError → Type 0
NamesUnsupported bytes (decode.NotHeld offset what) =
    IsUnsupported what (take offset bytes) (drop offset bytes)
NamesUnsupported bytes (decode.Malformed offset expected) = HasNothingUnsupported bytes
NamesUnsupported bytes decode.Memory = Unit {0}
