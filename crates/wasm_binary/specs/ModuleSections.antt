-- The types of a module: `HasTypes` where they can be read, `HasBadTypes` where not.
-- WebAssembly core specification, "Binary Format", "Type Section" and modules.
use Rattle.std.specs.Prelude.{ℕ, ◌+◌, ◌<◌, ◌≤◌, List, [], ◌++◌, length, take, slice_range, IfSome}
use Rattle.walrus_ty.specs.declared.records.GroupAt.{GroupAt}
use Rattle.wasm_binary.specs.declared.error.DecodeError.{DecodeError}
use Rattle.wasm_binary.specs.declared.error.DecodeError.TheVariants as decode
use Rattle.wasm_binary.specs.Grammar.{IsTypes}
use Rattle.wasm_binary.specs.Faults.{IsNoText, BeginsNoText, GoesOn, IsBegun, IsSeenThere, error_offset, NamesUnsupported}
use Rattle.wasm_binary.specs.Modules.{IsTypeSectionAt, HasNoTypeSection, IsModule, IsNoModule, BeginsNoModule}

-- The bytes are a module, and what its type section contains is a text of these groups. Without
-- such a section there are none.
pub data HasTypes (bytes : List ℕ) : List GroupAt → Type 0 where
  in_section :
      (start stop : ℕ) (groups : List GroupAt) → IsTypeSectionAt bytes start stop
      → IsTypes (slice_range bytes start stop) groups → HasTypes bytes groups
  without_section : HasNoTypeSection bytes → HasTypes bytes []

-- The bytes are no module, or what its type section contains is a text of no groups.
pub data HasBadTypes (bytes : List ℕ) : Type 0 where
  no_module : IsNoModule bytes → HasBadTypes bytes
  bad_section :
      (start stop : ℕ) → IsTypeSectionAt bytes start stop
      → IsNoText (slice_range bytes start stop) → HasBadTypes bytes

-- no module whose types can be read begins with these bytes
abbrev pub BeginsNoTypes : List ℕ → Type 0
BeginsNoTypes prefix = (more : List ℕ) (groups : List GroupAt) → HasTypes (prefix ++ more) groups → ⊥

-- ---- what an error says

-- The bytes are no module, and the error says where: in the bytes or at their end. With the byte
-- there no module goes on, and with the bytes before it one does.
pub record IsNoModuleBy (bytes : List ℕ) (e : DecodeError) : Type 0 where
  pub no_module : IsNoModule bytes
  pub place : IfSome (error_offset e) (λ offset. offset ≤ length bytes)
  pub stuck :
      IfSome (error_offset e)
      (λ offset. offset < length bytes → BeginsNoModule (take (offset + 1) bytes))
  pub begun : IfSome (error_offset e) (λ offset. GoesOn IsModule (take offset bytes))

-- The bytes are a text of no groups, and the error says where, as one of `decode_types` does.
pub record IsNoTextBy (bytes : List ℕ) (e : DecodeError) : Type 0 where
  pub no_text : IsNoText bytes
  pub place : IfSome (error_offset e) (λ offset. offset ≤ length bytes)
  pub stuck :
      IfSome (error_offset e)
      (λ offset. IsSeenThere e → offset < length bytes → BeginsNoText (take (offset + 1) bytes))
  pub begun : IfSome (error_offset e) (λ offset. IsBegun (take offset bytes))
  pub unsupported : NamesUnsupported bytes e

-- an error of bytes before which `start` others stand
abbrev pub shifted : ℕ → DecodeError → DecodeError
shifted start (decode.Malformed offset expected) = decode.Malformed (start + offset) expected
shifted start (decode.NotHeld offset what) = decode.NotHeld (start + offset) what
shifted start decode.Memory = decode.Memory

-- The bytes are no module, and the error says where; or it says where the content of their type
-- section stops being a text of groups, and its place is counted from where the module begins.
pub data HasBadTypesBy (bytes : List ℕ) : DecodeError → Type 0 where
  no_module_by : (e : DecodeError) → IsNoModuleBy bytes e → HasBadTypesBy bytes e
  bad_section_by :
      (start stop : ℕ) (e : DecodeError) → IsTypeSectionAt bytes start stop
      → IsNoTextBy (slice_range bytes start stop) e → HasBadTypesBy bytes (shifted start e)
