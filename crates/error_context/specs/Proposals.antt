-- Which codes proposals have for instructions, types, imports and alignments, by the section that they are in.
-- Release 3.0 of the WebAssembly core specification has none of them.
-- Proposals to WebAssembly: stack switching, custom descriptors, shared-everything threads, compact
-- import section, memory control, half precision, reference-typed strings, relaxed atomics and
-- multibyte array access.
use Rattle.std.specs.Prelude.{◌≡◌, ℕ, zero, suc, ◌-◌, ◌≤◌, ◌⊎◌, List, length, take, drop, Option, Some, None, slice_get}
use Rattle.std.specs.List.{All}
use Rattle.error_context.specs.declared.proposal.Code.{Code}
use Rattle.error_context.specs.declared.proposal.Code.TheVariants as code
use Rattle.error_context.specs.declared.proposal.Part.{Part}
use Rattle.error_context.specs.declared.proposal.Part.TheVariants as part
use Rattle.error_context.specs.declared.proposal.Proposal.{Proposal}
use Rattle.error_context.specs.declared.proposal.Proposal.TheVariants as proposal
use Rattle.error_context.specs.declared.proposal.ProposedPart.{ProposedPart}

-- ---- sections, by their ids

-- Tables, globals, elements and code. The data section is not among them: a byte of its strings can
-- be any code.
abbrev pub HasInstructions : ℕ → Type 0
HasInstructions id = (id ≡ 4) ⊎ (id ≡ 6) ⊎ (id ≡ 9) ⊎ (id ≡ 10)

-- Types, and all sections with instructions. The import section is not among them: 0x65, 0x67, 0x68
-- and 0x75 are letters of names.
abbrev pub HasTypes : ℕ → Type 0
HasTypes id = (id ≡ 1) ⊎ HasInstructions id

-- Imports and globals, which say whether a global can be changed, and in a proposal whether it is
-- shared.
abbrev pub HasGlobalTypes : ℕ → Type 0
HasGlobalTypes id = (id ≡ 2) ⊎ (id ≡ 6)

-- ---- the table

-- one of these bytes
abbrev pub IsByteIn : ℕ → ℕ → Code → Type 0
IsByteIn first last (code.Byte byte) = (first ≤ byte) × (byte ≤ last)
IsByteIn first last (code.Prefixed prefix number) = ⊥

abbrev pub IsByte : ℕ → Code → Type 0
IsByte wanted (code.Byte byte) = byte ≡ wanted
IsByte wanted (code.Prefixed prefix number) = ⊥

-- a number behind a prefix, whose first byte is one of these
abbrev pub IsNumberIn : ℕ → ℕ → ℕ → Code → Type 0
IsNumberIn behind first last (code.Byte byte) = ⊥
IsNumberIn behind first last (code.Prefixed prefix number) =
    (prefix ≡ behind) × (first ≤ number) × (number ≤ last)

-- the part begins with this code in a section of this id
abbrev pub UsesProposal : Part → Proposal → ℕ → Code → Type 0
UsesProposal part.Instruction proposal.StackSwitching id code =
    HasInstructions id × IsByteIn 0xE0 0xE6 code
UsesProposal part.Instruction proposal.CustomDescriptors id code =
    HasInstructions id × IsNumberIn 0xFB 0x20 0x26 code
UsesProposal part.Instruction proposal.SharedEverythingThreads id code =
    HasInstructions id × (IsNumberIn 0xFE 0x04 0x04 code ⊎ IsNumberIn 0xFE 0x4F 0x72 code)
UsesProposal part.Instruction proposal.CompactImports id code = ⊥
UsesProposal part.Instruction proposal.MemoryControl id code =
    HasInstructions id × IsNumberIn 0xFC 0x12 0x12 code
UsesProposal part.Instruction proposal.HalfPrecision id code =
    HasInstructions id × IsNumberIn 0xFC 0x30 0x31 code
UsesProposal part.Instruction proposal.ReferenceTypedStrings id code =
    HasInstructions id × IsNumberIn 0xFB 0x80 0xB7 code
UsesProposal part.Instruction proposal.MemoryAccessBits id code = ⊥
UsesProposal part.TypeForm proposal.StackSwitching id code =
    (id ≡ 1) × IsByte 0x5D code ⊎ HasTypes id × (IsByte 0x68 code ⊎ IsByte 0x75 code)
UsesProposal part.TypeForm proposal.CustomDescriptors id code = (id ≡ 1) × IsByteIn 0x4C 0x4D code
UsesProposal part.TypeForm proposal.SharedEverythingThreads id code =
    HasTypes id × IsByte 0x65 code ⊎ HasGlobalTypes id × IsByteIn 0x02 0x03 code
UsesProposal part.TypeForm proposal.CompactImports id code = ⊥
UsesProposal part.TypeForm proposal.MemoryControl id code = ⊥
UsesProposal part.TypeForm proposal.HalfPrecision id code = ⊥
UsesProposal part.TypeForm proposal.ReferenceTypedStrings id code = HasTypes id × IsByte 0x67 code
UsesProposal part.TypeForm proposal.MemoryAccessBits id code = ⊥
UsesProposal part.Import proposal.StackSwitching id code = ⊥
UsesProposal part.Import proposal.CustomDescriptors id code = (id ≡ 2) × IsByte 0x20 code
UsesProposal part.Import proposal.SharedEverythingThreads id code = ⊥
UsesProposal part.Import proposal.CompactImports id code = (id ≡ 2) × IsByteIn 0x7E 0x7F code
UsesProposal part.Import proposal.MemoryControl id code = ⊥
UsesProposal part.Import proposal.HalfPrecision id code = ⊥
UsesProposal part.Import proposal.ReferenceTypedStrings id code = ⊥
UsesProposal part.Import proposal.MemoryAccessBits id code = ⊥
UsesProposal part.Alignment proposal.MemoryAccessBits id code =
    (id ≡ 10) × (IsByteIn 0x10 0x14 code ⊎ IsByteIn 0x20 0x24 code ⊎ IsByteIn 0x30 0x34 code)
UsesProposal part.Alignment _ id code = ⊥

-- no part begins with it
abbrev pub IsUnused : ℕ → Code → Type 0
IsUnused id code = (part : Part) (proposal : Proposal) → UsesProposal part proposal id code → ⊥

-- ---- in the bytes of a section

-- the byte before a place
abbrev pub get_before : List ℕ → ℕ → Option ℕ
get_before bytes zero = None
get_before bytes (suc before) = slice_get bytes before

-- the first byte of an instruction whose number follows
abbrev pub IsPrefix : ℕ → Type 0
IsPrefix byte = (0xFB ≤ byte) × (byte ≤ 0xFE)

-- the code is the byte at the place, or that byte and the prefix before it
abbrev pub IsReadAt : Code → List ℕ → ℕ → Type 0
IsReadAt (code.Byte byte) bytes place =
    (slice_get bytes place ≡ Some byte) ×
    ((before : ℕ) → get_before bytes place ≡ Some before → ¬ IsPrefix before)
IsReadAt (code.Prefixed prefix number) bytes place =
    (slice_get bytes place ≡ Some number) × (get_before bytes place ≡ Some prefix) × IsPrefix prefix

-- an integer goes on behind this byte of it
abbrev pub HasContinuationBit : ℕ → Type 0
HasContinuationBit byte = 0x80 ≤ byte

-- the byte behind these can be the fifth one of an integer, or a later one
abbrev pub MayBeInsideInteger : List ℕ → Type 0
MayBeInsideInteger front = (4 ≤ length front) × All HasContinuationBit (drop (length front - 4) front)

-- the code is there, and is no byte of an integer that goes on for too long
abbrev pub IsCodeAt : Code → List ℕ → ℕ → Type 0
IsCodeAt code bytes place = IsReadAt code bytes place × (MayBeInsideInteger (take place bytes) → ⊥)

-- the part would be there, in a section of this id
abbrev pub IsProposedAt : ProposedPart → ℕ → List ℕ → ℕ → Type 0
IsProposedAt p id bytes place =
    IsCodeAt p.code bytes place × UsesProposal p.part p.proposal id p.code

-- no proposal has a code that is there
abbrev pub HasNoneAt : ℕ → List ℕ → ℕ → Type 0
HasNoneAt id bytes place = (code : Code) → IsCodeAt code bytes place → IsUnused id code
