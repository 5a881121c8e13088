-- Instructions of short forms are passed over, and the table has the forms of the rows.
use Rattle.std.proofs.Common.{◌≡◌, ℕ, zero, suc, ◌+◌, ◌^◌, ◌<◌, ◌≤◌, Bool, nat_lt, cond, List, [], ◌∷◌, ◌++◌, length, length-drop, map, take, take_all, drop, ◌-◌, Option, Some, None, Ok, true, refl, sym, ap, subst, ◌∙◌, arith, ltb-true, ltb-false, slice_index_or}
use Rattle.wasm_binary.specs.Leb128.{last}
use Rattle.wasm_binary.proofs.Integers.{u32_complete}
use Rattle.wasm_module.specs.declared.kind.Space.{Space}
use Rattle.wasm_module.specs.declared.kind.Space.TheVariants as space
use Rattle.wasm_module.specs.declared.kind.Kind.{Kind}
use Rattle.wasm_module.specs.declared.kind.Kind.TheVariants as kind
use Rattle.wasm_module.specs.declared.one_byte_immediates.OneByteForm.{OneByteForm}
use Rattle.wasm_module.specs.declared.one_byte_immediates.OneByteForm.TheVariants as form
use Rattle.wasm_module.specs.Opcodes.{Row, kinds_in, opcodes}
use Rattle.wasm_module.specs.Immediates.{IsSigned, positive, negative, Token, unsigned, plain, type_name, Begins, index, i32, i64}
use Rattle.wasm_module.specs.Steps.Heads.{name_in, beginning}
use Rattle.wasm_module.specs.Steps.Scans.{PassesTokens, PassesInstructions}
use Rattle.wasm_module.specs.Steps.OneByteForms.{form_of_one, one_byte_form, one_byte_length, first_limit, second_limit, form_at, IsTableOfForms}
use Rattle.wasm_module.proofs.Skipping.{skip_complete}
use Rattle.wasm_module.proofs.Heads.{begin_again, space_name}
use Rattle.wasm_module.proofs.Tables.{kinds_from, all_below, none_from, either}
use Rattle.wasm_module.proofs.TypelessInstructions.{passed_beginning, mem_arg_passed, instruction_bare, instruction_passed}

-- ---- one immediate

-- an immediate of this form is passed over, behind the opcode
abbrev IsPassed : Kind → OneByteForm → Type 0
IsPassed k f =
    (opcode b c : ℕ) (rest : List ℕ) → b < first_limit f → c < second_limit f →
    PassesTokens (k ∷ []) [] (b ∷ c ∷ rest) (drop (one_byte_length f) (opcode ∷ b ∷ c ∷ rest))

other_passed : (k : Kind) → IsPassed k form.Other
other_passed k opcode b c rest first second = absurd (omega (arith, first))

token_passed : (k : Kind) (text : List ℕ) (token : Token) (rest : List ℕ) → Begins k text token [] →
    type_name token ≡ None → PassesTokens (k ∷ []) [] (text ++ rest) rest
token_passed k text token rest begins unnamed =
    passed_beginning k [] (text ++ rest) rest
    (begin_again k text token [] rest begins ∙ ap (λ o. Ok (beginning o [], rest)) unnamed)

index_passed : (s : Space) → ((k : ℕ) → name_in s k ≡ None) → IsPassed (kind.Index s) form.Integer
index_passed s unnamed opcode b c rest first second =
    token_passed (kind.Index s) (b ∷ []) (unsigned s (b ∷ []) b) (c ∷ rest)
    (index s (b ∷ []) b (last (2 ^ 32) b first first (omega (arith, first))))
    (space_name s (b ∷ []) b ∙ unnamed b)

signed_byte : (limit b : ℕ) → 0x80 ≤ limit → b < 0x80 → IsSigned limit (b ∷ [])
signed_byte limit b wide low =
    either (nat_lt b 0x40)
    (λ h. positive limit b (ltb-true b 0x40 h) (omega (arith, wide, low)))
    (λ h. negative limit b (ltb-false b 0x40 h) low (omega (arith, wide)))

i32_passed : IsPassed kind.S32 form.Integer
i32_passed opcode b c rest first second =
    token_passed kind.S32 (b ∷ []) (plain (b ∷ [])) (c ∷ rest)
    (i32 (b ∷ []) (signed_byte (2 ^ 31) b (omega arith) first)) refl

i64_passed : IsPassed kind.S64 form.Integer
i64_passed opcode b c rest first second =
    token_passed kind.S64 (b ∷ []) (plain (b ∷ [])) (c ∷ rest)
    (i64 (b ∷ []) (signed_byte (2 ^ 63) b (omega arith) first)) refl

short_mem_arg_passed : (most : ℕ) → most < 0x80 → IsPassed (kind.MemArg most) (form.MemArg most)
short_mem_arg_passed most short opcode b c rest first second =
    mem_arg_passed most b (b ∷ c ∷ rest) (c ∷ rest) rest
    (u32_complete (b ∷ []) b (c ∷ rest)
    (last (2 ^ 32) b (omega (arith, first, short)) (omega (arith, first, short)) (omega (arith, first, short))))
    (omega (arith, first))
    (skip_complete (2 ^ 64) (c ∷ []) tt rest (c, last (2 ^ 64) c second second (omega (arith, second))))

access_passed : (most : ℕ) → IsPassed (kind.MemArg most) (form_of_one (kind.MemArg most))
access_passed most =
    let form_if : Bool → OneByteForm = λ short. cond short (form.MemArg most) form.Other in
    either (nat_lt most 0x80)
    (λ h. subst (λ f. IsPassed (kind.MemArg most) f) (sym (ap form_if h))
    (short_mem_arg_passed most (ltb-true most 0x80 h)))
    (λ h. subst (λ f. IsPassed (kind.MemArg most) f) (sym (ap form_if h)) (other_passed (kind.MemArg most)))

one_passed : (k : Kind) → IsPassed k (form_of_one k)
one_passed (kind.Index space.Type) = other_passed (kind.Index space.Type)
one_passed (kind.Index space.Function) = index_passed space.Function (λ k. refl)
one_passed (kind.Index space.Table) = index_passed space.Table (λ k. refl)
one_passed (kind.Index space.Memory) = index_passed space.Memory (λ k. refl)
one_passed (kind.Index space.Tag) = index_passed space.Tag (λ k. refl)
one_passed (kind.Index space.Global) = index_passed space.Global (λ k. refl)
one_passed (kind.Index space.Element) = index_passed space.Element (λ k. refl)
one_passed (kind.Index space.Data) = index_passed space.Data (λ k. refl)
one_passed (kind.Index space.Local) = index_passed space.Local (λ k. refl)
one_passed (kind.Index space.Label) = index_passed space.Label (λ k. refl)
one_passed (kind.Index space.Field) = index_passed space.Field (λ k. refl)
one_passed kind.U32 = other_passed kind.U32
one_passed kind.U64 = other_passed kind.U64
one_passed kind.S32 = i32_passed
one_passed kind.S64 = i64_passed
one_passed (kind.Bytes n) = other_passed (kind.Bytes n)
one_passed kind.Zero = other_passed kind.Zero
one_passed kind.CastFlags = other_passed kind.CastFlags
one_passed (kind.MemArg most) = access_passed most
one_passed kind.BlockType = other_passed kind.BlockType
one_passed kind.ValType = other_passed kind.ValType
one_passed kind.HeapType = other_passed kind.HeapType
one_passed kind.CatchClause = other_passed kind.CatchClause
one_passed kind.Labels = other_passed kind.Labels
one_passed kind.ValTypes = other_passed kind.ValTypes
one_passed kind.CatchClauses = other_passed kind.CatchClauses
one_passed kind.Local = other_passed kind.Local
one_passed kind.Locals = other_passed kind.Locals
one_passed kind.Aggregate = other_passed kind.Aggregate
one_passed kind.Bulk = other_passed kind.Bulk
one_passed kind.Vector = other_passed kind.Vector
one_passed kind.Atomic = other_passed kind.Atomic
one_passed kind.Block = other_passed kind.Block
one_passed kind.Expression = other_passed kind.Expression
one_passed kind.Expressions = other_passed kind.Expressions
one_passed kind.ByteVec = other_passed kind.ByteVec
one_passed kind.RefType = other_passed kind.RefType
one_passed kind.Mutability = other_passed kind.Mutability
one_passed kind.TagType = other_passed kind.TagType
one_passed kind.TableLimits = other_passed kind.TableLimits
one_passed kind.MemoryLimits = other_passed kind.MemoryLimits
one_passed kind.ExternType = other_passed kind.ExternType
one_passed kind.Import = other_passed kind.Import
one_passed kind.Imports = other_passed kind.Imports
one_passed kind.TypeIndices = other_passed kind.TypeIndices
one_passed kind.FunctionIndices = other_passed kind.FunctionIndices
one_passed kind.Table = other_passed kind.Table
one_passed kind.Tables = other_passed kind.Tables
one_passed kind.Global = other_passed kind.Global
one_passed kind.Globals = other_passed kind.Globals
one_passed kind.ElementSegment = other_passed kind.ElementSegment
one_passed kind.ElementSegments = other_passed kind.ElementSegments
one_passed kind.DataSegment = other_passed kind.DataSegment
one_passed kind.DataSegments = other_passed kind.DataSegments
one_passed kind.Tags = other_passed kind.Tags

-- ---- an instruction

row_passed : (kinds : Option (List Kind)) (opcode b c : ℕ) (rest : List ℕ) →
    kinds_in opcodes opcode ≡ kinds → b < first_limit (one_byte_form kinds) →
    c < second_limit (one_byte_form kinds) →
    PassesInstructions (opcode ∷ b ∷ c ∷ rest)
    (drop (one_byte_length (one_byte_form kinds)) (opcode ∷ b ∷ c ∷ rest))
row_passed None opcode b c rest e first second = absurd (omega (arith, first))
row_passed (Some []) opcode b c rest e first second = instruction_bare opcode (b ∷ c ∷ rest) e
row_passed (Some (k ∷ [])) opcode b c rest e first second =
    instruction_passed opcode k (b ∷ c ∷ rest) (drop (one_byte_length (form_of_one k)) (opcode ∷ b ∷ c ∷ rest)) e
    (one_passed k opcode b c rest first second)
row_passed (Some (k ∷ l ∷ kinds)) opcode b c rest e first second = absurd (omega (arith, first))

prefix_passed : (bytes : List ℕ) → 3 ≤ length bytes →
    let f = one_byte_form (kinds_in opcodes (slice_index_or bytes 0 0)) in
    slice_index_or bytes 1 0 < first_limit f → slice_index_or bytes 2 0 < second_limit f →
    PassesInstructions bytes (drop (one_byte_length f) bytes)
prefix_passed [] long first second = absurd (omega (arith, long))
prefix_passed (a ∷ []) long first second = absurd (omega (arith, long))
prefix_passed (a ∷ b ∷ []) long first second = absurd (omega (arith, long))
prefix_passed (a ∷ b ∷ c ∷ rest) long first second =
    row_passed (kinds_in opcodes a) a b c rest refl first second

pub short_passed : (bytes : List ℕ) (f : OneByteForm) (n b c limit further : ℕ) → 3 ≤ length bytes →
    f ≡ one_byte_form (kinds_in opcodes (slice_index_or bytes 0 0)) → n ≡ one_byte_length f →
    b ≡ slice_index_or bytes 1 0 → limit ≡ first_limit f → b < limit →
    c ≡ slice_index_or bytes 2 0 → further ≡ second_limit f → c < further →
    PassesInstructions bytes (take (length bytes - n) (drop n bytes))
short_passed bytes f n b c limit further long is n-is b-is limit-is first c-is further-is second =
    let g = one_byte_form (kinds_in opcodes (slice_index_or bytes 0 0)) in
    let all : take (length bytes - n) (drop n bytes) ≡ drop (one_byte_length g) bytes =
    take_all (length bytes - n) (drop n bytes) (omega (arith, length-drop n bytes))
    ∙ ap (λ m. drop m bytes) (n-is ∙ ap one_byte_length is) in
    subst (λ (u : List ℕ). PassesInstructions bytes u) (sym all)
    (prefix_passed bytes long
    (omega (arith, first, b-is, limit-is ∙ ap first_limit is))
    (omega (arith, second, c-is, further-is ∙ ap second_limit is)))

-- ---- the table

abbrev first_form : List OneByteForm → OneByteForm
first_form [] = form.Other
first_form (f ∷ forms) = f

abbrev further_forms : List OneByteForm → List OneByteForm
further_forms [] = []
further_forms (f ∷ forms) = forms

form_is : (table : List OneByteForm) (rows : List Row) (start n : ℕ) →
    table ≡ map one_byte_form (kinds_from rows start (length table)) → n < length table →
    form_at table n ≡ one_byte_form (kinds_in rows (start + n))
unfolding form_at
form_is [] rows start n e lt = absurd (omega (arith, lt))
form_is (f ∷ table) rows start zero e lt =
    ap first_form e ∙ ap (λ m. one_byte_form (kinds_in rows m)) (omega arith)
form_is (f ∷ table) rows start (suc n) e lt =
    form_is table rows (suc start) n (ap further_forms e) (omega (arith, lt))
    ∙ ap (λ m. one_byte_form (kinds_in rows m)) (omega arith)

pub no_form : (table : List OneByteForm) (n : ℕ) → length table ≤ n → form_at table n ≡ form.Other
unfolding form_at
no_form [] n le = refl
no_form (f ∷ table) zero le = absurd (omega (arith, le))
no_form (f ∷ table) (suc n) le = no_form table n (omega (arith, le))

pub is_table_of_forms : (rows : List Row) (table : List OneByteForm) →
    table ≡ map one_byte_form (kinds_from rows 0 (length table)) → all_below rows (length table) ≡ true →
    IsTableOfForms rows table
is_table_of_forms rows table e below n =
    either (nat_lt n (length table))
    (λ h. form_is table rows 0 n e (ltb-true n (length table) h)
    ∙ ap (λ m. one_byte_form (kinds_in rows m)) (omega arith))
    (λ h. let le = ltb-false n (length table) h in no_form table n le
    ∙ ap one_byte_form (sym (none_from rows (length table) n below le)))

pub form_get : (table : List OneByteForm) (n : ℕ) → n < length table →
    slice_index_or table n form.Bare ≡ form_at table n
unfolding form_at
form_get [] n lt = absurd (omega (arith, lt))
form_get (f ∷ table) zero lt = refl
form_get (f ∷ table) (suc n) lt = form_get table n (omega (arith, lt))
