-- Instructions that name no type and open no block, one after another.
use Rattle.std.proofs.Common.{◌≡◌, ℕ, ◌+◌, ◌^◌, ◌<◌, ◌≤◌, List, [], ◌∷◌, ◌++◌, length, Some, None, Ok, refl, sym, ap, subst, ◌∙◌, arith, append_assoc, append-nil, length-append, ne_eqb, le-leb, suc, ◌-◌, take, drop, slice_index_or, Option}
use Rattle.wasm_binary.specs.Steps.Reading.{u32_at}
use Rattle.wasm_module.specs.declared.kind.Kind.{Kind}
use Rattle.wasm_module.specs.declared.kind.Kind.TheVariants as kind
use Rattle.wasm_module.specs.declared.kind.Immediates.{Immediates}
use Rattle.wasm_module.specs.declared.kind.Immediates.TheVariants as immediates
use Rattle.wasm_module.specs.Opcodes.{kinds_in, opcodes}
use Rattle.wasm_module.specs.Immediates.{Token, Runs, stop, step, names_of, type_names}
use Rattle.wasm_module.specs.Steps.Heads.{Beginning, beginning, begin_at, number_at, skip_at}
use Rattle.wasm_module.specs.Steps.Tables.{row_kinds}
use Rattle.wasm_module.specs.Steps.Scans.{PassesTokens, PassesInstructions, HasInstructions}
use Rattle.wasm_module.proofs.Taking.{first_apart}
use Rattle.wasm_module.proofs.Heads.{begin_sound, byte_again}
use Rattle.wasm_module.proofs.Scanning.{none_read, one_read, reads_join}
use Rattle.wasm_module.proofs.Searching.{type_names_append}

-- ---- tokens that name no type

pub passed_none : (kinds : List Kind) (bytes : List ℕ) → PassesTokens kinds kinds bytes bytes
passed_none kinds bytes = record { passed = []; reads = none_read kinds bytes; none = refl }

passed_first : (k : Kind) (stack : List Kind) (b : Beginning) (bytes rest : List ℕ) →
    begin_at k bytes ≡ Ok (b, rest) → names_of b.named ≡ [] →
    PassesTokens (k ∷ stack) (b.more ++ stack) bytes rest
passed_first k stack b bytes rest e unnamed =
    let h = begin_sound k bytes b rest e in
    record {
      passed = h.is_text.token ∷ [];
      reads = one_read k stack bytes rest b e;
      none =
          ap (λ o. names_of o ++ []) h.is_text.names ∙ append-nil (names_of b.named) ∙ unnamed;
    }

pub passed_beginning : (k : Kind) (more : List Kind) (bytes rest : List ℕ) →
    begin_at k bytes ≡ Ok (beginning None more, rest) → PassesTokens (k ∷ []) more bytes rest
passed_beginning k more bytes rest e =
    subst (λ (u : List Kind). PassesTokens (k ∷ []) u bytes rest) (append-nil more)
    (passed_first k [] (beginning None more) bytes rest e refl)

module _ {kinds stack left : List Kind} {bytes rest after : List ℕ} where
  pub passed_joined : PassesTokens kinds stack bytes rest → PassesTokens stack left rest after →
      PassesTokens kinds left bytes after
  passed_joined p q =
      record {
        passed = p.passed ++ q.passed;
        reads = reads_join p.reads q.reads;
        none =
            type_names_append p.passed q.passed ∙ ap (λ (u : List ℕ). u ++ type_names q.passed) p.none
            ∙ q.none;
      }

runs_framed : (kinds left more : List Kind) (text : List ℕ) (tokens : List Token) →
    Runs kinds text tokens left → Runs (kinds ++ more) text tokens (left ++ more)
runs_framed _ _ more _ _ (stop kinds) = stop (kinds ++ more)
runs_framed _ _ more _ _ (step k inner kinds left text others token tokens b runs) =
    step k inner (kinds ++ more) (left ++ more) text others token tokens b
    (subst (λ (u : List Kind). Runs u others tokens (left ++ more)) (append_assoc inner kinds more)
    (runs_framed (inner ++ kinds) left more others tokens runs))

-- with more kinds behind them
pub passed_framed : (kinds left more : List Kind) (bytes rest : List ℕ) → PassesTokens kinds left bytes rest →
    PassesTokens (kinds ++ more) (left ++ more) bytes rest
passed_framed kinds left more bytes rest p =
    let r = p.reads in
    record {
      passed = p.passed;
      reads = record {
        text = r.text;
        parts = r.parts;
        runs = runs_framed kinds left more r.text p.passed r.runs;
      };
      none = p.none;
    }

module _ {kinds left : List Kind} {bytes rest : List ℕ} where
  pub passed_shorter : PassesTokens kinds left bytes rest → length rest ≤ length bytes
  passed_shorter p =
      let long : length bytes ≡ length p.reads.text + length rest = ap (λ (u : List ℕ). length u) p.reads.parts
      ∙ length-append p.reads.text rest in
      omega (arith, long)

module _ {start stack : List Kind} {bytes rest after : List ℕ} {next : Kind} where
  -- the next kind was taken from the stack, and tokens of it were passed over
  pub passed_next : {old : List Kind} → PassesTokens start old bytes rest → old ≡ next ∷ stack →
      PassesTokens (next ∷ []) (next ∷ []) rest after → PassesTokens start (next ∷ stack) bytes after
  passed_next p e q =
      passed_joined (subst (λ (u : List Kind). PassesTokens start u bytes rest) e p)
      (passed_framed (next ∷ []) (next ∷ []) stack rest after q)

  -- and then its beginning was
  pub passed_on : {new : List Kind} {b : Beginning} → PassesTokens start (next ∷ stack) bytes rest →
      begin_at next rest ≡ Ok (b, after) → new ≡ b.more ++ stack → names_of b.named ≡ [] →
      PassesTokens start new bytes after
  passed_on {b = b} p e new-is unnamed =
      passed_joined p (subst (λ (u : List Kind). PassesTokens (next ∷ stack) u rest after) (sym new-is)
      (passed_first next stack b rest after e unnamed))

-- ---- an alignment and an offset

alignment_reads : (most n : ℕ) (bytes rest : List ℕ) → u32_at bytes ≡ Ok (n, rest) → n ≤ most →
    begin_at (kind.MemArg most) bytes ≡ Ok (beginning None (kind.U64 ∷ []), rest)
unfolding begin_at number_at
alignment_reads most n bytes rest e low = rw (e, le-leb n most low) refl

offset_reads : (bytes rest : List ℕ) → skip_at (2 ^ 64) bytes ≡ Ok (tt, rest) →
    begin_at kind.U64 bytes ≡ Ok (beginning None [], rest)
unfolding begin_at
offset_reads bytes rest e = rw e refl

pub mem_arg_passed : (most n : ℕ) (bytes between rest : List ℕ) → u32_at bytes ≡ Ok (n, between) →
    n ≤ most → skip_at (2 ^ 64) between ≡ Ok (tt, rest) → PassesTokens (kind.MemArg most ∷ []) [] bytes rest
mem_arg_passed most n bytes between rest e low h =
    passed_joined
    (passed_beginning (kind.MemArg most) (kind.U64 ∷ []) bytes between
    (alignment_reads most n bytes between e low))
    (passed_beginning kind.U64 [] between rest (offset_reads between rest h))

-- ---- instructions

opcode_passed : (here : Kind) (opcode : ℕ) (kinds : List Kind) (rest : List ℕ) → HasInstructions here →
    kinds_in opcodes opcode ≡ Some kinds →
    PassesTokens (here ∷ []) (kinds ++ here ∷ []) (opcode ∷ rest) rest
opcode_passed here opcode kinds rest has e =
    passed_beginning here (kinds ++ here ∷ []) (opcode ∷ rest) rest
    (byte_again here opcode (kinds ++ here ∷ []) rest (has opcode kinds e))

pub instruction_bare : (opcode : ℕ) (rest : List ℕ) → kinds_in opcodes opcode ≡ Some [] →
    PassesInstructions (opcode ∷ rest) rest
instruction_bare opcode rest e here has = opcode_passed here opcode [] rest has e

pub instruction_passed : (opcode : ℕ) (k : Kind) (between rest : List ℕ) →
    kinds_in opcodes opcode ≡ Some (k ∷ []) → PassesTokens (k ∷ []) [] between rest →
    PassesInstructions (opcode ∷ between) rest
instruction_passed opcode k between rest e p here has =
    passed_joined (opcode_passed here opcode (k ∷ []) between has e)
    (passed_framed (k ∷ []) [] (here ∷ []) between rest p)

pub instructions_none : (bytes : List ℕ) → PassesInstructions bytes bytes
instructions_none bytes here has = passed_none (here ∷ []) bytes

pub instructions_joined : (bytes rest after : List ℕ) → PassesInstructions bytes rest →
    PassesInstructions rest after → PassesInstructions bytes after
instructions_joined bytes rest after p q here has =
    passed_joined (p here has) (q here has)

-- the first byte of these, and the bytes behind it
abbrev first_byte : List ℕ → ℕ
first_byte bytes = slice_index_or bytes 0 0

abbrev behind_first : List ℕ → List ℕ
behind_first bytes = take (length bytes - 1) (drop 1 bytes)

from_first : (bytes rest : List ℕ) → 1 ≤ length bytes →
    PassesInstructions (first_byte bytes ∷ behind_first bytes) rest → PassesInstructions bytes rest
from_first bytes rest some p =
    subst (λ (u : List ℕ). PassesInstructions u rest) (sym (first_apart bytes some)) p

row_is : (row same : Immediates) (kinds : Option (List Kind)) → row ≡ same → row_kinds row ≡ kinds →
    kinds ≡ row_kinds same
row_is row same kinds is e = sym e ∙ ap row_kinds is

pub bare_at_prefix : (bytes : List ℕ) (row : Immediates) → 1 ≤ length bytes → row ≡ immediates.Zero →
    row_kinds row ≡ kinds_in opcodes (first_byte bytes) → PassesInstructions bytes (behind_first bytes)
bare_at_prefix bytes row some is e =
    from_first bytes (behind_first bytes) some
    (instruction_bare (first_byte bytes) (behind_first bytes)
    (row_is row immediates.Zero (kinds_in opcodes (first_byte bytes)) is e))

pub passed_at_prefix : (bytes : List ℕ) (row : Immediates) (k : Kind) (rest : List ℕ) → 1 ≤ length bytes →
    row ≡ immediates.One k → row_kinds row ≡ kinds_in opcodes (first_byte bytes) →
    PassesTokens (k ∷ []) [] (behind_first bytes) rest → PassesInstructions bytes rest
passed_at_prefix bytes row k rest some is e p =
    from_first bytes rest some
    (instruction_passed (first_byte bytes) k (behind_first bytes) rest
    (row_is row (immediates.One k) (kinds_in opcodes (first_byte bytes)) is e) p)

pub shorter_behind_first : (k : Kind) (bytes rest : List ℕ) → 1 ≤ length bytes →
    PassesTokens (k ∷ []) [] (behind_first bytes) rest → length rest < length bytes
shorter_behind_first k bytes rest some p =
    let long : length bytes ≡ suc (length (behind_first bytes)) = ap (λ (u : List ℕ). length u)
    (first_apart bytes some) in
    omega (arith, long, passed_shorter p)

-- ---- what has instructions

no_row : (kinds : List Kind) → None ≡ Some kinds → ⊥
no_row kinds e = absurd cc

no_end : (opcode : ℕ) (kinds : List Kind) → kinds_in opcodes opcode ≡ Some kinds → opcode ≡ 0x0B → ⊥
no_end opcode kinds e is = no_row kinds (sym (ap (kinds_in opcodes) is) ∙ e)

no_delegate : (opcode : ℕ) (kinds : List Kind) → kinds_in opcodes opcode ≡ Some kinds → opcode ≡ 0x18 → ⊥
no_delegate opcode kinds e is = no_row kinds (sym (ap (kinds_in opcodes) is) ∙ e)

pub expression_has : HasInstructions kind.Expression
expression_has opcode kinds e = rw (ne_eqb opcode 0x0B (no_end opcode kinds e), e) refl

pub block_has : HasInstructions kind.Block
block_has opcode kinds e =
    rw (ne_eqb opcode 0x0B (no_end opcode kinds e), ne_eqb opcode 0x18 (no_delegate opcode kinds e), e) refl

-- where what comes next has instructions
pub instructions_of : (k here : Kind) (bytes rest : List ℕ) → k ≡ here → HasInstructions here →
    PassesInstructions bytes rest → PassesTokens (k ∷ []) (k ∷ []) bytes rest
instructions_of k here bytes rest is has p =
    subst (λ (u : Kind). PassesTokens (u ∷ []) (u ∷ []) bytes rest) (sym is) (p here has)

pub instructions_shorter : (bytes rest : List ℕ) → PassesInstructions bytes rest → length rest ≤ length bytes
instructions_shorter bytes rest p =
    passed_shorter (p kind.Expression expression_has)
