-- The beginnings of texts: what is read is what has the text, and what has a text is read.
use Rattle.std.proofs.Common.{◌≡◌, ℕ, ◌^◌, nat_lt, nat_le, nat_eq, cond, ◌||◌, Bool, true, false, List, [], ◌∷◌, ◌++◌, Option, Some, None, Ok, refl, sym, ap, subst, ◌∙◌, arith, lt-ltb, le-ltb, le-leb, ne_eqb}
use Rattle.std.proofs.lemmas.Grind.{common_steps}
use Rattle.wasm_binary.specs.Leb128.{IsInteger, last, more, IsU32, IsS33}
use Rattle.wasm_binary.specs.Steps.Reading.{◌>>=◌, u32_at, s33_at}
use Rattle.wasm_binary.proofs.Basics.{Reading, IsSound, bind_ok, value_is, rest_is, which}
use Rattle.wasm_binary.proofs.Integers.{u32_sound, u32_complete, s33_sound, s33_complete}
use Rattle.wasm_module.specs.declared.kind.Space.{Space}
use Rattle.wasm_module.specs.declared.kind.Space.TheVariants as space
use Rattle.wasm_module.specs.declared.kind.Kind.{Kind}
use Rattle.wasm_module.specs.declared.kind.Kind.TheVariants as kind
use Rattle.wasm_module.specs.declared.head.Head.{Head as HeadRead}
use Rattle.wasm_module.specs.Immediates.{Token, unsigned, signed, plain, type_name, may_be_index, and_then, behind_byte, behind_number, Begins, index, signed_index, number, byte, offset, i32, i64, raw, byte_vec, import}
use Rattle.wasm_module.specs.Steps.Heads.{Beginning, beginning, skip_at, signed_at, raw_at, byte_vec_at, byte_at, number_at, name_in, index_at, signed_index_at, index_or_byte_at, begin_at, behind, Chooses}
use Rattle.wasm_module.proofs.Skipping.{IsSkipped, skip_complete, skip_sound, IsSignedText, signed_complete, signed_sound, IsRaw, raw_complete, raw_sound, IsByteVec, byte_vec_again, byte_vec_sound}

-- a text of the beginning of this kind
pub record IsBeginning (k : Kind) (text : List ℕ) (b : Beginning) : Type 0 where
  pub token : Token
  pub begins : Begins k text token b.more
  pub names : type_name token ≡ b.named

-- ---- by a byte or a number

beginning_is : (text : List ℕ) (k : Kind) (x b : Beginning) → x ≡ b → IsBeginning k text x →
    IsBeginning k text b
beginning_is text k x b e h = subst (λ (y : Beginning). IsBeginning k text y) e h

plain_takes : (k : Kind) (kinds : List Kind) (IsText : List ℕ → Unit {0} → Type 0)
    (reads : List ℕ → Reading (Unit {0})) → IsSound IsText reads
    → ((text : List ℕ) → IsText text tt → Begins k text (plain text) kinds) →
    IsSound (IsBeginning k) (λ bytes. reads bytes >>= (λ u. Ok (beginning None kinds, u.1)))
plain_takes k kinds IsText reads sound made bytes b rest e =
    let a = bind_ok (reads bytes) (λ u. Ok (beginning None kinds, u.1)) (b, rest) e in
    let t = sound bytes a.0.0 a.0.1 a.1 in
    let x = beginning None kinds in
    record {
      text = t.text;
      is_text = beginning_is t.text k x b (value_is x b a.0.1 rest a.2)
          (record { token = plain t.text; begins = made t.text t.is_text; names = refl });
      parts = t.parts ∙ ap (λ (u : List ℕ). t.text ++ u) (rest_is x b a.0.1 rest a.2);
    }

-- what is behind a byte or a number, where it may be there
some_behind : (bytes rest left : List ℕ) (o : Option (List Kind)) (b : Beginning) →
    behind bytes rest o ≡ Ok (b, left) → (kinds : List Kind) × (o ≡ Some kinds) × (beginning None kinds ≡ b)
    × (rest ≡ left)
some_behind bytes rest left None b e = absurd cc
some_behind bytes rest left (Some kinds) b e =
    (kinds, refl, value_is (beginning None kinds) b rest left e, rest_is (beginning None kinds) b rest left e)

byte_takes : (k : Kind) → IsSound (IsBeginning k) (byte_at k)
unfolding byte_at
byte_takes k [] b rest e = absurd cc
byte_takes k (x ∷ bytes) b rest e =
    let s = some_behind (x ∷ bytes) bytes rest (behind_byte k x) b e in
    record {
      text = x ∷ [];
      is_text = beginning_is (x ∷ []) k (beginning None s.0) b s.2
          (record { token = plain (x ∷ []); begins = byte k x s.0 s.1; names = refl });
      parts = ap (λ (u : List ℕ). x ∷ u) s.3;
    }

number_takes : (k : Kind) → IsSound (IsBeginning k) (number_at k)
unfolding number_at
number_takes k bytes b rest e =
    let a = bind_ok (u32_at bytes) (λ n. behind bytes n.1 (behind_number k n.0)) (b, rest) e in
    let t = u32_sound bytes a.0.0 a.0.1 a.1 in
    let s = some_behind bytes a.0.1 rest (behind_number k a.0.0) b a.2 in
    record {
      text = t.text;
      is_text = beginning_is t.text k (beginning None s.0) b s.2
          (record { token = plain t.text; begins = number k t.text a.0.0 s.0 t.is_text s.1; names = refl });
      parts = t.parts ∙ ap (λ (u : List ℕ). t.text ++ u) s.3;
    }

pub space_name : (s : Space) (text : List ℕ) (k : ℕ) → type_name (unsigned s text k) ≡ name_in s k
space_name space.Type text k = refl
space_name space.Function text k = refl
space_name space.Table text k = refl
space_name space.Memory text k = refl
space_name space.Tag text k = refl
space_name space.Global text k = refl
space_name space.Element text k = refl
space_name space.Data text k = refl
space_name space.Local text k = refl
space_name space.Label text k = refl
space_name space.Field text k = refl

index_takes : (s : Space) → IsSound (IsBeginning (kind.Index s)) (index_at s)
unfolding index_at
index_takes s bytes b rest e =
    let a = bind_ok (u32_at bytes) (λ k. Ok (beginning (name_in s k.0) [], k.1)) (b, rest) e in
    let t = u32_sound bytes a.0.0 a.0.1 a.1 in
    let x = beginning (name_in s a.0.0) [] in
    record {
      text = t.text;
      is_text = beginning_is t.text (kind.Index s) x b (value_is x b a.0.1 rest a.2)
          (record {
            token = unsigned s t.text a.0.0;
            begins = index s t.text a.0.0 t.is_text;
            names =
                space_name s t.text a.0.0;
          });
      parts = t.parts ∙ ap (λ (u : List ℕ). t.text ++ u) (rest_is x b a.0.1 rest a.2);
    }

signed_takes : (k : Kind) → may_be_index k ≡ true → IsSound (IsBeginning k) signed_index_at
signed_takes k may bytes b rest e =
    let a = bind_ok (s33_at bytes) (λ n. Ok (beginning (Some n.0) [], n.1)) (b, rest) e in
    let t = s33_sound bytes a.0.0 a.0.1 a.1 in
    let x = beginning (Some a.0.0) [] in
    record {
      text = t.text;
      is_text = beginning_is t.text k x b (value_is x b a.0.1 rest a.2)
          (record {
            token = signed space.Type t.text a.0.0;
            begins =
                signed_index k t.text a.0.0 may t.is_text;
            names = refl;
          });
      parts = t.parts ∙ ap (λ (u : List ℕ). t.text ++ u) (rest_is x b a.0.1 rest a.2);
    }

either_takes : (k : Kind) → may_be_index k ≡ true → IsSound (IsBeginning k) (index_or_byte_at k)
unfolding index_or_byte_at
either_takes k may [] b rest e = absurd cc
either_takes k may (x ∷ bytes) b rest e =
    which (nat_lt x 0x40 || nat_le 0x80 x) _ _ (Ok (b, rest)) e
    (λ h q. signed_takes k may (x ∷ bytes) b rest q)
    (λ h q. byte_takes k (x ∷ bytes) b rest q)

-- a byte with which no index begins
abbrev IsOwn : ℕ → Type 0
IsOwn x = (nat_lt x 0x40 || nat_le 0x80 x) ≡ false

own_block : (x : ℕ) (kinds : List Kind) → behind_byte kind.BlockType x ≡ Some kinds → IsOwn x
own_block x kinds e = grind (arith, common_steps)

own_heap : (x : ℕ) (kinds : List Kind) → behind_byte kind.HeapType x ≡ Some kinds → IsOwn x
own_heap x kinds e = grind (arith, common_steps)

abbrev imported : List Kind
imported = kind.ByteVec ∷ kind.ExternType ∷ []

-- what a text of this kind begins with
data Start : Kind → Type 0 where
  with_number :
      (k : Kind) → ((bytes : List ℕ) → begin_at k bytes ≡ number_at k bytes)
      → ((x : ℕ) → behind_byte k x ≡ None) → may_be_index k ≡ false → Start k
  with_byte :
      (k : Kind) → ((bytes : List ℕ) → begin_at k bytes ≡ byte_at k bytes)
      → ((n : ℕ) → behind_number k n ≡ None) → may_be_index k ≡ false → Start k
  with_either :
      (k : Kind) → ((bytes : List ℕ) → begin_at k bytes ≡ index_or_byte_at k bytes)
      → ((n : ℕ) → behind_number k n ≡ None) → may_be_index k ≡ true
      → ((x : ℕ) (kinds : List Kind) → behind_byte k x ≡ Some kinds → IsOwn x) → Start k
  without :
      (k : Kind) → IsSound (IsBeginning k) (begin_at k) → ((n : ℕ) → behind_number k n ≡ None)
      → ((x : ℕ) → behind_byte k x ≡ None) → may_be_index k ≡ false → Start k

start : (k : Kind) → Start k
unfolding begin_at
start (kind.Index s) = without (kind.Index s) (index_takes s) (λ n. refl) (λ x. refl) refl
start kind.U32 = with_number kind.U32 (λ b. refl) (λ x. refl) refl
start kind.U64 = without kind.U64
    (plain_takes kind.U64 [] (IsSkipped (2 ^ 64)) (skip_at (2 ^ 64)) (skip_sound (2 ^ 64)) (λ t h.
    offset t h.0 h.1)) (λ n. refl) (λ x. refl) refl
start kind.S32 = without kind.S32
    (plain_takes kind.S32 [] (IsSignedText (2 ^ 31)) (signed_at (2 ^ 31))
    (signed_sound (2 ^ 31)) i32) (λ n. refl) (λ x. refl) refl
start kind.S64 = without kind.S64
    (plain_takes kind.S64 [] (IsSignedText (2 ^ 63)) (signed_at (2 ^ 63))
    (signed_sound (2 ^ 63)) i64) (λ n. refl) (λ x. refl) refl
start (kind.Bytes n) = without (kind.Bytes n)
    (plain_takes (kind.Bytes n) [] (IsRaw n) (raw_at n) (raw_sound n) (λ t h. raw t n h.0 h.1))
    (λ n. refl) (λ x. refl) refl
start kind.Zero = with_byte kind.Zero (λ b. refl) (λ n. refl) refl
start kind.CastFlags = with_byte kind.CastFlags (λ b. refl) (λ n. refl) refl
start (kind.MemArg most) = with_number (kind.MemArg most) (λ b. refl) (λ x. refl) refl
start kind.BlockType = with_either kind.BlockType (λ b. refl) (λ n. refl) refl own_block
start kind.ValType = with_byte kind.ValType (λ b. refl) (λ n. refl) refl
start kind.HeapType = with_either kind.HeapType (λ b. refl) (λ n. refl) refl own_heap
start kind.CatchClause = with_byte kind.CatchClause (λ b. refl) (λ n. refl) refl
start kind.Labels = with_number kind.Labels (λ b. refl) (λ x. refl) refl
start kind.ValTypes = with_number kind.ValTypes (λ b. refl) (λ x. refl) refl
start kind.CatchClauses = with_number kind.CatchClauses (λ b. refl) (λ x. refl) refl
start kind.Local = with_number kind.Local (λ b. refl) (λ x. refl) refl
start kind.Locals = with_number kind.Locals (λ b. refl) (λ x. refl) refl
start kind.Aggregate = with_number kind.Aggregate (λ b. refl) (λ x. refl) refl
start kind.Bulk = with_number kind.Bulk (λ b. refl) (λ x. refl) refl
start kind.Vector = with_number kind.Vector (λ b. refl) (λ x. refl) refl
start kind.Atomic = with_number kind.Atomic (λ b. refl) (λ x. refl) refl
start kind.Block = with_byte kind.Block (λ b. refl) (λ n. refl) refl
start kind.Expression = with_byte kind.Expression (λ b. refl) (λ n. refl) refl
start kind.Expressions = with_number kind.Expressions (λ b. refl) (λ x. refl) refl
start kind.ByteVec = without kind.ByteVec
    (plain_takes kind.ByteVec [] IsByteVec byte_vec_at byte_vec_sound (λ t h.
    subst (λ (u : List ℕ). Begins kind.ByteVec u (plain u) []) (sym h.parts)
    (byte_vec h.count h.bytes h.counted))) (λ n. refl) (λ x. refl) refl
start kind.RefType = with_byte kind.RefType (λ b. refl) (λ n. refl) refl
start kind.Mutability = with_byte kind.Mutability (λ b. refl) (λ n. refl) refl
start kind.TagType = with_byte kind.TagType (λ b. refl) (λ n. refl) refl
start kind.TableLimits = with_byte kind.TableLimits (λ b. refl) (λ n. refl) refl
start kind.MemoryLimits = with_byte kind.MemoryLimits (λ b. refl) (λ n. refl) refl
start kind.ExternType = with_byte kind.ExternType (λ b. refl) (λ n. refl) refl
start kind.Import = without kind.Import
    (plain_takes kind.Import imported IsByteVec byte_vec_at byte_vec_sound (λ t h.
    subst (λ (u : List ℕ). Begins kind.Import u (plain u) imported) (sym h.parts)
    (import h.count h.bytes h.counted))) (λ n. refl) (λ x. refl) refl
start kind.Imports = with_number kind.Imports (λ b. refl) (λ x. refl) refl
start kind.TypeIndices = with_number kind.TypeIndices (λ b. refl) (λ x. refl) refl
start kind.FunctionIndices = with_number kind.FunctionIndices (λ b. refl) (λ x. refl) refl
start kind.Table = with_byte kind.Table (λ b. refl) (λ n. refl) refl
start kind.Tables = with_number kind.Tables (λ b. refl) (λ x. refl) refl
start kind.Global = with_byte kind.Global (λ b. refl) (λ n. refl) refl
start kind.Globals = with_number kind.Globals (λ b. refl) (λ x. refl) refl
start kind.ElementSegment = with_number kind.ElementSegment (λ b. refl) (λ x. refl) refl
start kind.ElementSegments = with_number kind.ElementSegments (λ b. refl) (λ x. refl) refl
start kind.DataSegment = with_number kind.DataSegment (λ b. refl) (λ x. refl) refl
start kind.DataSegments = with_number kind.DataSegments (λ b. refl) (λ x. refl) refl
start kind.Tags = with_number kind.Tags (λ b. refl) (λ x. refl) refl

start_sound : (k : Kind) → Start k → IsSound (IsBeginning k) (begin_at k)
start_sound _ (with_number k is _ _) bytes b rest e = number_takes k bytes b rest (sym (is bytes) ∙ e)
start_sound _ (with_byte k is _ _) bytes b rest e = byte_takes k bytes b rest (sym (is bytes) ∙ e)
start_sound _ (with_either k is _ may _) bytes b rest e = either_takes k may bytes b rest (sym (is bytes) ∙ e)
start_sound _ (without k sound _ _ _) bytes b rest e = sound bytes b rest e

pub begin_sound : (k : Kind) → IsSound (IsBeginning k) (begin_at k)
begin_sound k = start_sound k (start k)

-- ---- what is chosen by an opcode

-- by a byte that is not the first of these two
pub chosen_by_other : (found : Option HeadRead) (x first : ℕ) (kinds others : Option (List Kind)) →
    (x ≡ first → ⊥) → Chooses found others → Chooses found (cond (nat_eq x first) kinds others)
chosen_by_other found x first kinds others apart h = rw (ne_eqb x first apart) h

-- by a byte that is not the second
pub chosen_by_third : (found : Option HeadRead) (x first second : ℕ)
    (kinds between others : Option (List Kind))
    → (x ≡ second → ⊥) → Chooses found (cond (nat_eq x first) kinds others) →
    Chooses found (cond (nat_eq x first) kinds (cond (nat_eq x second) between others))
chosen_by_third found x first second kinds between others apart h = rw (ne_eqb x second apart) h

pub chosen_row : (found : Option HeadRead) (row kinds : Option (List Kind)) (others : List Kind) → row ≡ kinds →
    Chooses found (and_then row others) → Chooses found (and_then kinds others)
chosen_row found row kinds others e h =
    subst (λ (o : Option (List Kind)). Chooses found (and_then o others)) e h

-- ---- what has a text is read

number_reads : (k : Kind) (text : List ℕ) (n : ℕ) (kinds : List Kind) (rest : List ℕ) → IsU32 text n →
    behind_number k n ≡ Some kinds → number_at k (text ++ rest) ≡ Ok (beginning None kinds, rest)
unfolding number_at
number_reads k text n kinds rest h e = rw (u32_complete text n rest h, e) refl

byte_reads : (k : Kind) (x : ℕ) (kinds : List Kind) (rest : List ℕ) → behind_byte k x ≡ Some kinds →
    byte_at k (x ∷ rest) ≡ Ok (beginning None kinds, rest)
unfolding byte_at
byte_reads k x kinds rest e = rw e refl

own_reads : (k : Kind) (x : ℕ) (kinds : List Kind) (rest : List ℕ) → IsOwn x → behind_byte k x ≡ Some kinds →
    index_or_byte_at k (x ∷ rest) ≡ Ok (beginning None kinds, rest)
unfolding index_or_byte_at
own_reads k x kinds rest own e = rw own (byte_reads k x kinds rest e)

no_kinds : (o : Option (List Kind)) (kinds : List Kind) → o ≡ None → o ≡ Some kinds → ⊥
no_kinds o kinds none e = absurd cc

number_again : (k : Kind) (text : List ℕ) (n : ℕ) (kinds : List Kind) (rest : List ℕ) → Start k →
    IsU32 text n → behind_number k n ≡ Some kinds → begin_at k (text ++ rest) ≡ Ok (beginning None kinds, rest)
number_again _ text n kinds rest (with_number k is _ _) h e =
    is (text ++ rest) ∙ number_reads k text n kinds rest h e
number_again _ text n kinds rest (with_byte k _ none _) h e =
    absurd (no_kinds (behind_number k n) kinds (none n) e)
number_again _ text n kinds rest (with_either k _ none _ _) h e =
    absurd (no_kinds (behind_number k n) kinds (none n) e)
number_again _ text n kinds rest (without k _ none _ _) h e =
    absurd (no_kinds (behind_number k n) kinds (none n) e)

byte_once : (k : Kind) (x : ℕ) (kinds : List Kind) (rest : List ℕ) → Start k → behind_byte k x ≡ Some kinds →
    begin_at k (x ∷ rest) ≡ Ok (beginning None kinds, rest)
byte_once _ x kinds rest (with_number k _ none _) e = absurd (no_kinds (behind_byte k x) kinds (none x) e)
byte_once _ x kinds rest (with_byte k is _ _) e = is (x ∷ rest) ∙ byte_reads k x kinds rest e
byte_once _ x kinds rest (with_either k is _ _ own) e =
    is (x ∷ rest) ∙ own_reads k x kinds rest (own x kinds e) e
byte_once _ x kinds rest (without k _ _ none _) e = absurd (no_kinds (behind_byte k x) kinds (none x) e)

pub byte_again : (k : Kind) (x : ℕ) (kinds : List Kind) (rest : List ℕ) → behind_byte k x ≡ Some kinds →
    begin_at k (x ∷ rest) ≡ Ok (beginning None kinds, rest)
byte_again k x kinds rest e = byte_once k x kinds rest (start k) e

signed_reads : (k : Kind) (x : ℕ) (bytes : List ℕ) (n : ℕ) (rest : List ℕ) →
    (nat_lt x 0x40 || nat_le 0x80 x) ≡ true → s33_at (x ∷ bytes) ≡ Ok (n, rest) →
    index_or_byte_at k (x ∷ bytes) ≡ Ok (beginning (Some n) [], rest)
unfolding index_or_byte_at
signed_reads k x bytes n rest first e = rw (first, e) refl

signed_is_first : (end limit : ℕ) (k : Kind) (text : List ℕ) (n : ℕ) (rest : List ℕ) → end ≡ 0x40 →
    IsInteger end limit text n → s33_at (text ++ rest) ≡ Ok (n, rest) →
    index_or_byte_at k (text ++ rest) ≡ Ok (beginning (Some n) [], rest)
signed_is_first end _ k _ _ rest at-end (last limit b low ends fits) e =
    signed_reads k b rest b rest (rw (lt-ltb b 0x40 (omega (arith, at-end, ends))) refl) e
signed_is_first end _ k _ _ rest at-end (more limit b high bytes big is wide texts) e =
    signed_reads k b (bytes ++ rest) _ rest (rw (le-ltb b 0x40 (omega (arith, big)), le-leb 0x80 b big) refl)
    e

not_both : (b : Bool) → b ≡ false → b ≡ true → ⊥
not_both b fails holds = absurd cc

signed_again_at : (k : Kind) (text : List ℕ) (n : ℕ) (rest : List ℕ) → Start k → may_be_index k ≡ true →
    IsS33 text n → begin_at k (text ++ rest) ≡ Ok (beginning (Some n) [], rest)
signed_again_at _ text n rest (with_number k _ _ never) may h = absurd (not_both (may_be_index k) never may)
signed_again_at _ text n rest (with_byte k _ _ never) may h = absurd (not_both (may_be_index k) never may)
signed_again_at _ text n rest (with_either k is _ _ _) may h =
    is (text ++ rest) ∙ signed_is_first 0x40 (2 ^ 32) k text n rest refl h (s33_complete text n rest h)
signed_again_at _ text n rest (without k _ _ _ never) may h = absurd (not_both (may_be_index k) never may)

index_again : (s : Space) (text : List ℕ) (k : ℕ) (rest : List ℕ) → IsU32 text k →
    begin_at (kind.Index s) (text ++ rest) ≡ Ok (beginning (name_in s k) [], rest)
unfolding begin_at index_at
index_again s text k rest h = rw (u32_complete text k rest h) refl

pub begin_again : (k : Kind) (text : List ℕ) (token : Token) (kinds : List Kind) (rest : List ℕ) →
    Begins k text token kinds → begin_at k (text ++ rest) ≡ Ok (beginning (type_name token) kinds, rest)
unfolding begin_at
begin_again _ _ _ _ rest (index s text k h) = rw (space_name s text k) (index_again s text k rest h)
begin_again _ _ _ _ rest (signed_index k text n may h) = signed_again_at k text n rest (start k) may h
begin_again _ _ _ _ rest (number k text n kinds h e) = number_again k text n kinds rest (start k) h e
begin_again _ _ _ _ rest (byte k x kinds e) = byte_again k x kinds rest e
begin_again _ _ _ _ rest (offset text n h) = rw (skip_complete (2 ^ 64) text tt rest (n, h)) refl
begin_again _ _ _ _ rest (i32 text h) = rw (signed_complete (2 ^ 31) text tt rest h) refl
begin_again _ _ _ _ rest (i64 text h) = rw (signed_complete (2 ^ 63) text tt rest h) refl
begin_again _ _ _ _ rest (raw text n some h) = rw (raw_complete n text tt rest (some, h)) refl
begin_again _ _ _ _ rest (byte_vec count bytes h) = rw (byte_vec_again count bytes rest h) refl
begin_again _ _ _ _ rest (import count name h) = rw (byte_vec_again count name rest h) refl
