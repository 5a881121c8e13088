-- Going on to the next index of a type.
use Rattle.std.proofs.Common.{◌≡◌, ℕ, zero, suc, ◌+◌, ◌-◌, ◌*◌, ◌/◌, ◌^◌, ◌<◌, ◌≤◌, List, [], ◌∷◌, ◌++◌, length, Option, Some, None, Ok, cond, Bool, true, false, refl, sym, ap, subst, ◌∙◌, arith, append-nil, length-append}
use Rattle.std.proofs.lemmas.Grind.{flat_map-append}
use Rattle.wasm_binary.specs.Leb128.{IsInteger, last, more}
use Rattle.wasm_module.specs.declared.kind.Space.{Space}
use Rattle.wasm_module.specs.declared.kind.Space.TheVariants as space
use Rattle.wasm_module.specs.declared.kind.Kind.{Kind}
use Rattle.wasm_module.specs.declared.scan.ScanError.{ScanError}
use Rattle.wasm_module.specs.declared.scan.ScanError.TheVariants as scan
use Rattle.wasm_module.specs.declared.scan.TypeIndex.{TypeIndex}
use Rattle.wasm_module.specs.Immediates.{Token, unsigned, signed, type_name, may_be_index, Begins, index, signed_index, number, byte, offset, i32, i64, raw, byte_vec, import, names_of, type_names}
use Rattle.wasm_module.specs.Steps.Heads.{Beginning, begin_at}
use Rattle.wasm_module.specs.Steps.Scans.{IsScanned, IsRefused, Reads, token_of, PassesTokens, PassesType, PassesNone, Passes}
use Rattle.wasm_module.proofs.Heads.{begin_sound}
use Rattle.wasm_module.proofs.Scanning.{one_read, reads_join, none_goes_on, State, begins_long, shorter}

-- ---- a token that names a type

unsigned_is : (s : Space) (text : List ℕ) (k n : ℕ) → type_name (unsigned s text k) ≡ Some n →
    unsigned s text k ≡ unsigned space.Type text n
unsigned_is space.Type text k n e = cc
unsigned_is space.Function text k n e = absurd cc
unsigned_is space.Table text k n e = absurd cc
unsigned_is space.Memory text k n e = absurd cc
unsigned_is space.Tag text k n e = absurd cc
unsigned_is space.Global text k n e = absurd cc
unsigned_is space.Element text k n e = absurd cc
unsigned_is space.Data text k n e = absurd cc
unsigned_is space.Local text k n e = absurd cc
unsigned_is space.Label text k n e = absurd cc
unsigned_is space.Field text k n e = absurd cc

abbrev index_token : Kind → List ℕ → ℕ → Token
index_token k text n = cond (may_be_index k) (signed space.Type text n) (unsigned space.Type text n)

pub token_is : (k : Kind) (text : List ℕ) (token : Token) (kinds : List Kind) (n : ℕ) →
    Begins k text token kinds → type_name token ≡ Some n → token ≡ index_token k text n
token_is _ _ _ _ n (index s text k h) e = unsigned_is s text k n e
token_is _ _ _ _ n (signed_index k text m may h) e = rw may cc
token_is _ _ _ _ n (number k text m kinds h e1) e = absurd cc
token_is _ _ _ _ n (byte k x kinds e1) e = absurd cc
token_is _ _ _ _ n (offset text m h) e = absurd cc
token_is _ _ _ _ n (i32 text h) e = absurd cc
token_is _ _ _ _ n (i64 text h) e = absurd cc
token_is _ _ _ _ n (raw text m some h) e = absurd cc
token_is _ _ _ _ n (byte_vec count bytes h) e = absurd cc
token_is _ _ _ _ n (import count name h) e = absurd cc

-- an integer below 16 * 128 ^ count has no more bytes before its last
short_below : (end count limit : ℕ) (text : List ℕ) (n : ℕ) → limit ≤ 16 * 128 ^ count →
    IsInteger end limit text n → length text ≤ suc count
short_below end count _ _ _ le (last limit b low ends fits) = omega arith
short_below end zero _ _ _ le (more limit b high bytes big is wide texts) = absurd (omega (arith, le, wide))
short_below end (suc count) _ _ _ le (more limit b high bytes big is wide texts) =
    let less : limit / 0x80 ≤ 16 * 128 ^ count = omega (arith, le) in
    let k = short_below end count (limit / 0x80) bytes high less texts in omega (arith, k)

pub integer_short : (end : ℕ) (text : List ℕ) (n : ℕ) → IsInteger end (2 ^ 32) text n → length text ≤ 5
integer_short end text n h = short_below end 4 (2 ^ 32) text n (omega arith) h

token_short : (k : Kind) (text : List ℕ) (token : Token) (kinds : List Kind) (n : ℕ) →
    Begins k text token kinds → type_name token ≡ Some n → length text ≤ 5
token_short _ _ _ _ n (index s text k h) e = integer_short 0x80 text k h
token_short _ _ _ _ n (signed_index k text m may h) e = integer_short 0x40 text m h
token_short _ _ _ _ n (number k text m kinds h e1) e = absurd cc
token_short _ _ _ _ n (byte k x kinds e1) e = absurd cc
token_short _ _ _ _ n (offset text m h) e = absurd cc
token_short _ _ _ _ n (i32 text h) e = absurd cc
token_short _ _ _ _ n (i64 text h) e = absurd cc
token_short _ _ _ _ n (raw text m some h) e = absurd cc
token_short _ _ _ _ n (byte_vec count bytes h) e = absurd cc
token_short _ _ _ _ n (import count name h) e = absurd cc

-- ---- the search

pub no_longer : (k : Kind) (bytes : List ℕ) (b : Beginning) (rest : List ℕ) → begin_at k bytes ≡ Ok (b, rest)
    → length rest ≤ length bytes
no_longer k bytes b rest e = let h = shorter k bytes b rest e in omega (arith, h)

pub not_some : (o : Option ℕ) → ((x : ℕ) → o ≡ Some x → ⊥) → o ≡ None
not_some (Some x) h = absurd (h x refl)
not_some None h = refl

module _ {start stack new : List Kind} {bytes rest after : List ℕ} {next : Kind} {b : Beginning} where
  pub passes_type : (t : TypeIndex) → PassesTokens start (next ∷ stack) bytes rest →
      begin_at next rest ≡ Ok (b, after) → new ≡ b.more ++ stack → Some t.index ≡ b.named →
      t.is_signed ≡ may_be_index next → t.length ≡ length rest - length after →
      PassesType t start new bytes after
  passes_type t p e new-is index-is signed-is long-is =
      let h = begin_sound next rest b after e in
      let g = h.is_text in
      let names : type_name g.token ≡ Some t.index = g.names ∙ sym index-is in
      let is : g.token ≡ token_of t h.text = token_is next h.text g.token b.more t.index g.begins names
      ∙ ap (λ x. cond x (signed space.Type h.text t.index) (unsigned space.Type h.text t.index)) (sym signed-is)
      in
      let long : length rest ≡ length h.text + length after = ap (λ (u : List ℕ). length u) h.parts
      ∙ length-append h.text after in
      let all : length bytes ≡ length p.reads.text + length rest = ap (λ (u : List ℕ). length u) p.reads.parts
      ∙ length-append p.reads.text rest in
      let short = token_short next h.text g.token b.more t.index g.begins names in
      let some = begins_long next h.text g.token b.more g.begins in
      record {
        passed = p.passed;
        text = h.text;
        reads = reads_join p.reads
            (subst (λ (u : List Kind). Reads (next ∷ stack) u (token_of t h.text ∷ []) rest after) (sym new-is)
            (subst (λ k. Reads (next ∷ stack) (b.more ++ stack) (k ∷ []) rest after) is
            (one_read next stack rest after b e)));
        none = p.none;
        long = omega (arith, long, long-is);
        short = omega (arith, long, long-is, short);
        some = omega (arith, long, long-is, some);
        fits = omega (arith, long, long-is, all);
      }

-- ---- from one search to the next

-- what was found, or that nothing was
module _ {kinds left : List Kind} {bytes rest : List ℕ} where
  pub found_type : {o : Option TypeIndex} {t : TypeIndex} → o ≡ Some t → Passes o kinds left bytes rest →
      PassesType t kinds left bytes rest
  found_type e h = subst (λ x. Passes x kinds left bytes rest) e h

  pub found_none : (o : Option TypeIndex) → ((t : TypeIndex) → o ≡ Some t → ⊥) →
      Passes o kinds left bytes rest → PassesNone kinds left bytes rest
  found_none (Some t) none h = absurd (none t refl)
  found_none None none h = h

  pub passes_shorter : {t : TypeIndex} → PassesType t kinds left bytes rest → length rest < length bytes
  passes_shorter h = omega (arith, h.fits, h.some)

module _ {start stack : List Kind} {tokens : List Token} {bytes rest : List ℕ} where
  pub refused_behind : (e : ScanError) → Reads start stack tokens bytes rest → IsRefused stack rest e →
      IsRefused start bytes e
  refused_behind (scan.Malformed place) a h = none_goes_on a h
  refused_behind scan.Memory a h = tt

pub type_names_append : (a b : List Token) → type_names (a ++ b) ≡ type_names a ++ type_names b
type_names_append a b = flat_map-append (λ p. names_of (type_name p)) a b

index_name : (is_signed : Bool) (text : List ℕ) (k : ℕ) →
    type_name (cond is_signed (signed space.Type text k) (unsigned space.Type text k)) ≡ Some k
index_name true text k = refl
index_name false text k = refl

token_names : (t : TypeIndex) (text : List ℕ) → type_names (token_of t text ∷ []) ≡ t.index ∷ []
token_names t text = ap (λ o. names_of o ++ []) (index_name t.is_signed text t.index)

-- the names of what was passed over, and of the index behind it
pub passed_names : {t : TypeIndex} {kinds left : List Kind} {bytes rest : List ℕ}
    (h : PassesType t kinds left bytes rest) →
    type_names (h.passed ++ token_of t h.text ∷ []) ≡ t.index ∷ []
passed_names {t = t} h =
    type_names_append h.passed (token_of t h.text ∷ [])
    ∙ ap (λ (u : List ℕ). u ++ type_names (token_of t h.text ∷ [])) h.none ∙ token_names t h.text

module _ {start stack left : List Kind} {bytes rest after named : List ℕ}
    (s : State start bytes rest stack named) where
  pub noted : {later : List ℕ} {t : TypeIndex} → PassesType t stack left rest after →
      later ≡ named ++ t.index ∷ [] → State start bytes after left later
  noted {t = t} h e =
      let further = h.passed ++ token_of t h.text ∷ [] in
      record {
        tokens = s.tokens ++ further;
        reads = reads_join s.reads h.reads;
        names = e ∙ ap (λ (u : List ℕ). u ++ t.index ∷ []) s.names
            ∙ ap (λ (u : List ℕ). type_names s.tokens ++ u) (sym (passed_names h))
            ∙ sym (type_names_append s.tokens further);
      }

  pub ended : PassesNone stack left rest after → IsScanned start bytes after named
  ended h =
      let r = reads_join s.reads h.reads in
      record {
        text = r.text;
        tokens = s.tokens ++ h.passed;
        parts = r.parts;
        are = r.runs;
        named = s.names ∙ sym (append-nil (type_names s.tokens))
            ∙ ap (λ (u : List ℕ). type_names s.tokens ++ u) (sym h.none)
            ∙ sym (type_names_append s.tokens h.passed);
      }
