-- A scan goes along the one way in which bytes can be a text.
use Rattle.std.proofs.Common.{◌≡◌, ℕ, ◌+◌, ◌<◌, List, [], ◌∷◌, ◌++◌, length, Ok, refl, sym, ap, subst, ◌∙◌, arith, append_assoc, append-nil, length-append}
use Rattle.wasm_binary.specs.Leb128.{IsInteger, last, more}
use Rattle.wasm_binary.proofs.Basics.{Reading, done, value_is, rest_is}
use Rattle.wasm_module.specs.declared.kind.Kind.{Kind}
use Rattle.wasm_module.specs.Immediates.{IsSigned, positive, negative, longer, Token, type_name, Begins, index, signed_index, number, byte, offset, i32, i64, raw, byte_vec, import, Runs, stop, step, AreTexts, type_names}
use Rattle.wasm_module.specs.Steps.Heads.{Beginning, beginning, begin_at, fault}
use Rattle.wasm_module.specs.Steps.Scans.{Reads, PassesTokens}
use Rattle.wasm_module.proofs.Heads.{begin_sound, begin_again}

-- ---- a beginning has a byte at least

integer_long : (end limit : ℕ) (text : List ℕ) (n : ℕ) → IsInteger end limit text n → 0 < length text
integer_long _ _ _ _ (last limit b low ends fits) = omega arith
integer_long _ _ _ _ (more limit b high bytes big is wide texts) = omega arith

signed_long : (limit : ℕ) (text : List ℕ) → IsSigned limit text → 0 < length text
signed_long _ _ (positive limit b low fits) = omega arith
signed_long _ _ (negative limit b from low fits) = omega arith
signed_long _ _ (longer limit b bytes big is wide texts) = omega arith

pub begins_long : (k : Kind) (text : List ℕ) (token : Token) (kinds : List Kind) → Begins k text token kinds →
    0 < length text
begins_long _ _ _ _ (index s text k h) = integer_long _ _ text k h
begins_long _ _ _ _ (signed_index k text n may h) = integer_long _ _ text n h
begins_long _ _ _ _ (number k text n kinds h e) = integer_long _ _ text n h
begins_long _ _ _ _ (byte k x kinds e) = omega arith
begins_long _ _ _ _ (offset text n h) = integer_long _ _ text n h
begins_long _ _ _ _ (i32 text h) = signed_long _ text h
begins_long _ _ _ _ (i64 text h) = signed_long _ text h
begins_long _ _ _ _ (raw text n some h) = omega (arith, some, h)
begins_long _ _ _ _ (byte_vec count bytes h) =
    omega (arith, integer_long _ _ count (length bytes) h, length-append count bytes)
begins_long _ _ _ _ (import count name h) =
    omega (arith, integer_long _ _ count (length name) h, length-append count name)

pub shorter : (k : Kind) (bytes : List ℕ) (b : Beginning) (rest : List ℕ) → begin_at k bytes ≡ Ok (b, rest) →
    length rest < length bytes
shorter k bytes b rest e =
    let t = begin_sound k bytes b rest e in
    let long : length bytes ≡ length t.text + length rest = ap (λ (u : List ℕ). length u) t.parts
    ∙ length-append t.text rest in
    omega (arith, long, begins_long k t.text t.is_text.token b.more t.is_text.begins)

-- ---- runs

runs_join : (start : List Kind) (text : List ℕ) (tokens : List Token) (left : List Kind)
    (others : List ℕ) (further : List Token) (new : List Kind) → Runs start text tokens left
    → Runs left others further new → Runs start (text ++ others) (tokens ++ further) new
runs_join _ _ _ left others further new (stop _) b = b
runs_join _ _ _ left others further new (step k inner kinds _ text behind first tokens h runs) b =
    subst (λ (u : List ℕ). Runs (k ∷ kinds) u (first ∷ (tokens ++ further)) new)
    (sym (append_assoc text behind others))
    (step k inner kinds new text (behind ++ others) first (tokens ++ further) h
    (runs_join (inner ++ kinds) behind tokens left others further new runs b))

-- nothing was read
pub none_read : (start : List Kind) (bytes : List ℕ) → Reads start start [] bytes bytes
none_read start bytes = record { text = []; parts = refl; runs = stop start }

-- one beginning was read
pub one_read : (k : Kind) (stack : List Kind) (bytes rest : List ℕ) (b : Beginning)
    (e : begin_at k bytes ≡ Ok (b, rest)) →
    Reads (k ∷ stack) (b.more ++ stack) ((begin_sound k bytes b rest e).is_text.token ∷ []) bytes rest
one_read k stack bytes rest b e =
    let h = begin_sound k bytes b rest e in
    let left = b.more ++ stack in
    record {
      text = h.text ++ [];
      parts = h.parts ∙ ap (λ (u : List ℕ). u ++ rest) (sym (append-nil h.text));
      runs = step k b.more stack left h.text [] h.is_text.token [] h.is_text.begins (stop left);
    }

-- more was read behind it
module _ {start stack left : List Kind} {tokens further : List Token} {bytes rest after : List ℕ} where
  pub reads_join : Reads start stack tokens bytes rest → Reads stack left further rest after →
      Reads start left (tokens ++ further) bytes after
  reads_join a b =
      record {
        text = a.text ++ b.text;
        parts = a.parts ∙ ap (λ (u : List ℕ). a.text ++ u) b.parts ∙ sym (append_assoc a.text b.text after);
        runs = runs_join start a.text tokens stack b.text further left a.runs b.runs;
      }

-- what is left of a text behind the beginnings that were read
pub record Rest (left : List Kind) (bytes after : List ℕ) : Type 0 where
  pub text : List ℕ
  pub tokens : List Token
  pub are : AreTexts left text tokens
  pub parts : bytes ≡ text ++ after

-- one text's beginning is the other's, where both begin the same bytes
pub same_step : (k : Kind) (a b : List ℕ) (p q : Token) (behind inner : List Kind) (rest others : List ℕ) →
    Begins k a p behind → Begins k b q inner → a ++ rest ≡ b ++ others → (behind ≡ inner) × (rest ≡ others)
same_step k a b p q behind inner rest others h g e =
    let same : done (beginning (type_name p) behind) rest ≡ done (beginning (type_name q) inner) others =
    sym (begin_again k a p behind rest h) ∙ ap (begin_at k) e ∙ begin_again k b q inner others g in (
      ap (λ (x : Beginning). x.more) (value_is (beginning (type_name p) behind)
          (beginning (type_name q) inner) rest others same),
      rest_is (beginning (type_name p) behind) (beginning (type_name q) inner) rest others same,
    )

pub first_of : (k : Kind) (kinds : List Kind) (text : List ℕ) (tokens : List Token) →
    AreTexts (k ∷ kinds) text tokens
    → (a others : List ℕ) × (p : Token) × (ps : List Token) × (inner : List Kind) × Begins k a p inner
    × AreTexts (inner ++ kinds) others ps × (text ≡ a ++ others)
first_of k kinds _ _ (step _ inner _ _ a others p ps h runs) = (a, others, p, ps, inner, h, runs, refl)

pub follows : (kinds : List Kind) (text : List ℕ) (tokens : List Token) (left : List Kind) (rest : List ℕ)
    (whole : List ℕ) (all : List Token) (after : List ℕ)
    → Runs kinds text tokens left → AreTexts kinds whole all → text ++ rest ≡ whole ++ after →
    Rest left rest after
follows _ _ _ left rest whole all after (stop _) h e =
    record { text = whole; tokens = all; are = h; parts = e }
follows _ _ _ left rest whole all after (step k behind kinds _ text others token tokens b runs) h e =
    let f = first_of k kinds whole all h in
    let bytes : text ++ (others ++ rest) ≡ f.0 ++ (f.1 ++ after) =
    sym (append_assoc text others rest) ∙ e ∙ ap (λ (u : List ℕ). u ++ after) f.7
    ∙ append_assoc f.0 f.1 after in
    let s = same_step k text f.0 token f.2 behind f.4 (others ++ rest) (f.1 ++ after) b f.5 bytes in
    follows (behind ++ kinds) others tokens left rest f.1 f.3 after runs
    (subst (λ (u : List Kind). AreTexts (u ++ kinds) f.1 f.3) (sym s.0) f.6) s.1

-- ---- what no text begins

no_reading : (x : Reading Beginning) (left : List ℕ) (b : Beginning) (rest : List ℕ) → x ≡ fault left →
    x ≡ Ok (b, rest) → ⊥
no_reading x left b rest e h = absurd cc

-- no text begins where none goes on behind what was read
module _ {start stack : List Kind} {tokens : List Token} {bytes rest : List ℕ} where
  pub none_goes_on : Reads start stack tokens bytes rest
      → ((text after : List ℕ) (ps : List Token) → rest ≡ text ++ after → AreTexts stack text ps → ⊥)
      → (text after : List ℕ) (ps : List Token) → bytes ≡ text ++ after → AreTexts start text ps → ⊥
  none_goes_on a none text after ps parts h =
      let r = follows start a.text tokens stack rest text ps after a.runs h (sym a.parts ∙ parts) in
      none r.text after r.tokens r.parts r.are

module _ {start stack : List Kind} {bytes rest : List ℕ} {next : Kind} where
  pub refused : (left : List ℕ) → PassesTokens start (next ∷ stack) bytes rest → begin_at next rest ≡ fault left
      → (text after : List ℕ) (tokens : List Token) → bytes ≡ text ++ after → AreTexts start text tokens → ⊥
  refused left p e =
      none_goes_on p.reads (λ text after tokens parts are. let f = first_of next stack text tokens are in
      let whole : rest ≡ f.0 ++ (f.1 ++ after) = parts ∙ ap (λ (u : List ℕ). u ++ after) f.7
      ∙ append_assoc f.0 f.1 after in
      no_reading (begin_at next rest) left (beginning (type_name f.2) f.4) (f.1 ++ after) e
      (ap (begin_at next) whole ∙ begin_again next f.0 f.2 f.4 (f.1 ++ after) f.5))

-- ---- the loop

-- the bytes up to `rest` were read, these kinds are still to come, and these types were named
pub record State (start : List Kind) (bytes rest : List ℕ) (stack : List Kind) (named : List ℕ) : Type 0 where
  pub tokens : List Token
  pub reads : Reads start stack tokens bytes rest
  pub names : named ≡ type_names tokens

pub begun : (start : List Kind) (bytes : List ℕ) → State start bytes bytes start []
begun start bytes = record { tokens = []; reads = none_read start bytes; names = refl }
