-- How many bytes the indices of types have in texts and in contents of sections.
use Rattle.std.proofs.Common.{◌≡◌, ℕ, ◌+◌, ◌-◌, ◌≤◌, Bool, true, false, List, [], ◌∷◌, ◌++◌, length, take, drop, Ok, Option, Some, None, refl, sym, ap, subst, ◌∙◌, arith, append_assoc, append-nil, length-append, cond}
use Rattle.std.specs.List.{concat}
use Rattle.std.proofs.lemmas.Grind.{flat_map-append}
use Rattle.wasm_binary.specs.Grammar.{none}
use Rattle.wasm_binary.specs.Leb128.{IsU32}
use Rattle.wasm_binary.specs.Steps.Reading.{u32_at}
use Rattle.wasm_binary.proofs.Integers.{u32_sound}
use Rattle.wasm_module.specs.declared.kind.Kind.{Kind}
use Rattle.wasm_module.specs.declared.kind.Space.TheVariants as space
use Rattle.wasm_module.specs.declared.scan.TypeIndex.{TypeIndex}
use Rattle.wasm_module.specs.Bodies.{body}
use Rattle.wasm_module.specs.Contents.{section_kinds}
use Rattle.wasm_module.specs.Immediates.{Token, unsigned, signed, type_name, AreTexts, names_of, type_names}
use Rattle.wasm_module.specs.Lengths.{length_of, type_lengths, HasTypeLengths, HasBodyLengths, sized, HasCodeLengths, counted, HasContentLengths, texts, code, nameless}
use Rattle.wasm_module.specs.NamedTypes.{code_id}
use Rattle.wasm_module.specs.Steps.Heads.{kinds_or_none}
use Rattle.wasm_module.specs.Steps.Lengths.{TakesBody, TakesBodies}
use Rattle.wasm_module.specs.Steps.Renaming.{Appends}
use Rattle.wasm_module.specs.Steps.Scans.{Reads, token_of, PassesType, PassesNone}
use Rattle.wasm_module.proofs.CodeSections.{concat_on}
use Rattle.wasm_module.proofs.NamedTypes.{some_kinds}
use Rattle.wasm_module.proofs.Scanning.{none_read, reads_join}
use Rattle.wasm_module.proofs.SizedContents.{number_read, same_number, sized_taken}
use Rattle.wasm_module.proofs.TextItems.{item_on}

-- ---- tokens

lengths_append : (a b : List Token) → type_lengths (a ++ b) ≡ type_lengths a ++ type_lengths b
lengths_append a b = flat_map-append (λ p. length_of p (type_name p)) a b

none_of : (p : Token) (o : Option ℕ) (others : List ℕ) → names_of o ++ others ≡ [] → length_of p o ≡ []
none_of p (Some k) others e = absurd cc
none_of p None others e = refl

none_behind : (o : Option ℕ) (others : List ℕ) → names_of o ++ others ≡ [] → others ≡ []
none_behind (Some k) others e = absurd cc
none_behind None others e = e

-- tokens that name no type have no index of one
nameless_lengths : (tokens : List Token) → type_names tokens ≡ [] → type_lengths tokens ≡ []
nameless_lengths [] e = refl
nameless_lengths (p ∷ tokens) e =
    ap (λ (u : List ℕ). u ++ type_lengths tokens) (none_of p (type_name p) (type_names tokens) e)
    ∙ nameless_lengths tokens (none_behind (type_name p) (type_names tokens) e)

index_length : (is_signed : Bool) (text : List ℕ) (k : ℕ) →
    type_lengths (cond is_signed (signed space.Type text k) (unsigned space.Type text k) ∷ [])
    ≡ length text ∷ []
index_length true text k = refl
index_length false text k = refl

passed_lengths : {t : TypeIndex} {kinds left : List Kind} {bytes rest : List ℕ}
    (h : PassesType t kinds left bytes rest) →
    type_lengths (h.passed ++ token_of t h.text ∷ []) ≡ t.length ∷ []
passed_lengths {t = t} h =
    lengths_append h.passed (token_of t h.text ∷ [])
    ∙ ap (λ (u : List ℕ). u ++ type_lengths (token_of t h.text ∷ [])) (nameless_lengths h.passed h.none)
    ∙ index_length t.is_signed h.text t.index ∙ ap (λ k. k ∷ []) h.long

-- ---- texts

-- the lengths in what was read of a text were put at the end of others
pub record Measures (start : List Kind) (bytes rest : List ℕ) (stack : List Kind) (old new : List ℕ) :
    Type 0 where
  pub tokens : List Token
  pub reads : Reads start stack tokens bytes rest
  pub long : new ≡ old ++ type_lengths tokens

pub measure_begun : (start : List Kind) (bytes old : List ℕ) → Measures start bytes bytes start old old
measure_begun start bytes old =
    record {
      tokens = [];
      reads = none_read start bytes;
      long = sym (append-nil old);
    }

module _ {start stack left : List Kind} {bytes rest after old lengths : List ℕ}
    (m : Measures start bytes rest stack old lengths) where
  pub measured_on : {new : List ℕ} {t : TypeIndex} → PassesType t stack left rest after →
      new ≡ lengths ++ t.length ∷ [] → Measures start bytes after left old new
  measured_on {t = t} h e =
      let further = h.passed ++ token_of t h.text ∷ [] in
      record {
        tokens = m.tokens ++ further;
        reads = reads_join m.reads h.reads;
        long = e ∙ ap (λ (u : List ℕ). u ++ t.length ∷ []) m.long
            ∙ append_assoc old (type_lengths m.tokens) (t.length ∷ [])
            ∙ ap (λ (u : List ℕ). old ++ (type_lengths m.tokens ++ u)) (sym (passed_lengths h))
            ∙ ap (λ (u : List ℕ). old ++ u) (sym (lengths_append m.tokens further));
      }

  pub text_measured : PassesNone stack left rest after → after ≡ [] →
      Appends (HasTypeLengths start bytes) old lengths
  text_measured h e =
      let all = m.tokens ++ h.passed in
      let r = reads_join m.reads h.reads in
      let whole : r.text ≡ bytes = sym (append-nil r.text) ∙ ap (λ (u : List ℕ). r.text ++ u) (sym e)
      ∙ sym r.parts in
      let long : type_lengths all ≡ type_lengths m.tokens = lengths_append m.tokens h.passed
      ∙ ap (λ (u : List ℕ). type_lengths m.tokens ++ u) (nameless_lengths h.passed h.none)
      ∙ append-nil (type_lengths m.tokens) in
      record {
        text = type_lengths all;
        is_text = record {
          tokens = all;
          are = subst (λ (u : List ℕ). AreTexts start u all) whole r.runs;
          long = refl;
        };
        parts = m.long ∙ ap (λ (u : List ℕ). old ++ u) (sym long);
      }

-- ---- code

pub body_measured : (bytes : List ℕ) (n : ℕ) (behind content rest old mid new : List ℕ) (k : ℕ)
    (kinds : List Kind) → u32_at bytes ≡ Ok (n, behind) → n ≤ length behind → content ≡ take n behind
    → rest ≡ drop n behind → k ≡ length bytes - length behind → mid ≡ old ++ k ∷ [] → kinds ≡ body
    → Appends (HasTypeLengths kinds content) mid new → TakesBody bytes rest old new
body_measured bytes n behind content rest old mid new k kinds e fits prefix back k-is m kinds-are a =
    let t = sized_taken bytes n behind content rest e fits prefix back in
    let same = same_number (u32_at bytes) n (length content) behind (content ++ rest) e
    (number_read bytes t.size (length content) (content ++ rest) t.is_size t.parts) in
    let all : length bytes ≡ length t.size + length (content ++ rest) = ap (λ (u : List ℕ). length u) t.parts
    ∙ length-append t.size (content ++ rest) in
    let left : length behind ≡ length (content ++ rest) = ap (λ (u : List ℕ). length u) same.1 in
    let long : k ≡ length t.size = omega (arith, k-is, all, left) in
    record {
      text = t.size ++ content;
      parts = t.parts ∙ sym (append_assoc t.size content rest);
      long = record {
        text = length t.size ∷ a.text;
        is_text = sized t.size content a.text t.is_size
            (subst (λ (u : List Kind). HasTypeLengths u content a.text) kinds-are a.is_text);
        parts = a.parts ∙ ap (λ (u : List ℕ). u ++ a.text) m ∙ append_assoc old (k ∷ []) a.text
            ∙ ap (λ j. old ++ j ∷ a.text) long;
      };
    }

pub no_bodies : (bytes old : List ℕ) → TakesBodies 0 bytes bytes old old
no_bodies bytes old =
    record { text = []; bodies = []; parts = refl; are = none; many = refl; long = sym (append-nil old) }

pub bodies_on : (count : ℕ) (bytes rest after old lengths new : List ℕ) →
    TakesBodies count bytes rest old lengths → TakesBody rest after lengths new →
    TakesBodies (count + 1) bytes after old new
bodies_on count bytes rest after old lengths new s b =
    record {
      text = s.text ++ b.text;
      bodies = s.bodies ++ b.long.text ∷ [];
      parts = s.parts ∙ ap (λ (u : List ℕ). s.text ++ u) b.parts ∙ sym (append_assoc s.text b.text after);
      are = item_on HasBodyLengths s.text s.bodies b.text b.long.text s.are b.long.is_text;
      many = length-append s.bodies (b.long.text ∷ []) ∙ omega (arith, s.many);
      long = b.long.parts ∙ ap (λ (u : List ℕ). u ++ b.long.text) s.long
          ∙ append_assoc old (concat s.bodies) b.long.text
          ∙ ap (λ (u : List ℕ). old ++ u) (sym (concat_on s.bodies b.long.text));
    }

pub code_measured : (content : List ℕ) (count : ℕ) (behind rest old new : List ℕ) →
    u32_at content ≡ Ok (count, behind) → TakesBodies count behind rest old new → rest ≡ [] →
    Appends (HasCodeLengths content) old new
code_measured content count behind rest old new e b nothing =
    let t = u32_sound content count behind e in
    let whole : behind ≡ b.text = b.parts ∙ ap (λ (u : List ℕ). b.text ++ u) nothing ∙ append-nil b.text in
    let parts : content ≡ t.text ++ b.text = t.parts ∙ ap (λ (u : List ℕ). t.text ++ u) whole in
    record {
      text = concat b.bodies;
      is_text = subst (λ (u : List ℕ). HasCodeLengths u (concat b.bodies)) (sym parts)
          (counted t.text b.text b.bodies (subst (λ (m : ℕ). IsU32 t.text m) (sym b.many) t.is_text) b.are);
      parts = b.long;
    }

-- ---- contents of sections

pub code_content : (id : ℕ) (content old new : List ℕ) → id ≡ code_id →
    Appends (HasCodeLengths content) old new → Appends (HasContentLengths id content) old new
code_content id content old new e a =
    record { text = a.text; is_text = code content a.text e a.is_text; parts = a.parts }

pub text_content : (id : ℕ) (o : Option (List Kind)) (kinds : List Kind) (content old new : List ℕ) →
    o ≡ section_kinds id → (o ≡ None → ⊥) → kinds ≡ kinds_or_none o →
    Appends (HasTypeLengths kinds content) old new → Appends (HasContentLengths id content) old new
text_content id o kinds content old new e some kinds-are a =
    record {
      text = a.text;
      is_text = texts kinds content a.text
          (sym e ∙ some_kinds o some ∙ ap (λ (u : List Kind). Some u) (sym kinds-are)) a.is_text;
      parts = a.parts;
    }

pub nameless_content : (id : ℕ) (content old : List ℕ) → section_kinds id ≡ None → (id ≡ code_id → ⊥) →
    Appends (HasContentLengths id content) old old
nameless_content id content old e other =
    record { text = []; is_text = nameless content e other; parts = sym (append-nil old) }
