-- What is written in place of code that names types.
use Rattle.std.proofs.Common.{◌≡◌, ℕ, ◌+◌, ◌-◌, ◌^◌, ◌≤◌, Bool, true, false, List, [], ◌∷◌, ◌++◌, length, take, Option, Some, None, IfSome, IfNone, IsErrAnd, Result, Ok, Err, cond, is_some, refl, sym, ap, subst, ◌∙◌, append_assoc, append-nil, length-append, take_at, arith}
use Rattle.std.specs.Prelude.{IsSome}
use Rattle.std.specs.List.{All}
use Rattle.std.proofs.lemmas.Grind.{flat_map-append}
use Rattle.std.proofs.lemmas.List.Elements.{All-nil, All-cons}
use Rattle.wasm_binary.specs.Grammar.{AreItems, none, next}
use Rattle.wasm_module.specs.declared.kind.Space.TheVariants as space
use Rattle.wasm_module.specs.declared.kind.Kind.{Kind}
use Rattle.wasm_module.specs.declared.scan.ScanError.{ScanError}
use Rattle.wasm_module.specs.declared.scan.ScanError.TheVariants as scan
use Rattle.wasm_module.specs.declared.renaming.RenameError.TheVariants as rename
use Rattle.wasm_module.specs.declared.renaming.Widths.{Widths}
use Rattle.wasm_module.specs.declared.scan.TypeIndex.{TypeIndex}
use Rattle.wasm_module.specs.Immediates.{Token, unsigned, signed, type_name, AreTexts, names_of, type_names}
use Rattle.wasm_module.specs.Bodies.{Names}
use Rattle.wasm_module.specs.RenamedSections.{RenamesTexts}
use Rattle.wasm_module.specs.Renaming.{NewIndices, new_index, type_maps, least_width, IsTextOf, text_of, Becomes, stays, u32, s33, IsRenamed, Renames, RenamesPrefix, BeginsNoText, IsNoText, NamesUnknown}
use Rattle.wasm_module.specs.Steps.Changes.{KeepsPrefix, ChangesPrefix}
use Rattle.wasm_module.specs.Steps.Renaming.{Appends, index_end, IsNewIndex, same_error}
use Rattle.wasm_module.specs.Steps.Scans.{IsRefused, Reads, token_of, PassesType, PassesNone}
use Rattle.wasm_module.proofs.Scanning.{none_read, reads_join}
use Rattle.wasm_module.proofs.Searching.{passed_names, type_names_append, refused_behind}
use Rattle.wasm_module.proofs.WholeTexts.{left_over}
use Rattle.wasm_module.proofs.Changing.{prefix_empty, back_empty, before}
use Rattle.wasm_module.proofs.Padding.{integer_some}
use Rattle.wasm_module.proofs.Tokens.{texts_of, whole_text, View, u32_type, s33_type, other, view}

-- ---- one token after another

pub items_join : {A : Type 0} (IsText : List ℕ → A → Type 0) (a b : List ℕ) (xs ys : List A) →
    AreItems IsText a xs → AreItems IsText b ys → AreItems IsText (a ++ b) (xs ++ ys)
items_join IsText _ b _ ys none g = g
items_join IsText _ b _ ys (next text others x xs h hs) g =
    subst (λ (u : List ℕ). AreItems IsText u (x ∷ (xs ++ ys))) (sym (append_assoc text others b))
    (next text (others ++ b) x (xs ++ ys) h (items_join IsText others b xs ys hs g))

one_item : {A : Type 0} (IsText : List ℕ → A → Type 0) (text : List ℕ) (x : A) → IsText text x →
    AreItems IsText text (x ∷ [])
one_item IsText text x h =
    subst (λ (u : List ℕ). AreItems IsText u (x ∷ [])) (append-nil text) (next text [] x [] h none)

becomes_index : (new_indices : NewIndices) (least : ℕ → ℕ) (is_signed : Bool) (text new : List ℕ)
    (k n long : ℕ) →
    new_index new_indices k ≡ Some n → IsTextOf (index_end is_signed) (least long) new n → length text ≡ long
    → Becomes (type_maps new_indices) least new (cond is_signed (signed space.Type text k)
    (unsigned space.Type text k))
becomes_index new_indices least true text new k n long e h is =
    s33 space.Type (λ j. new_index new_indices j) text new k n refl e
    (subst (λ w. IsTextOf 0x40 (least w) new n) (sym is) h)
becomes_index new_indices least false text new k n long e h is =
    u32 space.Type (λ j. new_index new_indices j) text new k n refl e
    (subst (λ w. IsTextOf 0x80 (least w) new n) (sym is) h)

no_name : (o : Option ℕ) (others : List ℕ) → names_of o ++ others ≡ [] → (o ≡ None) × (others ≡ [])
no_name (Some k) others e = absurd cc
no_name None others e = (refl, e)

stays_so : (new_indices : NewIndices) (least : ℕ → ℕ) (p : Token) → View p → type_name p ≡ None →
    Becomes (type_maps new_indices) least (text_of p) p
stays_so new_indices least _ (u32_type text k) e = absurd cc
stays_so new_indices least _ (s33_type text k) e = absurd cc
stays_so new_indices least _ (other p unnamed maps) e = stays p (maps new_indices)

all_stay : (new_indices : NewIndices) (least : ℕ → ℕ) (tokens : List Token) → type_names tokens ≡ [] →
    IsRenamed (type_maps new_indices) least tokens (texts_of tokens)
all_stay new_indices least [] e = none
all_stay new_indices least (p ∷ tokens) e =
    let two = no_name (type_name p) (type_names tokens) e in
    next (text_of p) (texts_of tokens) p tokens (stays_so new_indices least p (view p) two.0)
    (all_stay new_indices least tokens two.1)

-- ---- the loop

-- what was read has become what was written
pub record Renaming (new_indices : NewIndices) (least : ℕ → ℕ) (start : List Kind) (bytes rest : List ℕ)
    (stack : List Kind) (out : List ℕ) : Type 0 where
  pub tokens : List Token
  pub reads : Reads start stack tokens bytes rest
  pub renamed : IsRenamed (type_maps new_indices) least tokens out

index_text : (is_signed : Bool) (text : List ℕ) (k : ℕ) →
    text_of (cond is_signed (signed space.Type text k) (unsigned space.Type text k)) ≡ text
index_text true text k = refl
index_text false text k = refl

texts_append : (a b : List Token) → texts_of (a ++ b) ≡ texts_of a ++ texts_of b
texts_append a b = flat_map-append text_of a b

-- the bytes that were passed over before an index
passed_bytes : (t : TypeIndex) (kinds left : List Kind) (bytes rest : List ℕ) (n : ℕ)
    (h : PassesType t kinds left bytes rest) → n ≡ length bytes - length rest - t.length →
    take n bytes ≡ texts_of h.passed
passed_bytes t kinds left bytes rest n h n-is =
    let last = token_of t h.text ∷ [] in
    let text-is : texts_of last ≡ h.text = ap (λ (u : List ℕ). u ++ [])
    (index_text t.is_signed h.text t.index)
    ∙ append-nil h.text in
    let parts : bytes ≡ texts_of h.passed ++ (h.text ++ rest) = h.reads.parts
    ∙ ap (λ (u : List ℕ). u ++ rest) (whole_text kinds h.reads.text (h.passed ++ last) left h.reads.runs
    ∙ texts_append h.passed last ∙ ap (λ (u : List ℕ). texts_of h.passed ++ u) text-is)
    ∙ append_assoc (texts_of h.passed) h.text rest in
    let long : length bytes ≡ length (texts_of h.passed) + (length h.text + length rest) =
    ap (λ (u : List ℕ). length u) parts ∙ length-append (texts_of h.passed) (h.text ++ rest)
    ∙ ap (λ m. length (texts_of h.passed) + m) (length-append h.text rest) in
    ap (take n) parts ∙ take_at (texts_of h.passed) (h.text ++ rest) n (omega (arith, long, n-is, h.long))

one_some : (k : ℕ) → k ∷ [] ≡ [] → ⊥
one_some k e = absurd cc

-- the text of a new index is not empty
index_some : (new_indices : NewIndices) (least : ℕ → ℕ) (t : TypeIndex) (text : List ℕ) →
    IsNewIndex new_indices least t text → text ≡ [] → ⊥
index_some new_indices least t text i e =
    let long = integer_some (index_end t.is_signed) (2 ^ 32) text i.n i.is_text.is_text in
    let nothing : length text ≡ 0 = ap (λ (u : List ℕ). length u) e in
    omega (arith, long, nothing)

-- with the index, a type was named
named_some : (t : TypeIndex) (stack left : List Kind) (rest after : List ℕ) (tokens : List Token)
    (h : PassesType t stack left rest after) →
    type_names (tokens ++ (h.passed ++ token_of t h.text ∷ [])) ≡ []
    → ⊥
named_some t stack left rest after tokens h e =
    let last = back_empty (type_names tokens) (type_names (h.passed ++ token_of t h.text ∷ []))
    (sym (type_names_append tokens (h.passed ++ token_of t h.text ∷ [])) ∙ e) in
    one_some t.index (sym (passed_names h) ∙ last)

rename_on : (new_indices : NewIndices) (least : ℕ → ℕ) (start : List Kind) (bytes rest after : List ℕ)
    (stack left : List Kind) (out mid new text : List ℕ) (n : ℕ) (t : TypeIndex)
    → Renaming new_indices least start bytes rest stack out → PassesType t stack left rest after
    → n ≡ length rest - length after - t.length → mid ≡ out ++ take n rest
    → IsNewIndex new_indices least t text → new ≡ mid ++ text
    → (r : Renaming new_indices least start bytes after left new) × (type_names r.tokens ≡ [] → ⊥)
rename_on new_indices least start bytes rest after stack left out mid new text n t s h n-is mid-is i new-is =
    let last = token_of t h.text ∷ [] in
    let IsText = Becomes (type_maps new_indices) least in
    let passed = passed_bytes t stack left rest after n h n-is in
    let is : new ≡ out ++ (texts_of h.passed ++ text) = new-is
    ∙ ap (λ (u : List ℕ). u ++ text) (mid-is ∙ ap (λ (u : List ℕ). out ++ u) passed)
    ∙ append_assoc out (texts_of h.passed) text in (
      record {
        tokens = s.tokens ++ (h.passed ++ last);
        reads = reads_join s.reads h.reads;
        renamed = subst (λ (u : List ℕ). AreItems IsText u (s.tokens ++ (h.passed ++ last))) (sym is)
            (items_join IsText out (texts_of h.passed ++ text) s.tokens (h.passed ++ last) s.renamed
            (items_join IsText (texts_of h.passed) text h.passed last
            (all_stay new_indices least h.passed h.none)
            (one_item IsText text (token_of t h.text)
            (becomes_index new_indices least t.is_signed h.text text t.index i.n t.length i.mapped i.is_text
            h.long))));
      },
      named_some t stack left rest after s.tokens h,
    )

texts_stay : (new_indices : NewIndices) (widths : Widths) (kinds : List Kind) (text : List ℕ)
    (tokens : List Token) → AreTexts kinds text tokens → type_names tokens ≡ [] →
    RenamesTexts new_indices widths kinds text text []
texts_stay new_indices widths kinds text tokens are unnamed =
    record {
      naming = record { tokens = tokens; are = are; named = sym unnamed };
      renames = record {
        tokens = tokens;
        are = are;
        renamed =
            subst (λ (u : List ℕ). IsRenamed (type_maps new_indices) (least_width widths) tokens u)
            (sym (whole_text kinds text tokens [] are))
            (all_stay new_indices (least_width widths) tokens unnamed);
      };
    }

rename_ended : (new_indices : NewIndices) (widths : Widths) (start : List Kind) (bytes rest after : List ℕ)
    (stack left : List Kind) (out new : List ℕ) (n : ℕ)
    (s : Renaming new_indices (least_width widths) start bytes rest stack out)
    → (type_names s.tokens ≡ [] → ⊥) → PassesNone stack left rest after
    → n ≡ length rest - length after → new ≡ out ++ take n rest
    → ChangesPrefix (RenamesTexts new_indices widths start) bytes after new
rename_ended new_indices widths start bytes rest after stack left out new n s some h n-is new-is =
    let r = reads_join s.reads h.reads in
    let IsText = Becomes (type_maps new_indices) (least_width widths) in
    let long : length rest ≡ length h.reads.text + length after = ap (λ (u : List ℕ). length u) h.reads.parts
    ∙ length-append h.reads.text after in
    let taken : take n rest ≡ texts_of h.passed = ap (take n) h.reads.parts
    ∙ take_at h.reads.text after n (omega (arith, long, n-is))
    ∙ whole_text stack h.reads.text h.passed [] h.reads.runs in
    let is : new ≡ out ++ texts_of h.passed = new-is ∙ ap (λ (u : List ℕ). out ++ u) taken in
    record {
      text = r.text;
      parts = r.parts;
      changes = record {
        names = type_names (s.tokens ++ h.passed);
        becomes = record {
          naming = record { tokens = s.tokens ++ h.passed; are = r.runs; named = refl };
          renames = record {
            tokens = s.tokens ++ h.passed;
            are = r.runs;
            renamed = subst (λ (u : List ℕ). AreItems IsText u (s.tokens ++ h.passed)) (sym is)
                (items_join IsText out (texts_of h.passed) s.tokens h.passed s.renamed
                (all_stay new_indices (least_width widths) h.passed h.none));
          };
        };
        is_naming = λ e. some (prefix_empty (type_names s.tokens) (type_names h.passed)
            (sym (type_names_append s.tokens h.passed) ∙ e));
      };
    }

-- ---- what is refused

module _ {new_indices : NewIndices} {least : ℕ → ℕ} {start stack : List Kind} {bytes rest out : List ℕ}
    (s : Renaming new_indices least start bytes rest stack out) where
  pub rename_malformed : (place : ℕ) → IsRefused stack rest (scan.Malformed place) → BeginsNoText start bytes
  rename_malformed place h =
      let k = refused_behind (scan.Malformed place) s.reads h in
      λ text after parts tokens are. k text after tokens parts are

abbrev pub some_map : (ℕ → Option ℕ) → Option (ℕ → Option ℕ)
some_map m = Some m

pub same_map : (f m : ℕ → Option ℕ) → some_map f ≡ some_map m → f ≡ m
same_map f m e = cc

-- the type has a new index
abbrev HasNew : NewIndices → ℕ → Type 0
HasNew new_indices k = IsSome (new_index new_indices k)

is_known : (new_indices : NewIndices) (m : ℕ → Option ℕ) (k n : ℕ) →
    some_map (λ j. new_index new_indices j) ≡ some_map m → m k ≡ Some n → HasNew new_indices k
is_known new_indices m k n e h =
    ap is_some (ap (λ f. f k) (same_map (λ j. new_index new_indices j) m e) ∙ h)

abbrev pub some_number : ℕ → Option ℕ
some_number n = Some n

pub same_number : (j k : ℕ) → some_number j ≡ some_number k → j ≡ k
same_number j k e = cc

known_next : (P : ℕ → Type 0) (o : Option ℕ) (others : List ℕ) → ((k : ℕ) → o ≡ Some k → P k) →
    All P others → All P (names_of o ++ others)
known_next P (Some k) others f g = All-cons P k others (f k refl) g
known_next P None others f g = g

becomes_known : (new_indices : NewIndices) (least : ℕ → ℕ) (p : Token) (new : List ℕ) → View p →
    Becomes (type_maps new_indices) least new p → (k : ℕ) → type_name p ≡ Some k → HasNew new_indices k
becomes_known new_indices least _ _ (u32_type text j) (stays _ e) k h = absurd cc
becomes_known new_indices least _ _ (u32_type text j) (u32 s m _ new _ n e g t) k h =
    subst (λ i. HasNew new_indices i) (same_number j k h) (is_known new_indices m j n e g)
becomes_known new_indices least _ _ (s33_type text j) (stays _ e) k h = absurd cc
becomes_known new_indices least _ _ (s33_type text j) (s33 s m _ new _ n e g t) k h =
    subst (λ i. HasNew new_indices i) (same_number j k h) (is_known new_indices m j n e g)
becomes_known new_indices least _ new (other p unnamed maps) b k h = absurd cc

all_known : (new_indices : NewIndices) (least : ℕ → ℕ) (tokens : List Token) (new : List ℕ) →
    IsRenamed (type_maps new_indices) least tokens new →
    All (HasNew new_indices) (type_names tokens)
all_known new_indices least _ _ none = All-nil (HasNew new_indices)
all_known new_indices least _ _ (next text others p tokens h hs) =
    known_next (HasNew new_indices) (type_name p) (type_names tokens)
    (becomes_known new_indices least p text (view p) h) (all_known new_indices least tokens others hs)

module _ {new_indices : NewIndices} {least : ℕ → ℕ} {start stack left : List Kind}
    {bytes rest after out : List ℕ} {t : TypeIndex}
    (s : Renaming new_indices least start bytes rest stack out) (h : PassesType t stack left rest after) where
  pub names_unknown : (k : ℕ) → (k ≡ t.index) × (new_index new_indices k ≡ None) →
      NamesUnknown new_indices start bytes k
  names_unknown k u =
      let last = token_of t h.text ∷ [] in
      let r = reads_join s.reads h.reads in
      record {
        text = r.text;
        rest = after;
        parts = r.parts;
        tokens = s.tokens ++ (h.passed ++ last);
        left = left;
        runs = r.runs;
        known = type_names s.tokens;
        names = type_names_append s.tokens (h.passed ++ last)
            ∙ ap (λ (u : List ℕ). type_names s.tokens ++ u) (passed_names h ∙ ap (λ j. j ∷ []) (sym u.0));
        are_known = all_known new_indices least s.tokens out s.renamed;
        unknown = u.1;
      }

-- ---- the function

-- What is unwritten when the loop looks for the next index is what was not read. Where nothing is
-- written no type was named.
pub record IsWritten (new_indices : NewIndices) (least : ℕ → ℕ) (start : List Kind)
    (bytes rest unwritten : List ℕ) (stack : List Kind) (out : List ℕ) : Type 0 where
  pub so_far : Renaming new_indices least start bytes rest stack out
  pub here : unwritten ≡ rest
  pub bare : out ≡ [] → type_names so_far.tokens ≡ []
  pub named : (out ≡ [] → ⊥) → type_names so_far.tokens ≡ [] → ⊥

pub written_begun : (new_indices : NewIndices) (least : ℕ → ℕ) (start : List Kind) (bytes out : List ℕ) →
    out ≡ [] → IsWritten new_indices least start bytes bytes bytes start out
written_begun new_indices least start bytes out e =
    record {
      so_far = record {
        tokens = [];
        reads = none_read start bytes;
        renamed = subst (λ (u : List ℕ). IsRenamed (type_maps new_indices) least [] u) (sym e) none;
      };
      here = refl;
      bare = λ h. refl;
      named = λ some h. some e;
    }

module _ {new_indices : NewIndices} {least : ℕ → ℕ} {start stack left : List Kind}
    {bytes rest after unwritten out : List ℕ} {t : TypeIndex}
    (w : IsWritten new_indices least start bytes rest unwritten stack out)
    (h : PassesType t stack left rest after) where
  pub written_fits : length after + t.length ≤ length unwritten
  written_fits = let here = ap (λ (u : List ℕ). length u) w.here in omega (arith, h.fits, here)

  pub written_on : {mid new : List ℕ} → mid ≡ out ++ take (length unwritten - length after - t.length) unwritten
      → Appends (λ text. IsNewIndex new_indices least t text) mid new
      → IsWritten new_indices least start bytes after after left new
  written_on {mid = mid} {new = new} e a =
      let n : ℕ = length unwritten - length after - t.length in
      let r = rename_on new_indices least start bytes rest after stack left out mid new a.text n t w.so_far h
      (ap (λ (u : List ℕ). length u - length after - t.length) w.here)
      (e ∙ ap (λ (u : List ℕ). out ++ take n u) w.here) a.is_text a.parts in
      record {
        so_far = r.0;
        here = refl;
        bare = λ nothing. absurd (index_some new_indices least t a.text a.is_text
            (back_empty mid a.text (sym a.parts ∙ nothing)));
        named = λ some. r.1;
      }

module _ {new_indices : NewIndices} {start stack left : List Kind} {bytes rest after unwritten out : List ℕ} where
  pub written_stays : (widths : Widths) →
      IsWritten new_indices (least_width widths) start bytes rest unwritten stack out →
      PassesNone stack left rest after → out ≡ [] →
      KeepsPrefix (RenamesTexts new_indices widths start) bytes after
  written_stays widths w h e =
      let s = w.so_far in
      let r = reads_join s.reads h.reads in
      let unnamed : type_names (s.tokens ++ h.passed) ≡ [] = type_names_append s.tokens h.passed
      ∙ ap (λ (u : List ℕ). u ++ type_names h.passed) (w.bare e) ∙ h.none in
      record {
        text = r.text;
        parts = r.parts;
        stays = texts_stay new_indices widths start r.text (s.tokens ++ h.passed) r.runs unnamed;
      }

  pub written_ended : (widths : Widths) {new : List ℕ} →
      IsWritten new_indices (least_width widths) start bytes rest unwritten stack out → (out ≡ [] → ⊥) →
      PassesNone stack left rest after → new ≡ out ++ take (length unwritten - length after) unwritten →
      ChangesPrefix (RenamesTexts new_indices widths start) bytes after new
  written_ended widths {new = new} w some h e =
      let n : ℕ = length unwritten - length after in
      rename_ended new_indices widths start bytes rest after stack left out new n w.so_far (w.named some) h
      (ap (λ (u : List ℕ). length u - length after) w.here)
      (e ∙ ap (λ (u : List ℕ). out ++ take n u) w.here)

  -- what is left is no longer than the bytes
  pub written_shorter : {least : ℕ → ℕ} → IsWritten new_indices least start bytes rest unwritten stack out →
      PassesNone stack left rest after → length after ≤ length bytes
  written_shorter w h =
      let r = w.so_far.reads in
      let long : length bytes ≡ length r.text + length rest = ap (λ (u : List ℕ). length u) r.parts
      ∙ length-append r.text rest in
      omega (arith, long, h.fits)

pub is_malformed : (e : ScanError) (place : ℕ) → same_error e ≡ rename.Malformed place → e ≡ scan.Malformed place
is_malformed (scan.Malformed at) place h = ap scan.Malformed (same_place at place h)
  where
    same_place : (a b : ℕ) → rename.Malformed a ≡ rename.Malformed b → a ≡ b
    same_place a b e = cc
is_malformed scan.Memory place h = absurd cc

-- the error that a `?` passes on is the one that came
pub failure_is : {T E : Type 0} {x y : E} (r : Result T E) → IsErrAnd r (λ z. z ≡ x) → r ≡ Err y → x ≡ y
failure_is (Ok v) h e = absurd h
failure_is (Err z) h e = cc

pub error_came : {T U E : Type 0} {x y : E} (r : Result T E) → IsErrAnd r (λ z. z ≡ x) → r ≡ Err y →
    ◌≡◌ {A = Result U E} (Err x) (Err y)
error_came r h e = ap (λ z. Err z) (failure_is r h e)

-- ---- whole texts

pub none_whole : (kinds : List Kind) (bytes : List ℕ) → BeginsNoText kinds bytes → IsNoText kinds bytes
none_whole kinds bytes h = h bytes [] (sym (append-nil bytes))

-- where bytes are left behind a text, all of them are none
text_trailed : (kinds : List Kind) (bytes text rest names : List ℕ) → bytes ≡ text ++ rest →
    Names kinds text names → (rest ≡ [] → ⊥) → IsNoText kinds bytes
text_trailed kinds bytes text rest names parts n some tokens are =
    left_over kinds bytes rest names
    (record { text = text; tokens = n.tokens; parts = parts; are = n.are; named = n.named }) some
    (type_names tokens) (record { tokens = tokens; are = are; named = refl })

pub stays_trailed : (new_indices : NewIndices) (widths : Widths) (kinds : List Kind) (bytes rest : List ℕ) →
    (rest ≡ [] → ⊥) → KeepsPrefix (RenamesTexts new_indices widths kinds) bytes rest → IsNoText kinds bytes
stays_trailed new_indices widths kinds bytes rest some s =
    text_trailed kinds bytes s.text rest [] s.parts s.stays.naming some

pub changes_trailed : (new_indices : NewIndices) (widths : Widths) (kinds : List Kind)
    (bytes rest new : List ℕ) →
    (rest ≡ [] → ⊥) → ChangesPrefix (RenamesTexts new_indices widths kinds) bytes rest new →
    IsNoText kinds bytes
changes_trailed new_indices widths kinds bytes rest new some c =
    text_trailed kinds bytes c.text rest c.changes.names c.parts c.changes.becomes.naming some

-- ---- what is returned, or a copy

prefix_renamed : (new_indices : NewIndices) (widths : Widths) (kinds : List Kind) (bytes rest new : List ℕ) →
    ChangesPrefix (RenamesTexts new_indices widths kinds) bytes rest new →
    RenamesPrefix (type_maps new_indices) (least_width widths) kinds bytes rest new
prefix_renamed new_indices widths kinds bytes rest new c =
    record { text = c.text; parts = c.parts; renames = c.changes.becomes.renames }

prefix_copied : (new_indices : NewIndices) (widths : Widths) (kinds : List Kind) (bytes rest new : List ℕ) →
    KeepsPrefix (RenamesTexts new_indices widths kinds) bytes rest →
    new ≡ take (length bytes - length rest) bytes →
    RenamesPrefix (type_maps new_indices) (least_width widths) kinds bytes rest new
prefix_copied new_indices widths kinds bytes rest new s e =
    record {
      text = s.text;
      parts = s.parts;
      renames =
          subst (λ (u : List ℕ). Renames (type_maps new_indices) (least_width widths) kinds s.text u)
          (sym (e ∙ before bytes s.text rest s.parts)) s.stays.renames;
    }

-- what is new was returned, or a copy of the text
pub prefix_returned : {A : Type 0} (o : Option A) (items : A → List ℕ) (new_indices : NewIndices)
    (widths : Widths) (kinds : List Kind) (bytes rest out : List ℕ)
    → IfNone o (KeepsPrefix (RenamesTexts new_indices widths kinds) bytes rest)
    → IfSome o (λ x. ChangesPrefix (RenamesTexts new_indices widths kinds) bytes rest (items x))
    → IfSome o (λ x. out ≡ items x) → IfNone o (out ≡ take (length bytes - length rest) bytes)
    → RenamesPrefix (type_maps new_indices) (least_width widths) kinds bytes rest out
prefix_returned None items new_indices widths kinds bytes rest out same changes new copy =
    prefix_copied new_indices widths kinds bytes rest out same copy
prefix_returned (Some x) items new_indices widths kinds bytes rest out same changes new copy =
    prefix_renamed new_indices widths kinds bytes rest out
    (subst (λ (u : List ℕ). ChangesPrefix (RenamesTexts new_indices widths kinds) bytes rest u) (sym new)
    changes)
