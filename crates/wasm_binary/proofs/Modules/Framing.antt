-- The type section among the sections of a module.
use Rattle.std.proofs.Common.{◌≡◌, ℕ, ◌+◌, ◌-◌, ◌<◌, ◌≤◌, nat_eq, true, eqb-true, List, [], ◌∷◌, ◌++◌, length, Option, Some, None, Ok, refl, sym, ap, subst, ◌∙◌, arith, append_assoc, append-nil, length-append}
use Rattle.std.specs.Prelude.{MatchOption, IfSome, IfNone}
use Rattle.std.specs.List.{All}
use Rattle.std.proofs.lemmas.List.{map-append, nil_from_length}
use Rattle.std.proofs.lemmas.List.Elements.{All-append, All-cons, All-nil}
use Rattle.wasm_binary.specs.Leb128.{IsU32}
use Rattle.wasm_binary.specs.Grammar.{AreItems, none}
use Rattle.wasm_binary.specs.Modules.{Section, section, ids, IsSection, sized, AreInOrder, no_more, header, IsModule, framed, around, IsOther, IsTypeSectionAt, HasNoTypeSection}
use Rattle.wasm_binary.specs.Steps.Framing.{HasPassed, place_after, header_at, section_at}
use Rattle.wasm_binary.proofs.Lists.{one_item, joined}
use Rattle.wasm_binary.proofs.Modules.Passed.{none_passed, one_more}
use Rattle.wasm_binary.proofs.Modules.Readings.{section_sound}

-- ---- the type section among those that were read

pub record IsFound (texts : List ℕ) (before : List Section) (start stop : ℕ) : Type 0 where
  pub prefix : List ℕ
  pub size : List ℕ
  pub content : List ℕ
  pub back : List ℕ
  pub first : List Section
  pub second : List Section
  pub prefix_is : AreItems IsSection prefix first
  pub back_is : AreItems IsSection back second
  pub sized : IsU32 size (length content)
  pub parts : texts ≡ (prefix ++ 1 ∷ size) ++ (content ++ back)
  pub sections : before ≡ first ++ section 1 content ∷ second
  pub starts : start ≡ length ((header ++ prefix) ++ 1 ∷ size)
  pub stops : stop ≡ start + length content

abbrev pub Finds : {R : Type 0} → (R → ℕ) → (R → ℕ) → List ℕ → List Section → Option R → Type 0
Finds start stop texts before found =
    MatchOption found (All IsOther before) (λ r. IsFound texts before (start r) (stop r))

found_on : (texts text : List ℕ) (before : List Section) (s : Section) (start stop : ℕ) →
    IsSection text s → IsFound texts before start stop →
    IsFound (texts ++ text) (before ++ s ∷ []) start stop
found_on texts text before s start stop h f =
    record {
      prefix = f.prefix;
      size = f.size;
      content = f.content;
      back = f.back ++ text;
      first = f.first;
      second = f.second ++ s ∷ [];
      prefix_is = f.prefix_is;
      back_is = joined IsSection f.back text f.second (s ∷ []) f.back_is (one_item IsSection text s h);
      sized = f.sized;
      parts =
          ap (λ (u : List ℕ). u ++ text) f.parts ∙ append_assoc (f.prefix ++ 1 ∷ f.size) (f.content ++ f.back)
          text
          ∙ ap (λ (u : List ℕ). (f.prefix ++ 1 ∷ f.size) ++ u) (append_assoc f.content f.back text);
      sections = ap (λ (u : List Section). u ++ s ∷ []) f.sections
          ∙ append_assoc f.first (section 1 f.content ∷ f.second) (s ∷ []);
      starts = f.starts;
      stops = f.stops;
    }

finds_on : {R : Type 0} (start stop : R → ℕ) (texts text : List ℕ) (before : List Section)
    (s : Section) (found : Option R) → IsSection text s → (s.id ≡ 1 → ⊥) →
    Finds start stop texts before found →
    Finds start stop (texts ++ text) (before ++ s ∷ []) found
finds_on start stop texts text before s None h other f =
    All-append IsOther before (s ∷ []) f (All-cons IsOther s [] other (All-nil IsOther))
finds_on start stop texts text before s (Some r) h other f =
    found_on texts text before s (start r) (stop r) h f

found_here : (texts text content : List ℕ) (before : List Section) (s : Section) (start stop : ℕ) →
    AreItems IsSection texts before → IsSection text s → s.id ≡ 1 → s.content ≡ content
    → start ≡ length header + length texts + length text - length
    content → stop ≡ length header + length texts + length text →
    IsFound (texts ++ text) (before ++ s ∷ []) start stop
found_here texts _ content before _ start stop ts (sized id size inside h) is same starts stops
    =
    let long = length-append size inside in
    let inside-long : length inside ≡ length content = ap (λ (u : List ℕ). length u) same in
    let places = length-append (header ++ texts) (1 ∷ size) in
    record {
      prefix = texts;
      size = size;
      content = inside;
      back = [];
      first = before;
      second = [];
      prefix_is = ts;
      back_is = none;
      sized = h;
      parts =
          ap (λ k. texts ++ k ∷ (size ++ inside)) is ∙ sym (append_assoc texts (1 ∷ size) inside)
          ∙ ap (λ (u : List ℕ). (texts ++ 1 ∷ size) ++ u) (sym (append-nil inside));
      sections = ap (λ k. before ++ section k inside ∷ []) is;
      starts = omega (arith, starts, long, inside-long, places, length-append header texts);
      stops = omega (arith, starts, stops, long, inside-long);
    }

-- ---- after some sections

pub record State {R : Type 0} (start stop : R → ℕ) (bytes rest : List ℕ) (last : ℕ) (found : Option R) :
    Type 0 where
  pub passed : HasPassed bytes rest last
  pub finds : Finds start stop passed.texts passed.before found

pub begun : {R : Type 0} (start stop : R → ℕ) (bytes rest : List ℕ) → header_at bytes ≡ Ok (tt, rest) →
    State start stop bytes rest 0 None
begun start stop bytes rest e = record { passed = none_passed bytes rest e; finds = All-nil IsOther }

pub passes : {R : Type 0} (start stop : R → ℕ) (bytes rest after content : List ℕ) (last id : ℕ)
    (found : Option R) → State start stop bytes rest last found
    → section_at last rest ≡ Ok (section id content, after) → (id ≡ 1 → ⊥) →
    State start stop bytes after (place_after last id) found
passes start stop bytes rest after content last id found state e other =
    let p = state.passed in
    let t = section_sound last rest (section id content) after e in
    record {
      passed = one_more bytes rest after last (section id content) p t;
      finds = finds_on start stop p.texts t.text p.before (section id content) found t.is_text.0 other
          state.finds;
    }

pub meets : {R : Type 0} (start stop : R → ℕ) (bytes rest after content : List ℕ) (last id : ℕ)
    (found : Option R) (r : R) → State start stop bytes rest last found
    → section_at last rest ≡ Ok (section id content, after) → id ≡ 1 →
    start r ≡ length bytes - length after - length content → stop r ≡ length bytes - length after
    → State start stop bytes after (place_after last id) (Some r)
meets start stop bytes rest after content last id found r state e is starts stops =
    let p = state.passed in
    let s = section id content in
    let t = section_sound last rest s after e in
    let long = ap (λ (u : List ℕ). length u) p.whole ∙ length-append header (p.texts ++ rest) in
    let rest-long = ap (λ (u : List ℕ). length u) t.parts ∙ length-append t.text after in
    let texts-long = length-append p.texts rest in
    record {
      passed = one_more bytes rest after last s p t;
      finds = found_here p.texts t.text content p.before s (start r) (stop r) p.are t.is_text.0 is refl
          (omega (arith, starts, long, rest-long, texts-long))
          (omega (arith, stops, long, rest-long, texts-long));
    }

-- how long what is left is
pub record IsShorter (bytes rest after content : List ℕ) : Type 0 where
  pub smaller : length after < length rest
  pub end : length after ≤ length bytes
  pub start : length content ≤ length bytes - length after

section_long : (text : List ℕ) (s : Section) → IsSection text s → length s.content < length text
section_long _ _ (sized id size content h) = omega (arith, length-append size content)

pub shorter : (bytes rest after content : List ℕ) (last id : ℕ) → HasPassed bytes rest last
    → section_at last rest ≡ Ok (section id content, after) → IsShorter bytes rest after content
shorter bytes rest after content last id p e =
    let t = section_sound last rest (section id content) after e in
    let more = section_long t.text (section id content) t.is_text.0 in
    let rest-long = ap (λ (u : List ℕ). length u) t.parts ∙ length-append t.text after in
    let long = ap (λ (u : List ℕ). length u) p.whole ∙ length-append header (p.texts ++ rest) in
    let texts-long = length-append p.texts rest in
    record {
      smaller = omega (arith, rest-long, more);
      end = omega (arith, long, texts-long, rest-long);
      start = omega (arith, long, texts-long, rest-long, more);
    }

-- ---- after all sections

is_found : (bytes texts : List ℕ) (before : List Section) (start stop : ℕ) → bytes ≡ header ++ texts →
    AreInOrder 0 (ids before) → IsFound texts before start stop → IsTypeSectionAt bytes start stop
is_found bytes texts before start stop is order f =
    let ids-are : ids before ≡ ids f.first ++ 1 ∷ ids f.second = ap (λ (u : List Section). ids u) f.sections
    ∙ map-append (λ (k : Section). k.id) f.first (section 1 f.content ∷ f.second) in
    record {
      prefix = header ++ f.prefix;
      size = f.size;
      content = f.content;
      back = f.back;
      around_it = around f.prefix f.back f.first f.second f.prefix_is f.back_is
          (subst (λ (u : List ℕ). AreInOrder 0 u) ids-are order);
      sized = f.sized;
      parts = is ∙ ap (λ (u : List ℕ). header ++ u) f.parts;
      starts = f.starts;
      stops = f.stops;
    }

-- what was found in all of them
abbrev Answers : {R : Type 0} → (R → ℕ) → (R → ℕ) → List ℕ → Option R → Type 0
Answers start stop bytes found =
    MatchOption found (HasNoTypeSection bytes) (λ r. IsTypeSectionAt bytes (start r) (stop r))

answers : {R : Type 0} (start stop : R → ℕ) (bytes texts : List ℕ) (before : List Section) (found : Option R)
    → bytes ≡ header ++ texts → AreItems IsSection texts before → AreInOrder 0 (ids before) →
    Finds start stop texts before found → Answers start stop bytes found
answers start stop bytes texts before None is are order finds =
    record {
      sections = before;
      is_module = subst (λ (u : List ℕ). IsModule u before) (sym is) (framed texts before are order);
      others = finds;
    }
answers start stop bytes texts before (Some r) is are order finds =
    is_found bytes texts before (start r) (stop r) is order finds

pub all_found : {R : Type 0} (start stop : R → ℕ) (bytes rest : List ℕ) (last : ℕ) (found : Option R)
    → State start stop bytes rest last found → true ≡ nat_eq (length rest) 0 →
    Answers start stop bytes found
all_found start stop bytes rest last found state e =
    let p = state.passed in
    let texts-are : p.texts ++ rest ≡ p.texts =
    ap (λ (u : List ℕ). p.texts ++ u) (nil_from_length rest (eqb-true _ _ (sym e))) ∙ append-nil p.texts in
    answers start stop bytes p.texts p.before found (p.whole ∙ ap (λ (u : List ℕ). header ++ u) texts-are)
    p.are
    (subst (λ (u : List ℕ). AreInOrder 0 u) (append-nil (ids p.before)) (p.joins [] (no_more last)))
    state.finds

pub some_if : {A : Type 0} (o : Option A) (P : Type 0) (Q : A → Type 0) → MatchOption o P Q → IfSome o Q
some_if None P Q h = tt
some_if (Some x) P Q h = h

pub none_if : {A : Type 0} (o : Option A) (P : Type 0) (Q : A → Type 0) → MatchOption o P Q → IfNone o P
none_if None P Q h = h
none_if (Some x) P Q h = tt
