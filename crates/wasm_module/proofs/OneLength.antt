-- Texts, contents of sections and modules have one list of lengths.
use Rattle.std.proofs.Common.{◌≡◌, ℕ, ◌+◌, ◌-◌, List, [], ◌∷◌, ◌++◌, length, drop, Option, Some, None, refl, sym, ap, subst, ◌∙◌, arith}
use Rattle.std.specs.List.{All, Contains, concat}
use Rattle.std.proofs.lemmas.List.Elements.{All-contains, All-head, All-tail, Contains-append_right}
use Rattle.wasm_binary.specs.Modules.{header}
use Rattle.wasm_binary.specs.Steps.Reading.{u32_at}
use Rattle.wasm_module.specs.declared.kind.Kind.{Kind}
use Rattle.wasm_module.specs.Bodies.{body}
use Rattle.wasm_module.specs.Contents.{section_kinds}
use Rattle.wasm_module.specs.Customs.{HasSections}
use Rattle.wasm_module.specs.Immediates.{Token, type_name, AreTexts}
use Rattle.wasm_module.specs.SyntaxTrees.{SyntaxTree, still, index, joined, mapped, types}
use Rattle.wasm_module.specs.SyntaxTrees.SyntaxTree.{sized as sized_tree}
use Rattle.wasm_module.specs.Lengths.{length_of, type_lengths, HasTypeLengths, HasBodyLengths, sized, HasCodeLengths, counted, HasContentLengths, texts, code, nameless, HaveLengths, IsNot, HasContent, present, absent, HasLengthsInCode, in_code, HasLengthsToCodeEnd, to_code_end}
use Rattle.wasm_module.specs.Lengths.HaveLengths.{none as no_sections, next as next_section}
use Rattle.wasm_module.specs.Lengths.HasLengthsInCode.{no_code as none_in_code}
use Rattle.wasm_module.specs.Lengths.HasLengthsToCodeEnd.{no_code as none_to_code_end}
use Rattle.wasm_module.specs.NamedTypes.{code_id}
use Rattle.wasm_module.specs.Sections.{PlacedSection, placed, ArePlaced}
use Rattle.wasm_module.specs.Sections.ArePlaced.{none as nothing, next as placed_next}
use Rattle.wasm_module.proofs.Tokens.{View, u32_type, s33_type, other, view}
use Rattle.wasm_module.proofs.TreesOfTexts.{token_tree, tokens_tree, unnamed_tree, one_text}
use Rattle.wasm_module.proofs.SameTexts.{taken, same_sizes, named, same_kinds, no_texts_of_code}
use Rattle.wasm_module.proofs.TextItems.{items_once}
use Rattle.wasm_module.proofs.NumberTexts.{cancel}
use Rattle.wasm_module.proofs.SizedContents.{number_read, same_number, same_content}

-- ---- texts

-- how many bytes the indices of types in a tree of tokens have
abbrev lengths_in : SyntaxTree → List ℕ
lengths_in (still text) = []
lengths_in (index end text k) = length text ∷ []
lengths_in (sized_tree size p) = []
lengths_in (joined p q) = lengths_in p ++ lengths_in q
lengths_in (mapped count bytes entries) = []
lengths_in (types size content) = []

token_lengths : (p : Token) → View p → lengths_in (token_tree p) ≡ length_of p (type_name p)
token_lengths _ (u32_type text k) = refl
token_lengths _ (s33_type text k) = refl
token_lengths _ (other p unnamed maps) =
    ap lengths_in (unnamed_tree p unnamed) ∙ sym (ap (length_of p) unnamed)

tokens_lengths : (ps : List Token) → lengths_in (tokens_tree ps) ≡ type_lengths ps
tokens_lengths [] = refl
tokens_lengths (p ∷ ps) =
    ap (λ (u : List ℕ). u ++ lengths_in (tokens_tree ps)) (token_lengths p (view p))
    ∙ ap (λ (u : List ℕ). length_of p (type_name p) ++ u) (tokens_lengths ps)

tokens_once : (kinds : List Kind) (t : List ℕ) (ps : List Token) (t' : List ℕ) (qs : List Token)
    (r r' : List ℕ) → AreTexts kinds t ps → AreTexts kinds t' qs → t ++ r ≡ t' ++ r' →
    type_lengths ps ≡ type_lengths qs
tokens_once kinds t ps t' qs r r' h g e =
    sym (tokens_lengths ps) ∙ ap lengths_in (one_text kinds t ps t' qs r r' h g e) ∙ tokens_lengths qs

text_once : (kinds : List Kind) (text other a b : List ℕ) → text ≡ other → HasTypeLengths kinds text a →
    HasTypeLengths kinds other b → a ≡ b
text_once kinds text its a b e h g =
    h.long
    ∙ tokens_once kinds text h.tokens its g.tokens [] [] h.are g.are (ap (λ (u : List ℕ). u ++ []) e)
    ∙ sym g.long

-- ---- contents of sections

body_once : (text other a b r s : List ℕ) → HasBodyLengths text a → HasBodyLengths other b →
    text ++ r ≡ other ++ s → (a ≡ b) × (r ≡ s)
body_once _ _ _ _ r s (sized size content lengths h l) (sized size' content' lengths' h' l') e =
    let c = same_content ((size ++ content) ++ r) content r content' s (taken size content r _ h refl)
    (taken size' content' s _ h' e) in
    let prefix : size ≡ size' = same_sizes size content r size' content' s c.0 c.1 e in (
      ap (λ (x : List ℕ). length x ∷ lengths) prefix
          ∙ ap (λ (x : List ℕ). length size' ∷ x) (text_once body content content' lengths lengths' c.0 l l'),
      c.1,
    )

code_once : (content other a b : List ℕ) → content ≡ other → HasCodeLengths content a →
    HasCodeLengths other b → a ≡ b
code_once _ _ _ _ e (counted count prefix xs h hs) (counted count' prefix' ys h' hs') =
    let n = same_number (u32_at (count ++ prefix)) (length xs) (length ys) prefix prefix'
    (number_read (count ++ prefix) count (length xs) prefix h refl)
    (number_read (count ++ prefix) count' (length ys) prefix' h' e) in
    ap (λ (x : List (List ℕ)). concat x)
    (items_once HasBodyLengths body_once prefix xs prefix' ys [] [] hs hs' (ap (λ (x : List ℕ). x ++ []) n.1)
    n.0)

pub content_once : (id : ℕ) (content a b : List ℕ) → HasContentLengths id content a →
    HasContentLengths id content b → a ≡ b
content_once id _ _ _ (texts kinds content a e h) (texts kinds' _ b e' g) =
    text_once kinds content content a b refl h
    (subst (λ (u : List Kind). HasTypeLengths u content b)
    (same_kinds (section_kinds id) kinds' kinds e' e) g)
content_once id _ _ _ (texts kinds content a e h) (code _ b is g) = absurd (no_texts_of_code id kinds e is)
content_once id _ _ _ (texts kinds content a e h) (nameless _ lacking fails) = absurd cc
content_once id _ _ _ (code content a is h) (texts kinds _ b e g) = absurd (no_texts_of_code id kinds e is)
content_once id _ _ _ (code content a is h) (code _ b is' g) = code_once content content a b refl h g
content_once id _ _ _ (code content a is h) (nameless _ lacking fails) = absurd (fails is)
content_once id _ _ _ (nameless content lacking fails) (texts kinds _ b e g) = absurd cc
content_once id _ _ _ (nameless content lacking fails) (code _ b is g) = absurd (fails is)
content_once id _ _ _ (nameless content lacking fails) (nameless _ missing different) = refl

-- ---- the sections of a module

placed_once : (offset : ℕ) (a b : List ℕ) (xs ys : List PlacedSection) → ArePlaced offset a xs →
    ArePlaced offset b ys → a ≡ b → xs ≡ ys
placed_once offset _ _ _ _ (nothing _) (nothing _) e = refl
placed_once offset _ _ _ _ (nothing _) (placed_next _ id size content others sections h hs) e = absurd cc
placed_once offset _ _ _ _ (placed_next _ id size content others sections h hs) (nothing _) e = absurd cc
placed_once offset _ _ _ _ (placed_next _ id size content others sections h hs)
    (placed_next _ id' size' content' others' sections' h' hs') e =
    let first : id ≡ id' = cc in
    let bytes : size ++ (content ++ others) ≡ size' ++ (content' ++ others') = cc in
    let c = same_content (size ++ (content ++ others)) content others content' others'
    (named size content others _ h refl) (named size' content' others' _ h' bytes) in
    let prefix : size ≡ size' = cancel size size' (content ++ others) (content' ++ others') bytes
    (ap (λ (x : List ℕ). x ++ others) c.0 ∙ ap (λ (x : List ℕ). content' ++ x) c.1) in
    let behind : ArePlaced (offset + 1 + length size + length content) others' sections' =
    subst (λ k. ArePlaced k others' sections')
    (sym (ap (λ (x : List ℕ). offset + 1 + length x + length content)
    prefix ∙ ap (λ (x : List ℕ). offset + 1 + length size' + length x) c.0)) hs' in
    ap (λ k. placed offset (offset + 1 + length size) k content ∷ sections) first
    ∙ ap (λ (x : List ℕ). placed offset (offset + 1 + length x) id' content ∷ sections) prefix
    ∙ ap (λ (x : List ℕ). placed offset (offset + 1 + length size') id' x ∷ sections) c.0
    ∙ ap (λ (x : List PlacedSection). placed offset (offset + 1 + length size') id' content' ∷ x)
    (placed_once (offset + 1 + length size + length content) others others' sections sections' hs behind c.1)

pub sections_once : (bytes : List ℕ) (a b : List PlacedSection) → HasSections bytes a → HasSections bytes b →
    a ≡ b
sections_once bytes a b h g =
    placed_once (length header) (drop (length header) bytes) (drop (length header) bytes) a b h.places
    g.places refl

-- ---- the first of an id

first_once : (id : ℕ) (xs : List PlacedSection) (s : PlacedSection) (ys us : List PlacedSection)
    (t : PlacedSection) (vs : List PlacedSection) → All (IsNot id) xs → s.framed.id ≡ id → All (IsNot id) us
    → t.framed.id ≡ id → xs ++ s ∷ ys ≡ us ++ t ∷ vs → (xs ≡ us) × (s ≡ t)
first_once id [] s ys [] t vs h is g it e = (refl, cc)
first_once id [] s ys (u ∷ us) t vs h is g it e =
    let same : s ≡ u = cc in
    absurd (All-head (IsNot id) u us g (ap (λ (k : PlacedSection). k.framed.id) (sym same) ∙ is))
first_once id (x ∷ xs) s ys [] t vs h is g it e =
    let same : x ≡ t = cc in
    absurd (All-head (IsNot id) x xs h (ap (λ (k : PlacedSection). k.framed.id) same ∙ it))
first_once id (x ∷ xs) s ys (u ∷ us) t vs h is g it e =
    let same : x ≡ u = cc in
    let later : xs ++ s ∷ ys ≡ us ++ t ∷ vs = cc in
    let o = first_once id xs s ys us t vs (All-tail (IsNot id) x xs h) is (All-tail (IsNot id) u us g) it
    later in
    (ap (λ k. k ∷ xs) same ∙ ap (λ (k : List PlacedSection). u ∷ k) o.0, o.1)

-- none is of the id, but one is
none_is : (id : ℕ) (all before : List PlacedSection) (s : PlacedSection) (behind : List PlacedSection) →
    All (IsNot id) all → s.framed.id ≡ id → all ≡ before ++ s ∷ behind → ⊥
none_is id all before s behind h is e =
    let there : Contains (before ++ s ∷ behind) s = Contains-append_right before (s ∷ behind) s
    (0, omega arith, refl) in
    All-contains (IsNot id) (before ++ s ∷ behind) s (subst (All (IsNot id)) e h) there is

pub found_once : (id : ℕ) (bytes : List ℕ) (a b : Option (List ℕ)) → HasContent id bytes a →
    HasContent id bytes b → a ≡ b
found_once id bytes _ _ (present before behind s h apart is) (present before' behind' s' h' apart' is') =
    let o = first_once id before s behind before' s' behind' apart is apart' is'
    (sections_once bytes (before ++ s ∷ behind) (before' ++ s' ∷ behind') h h') in
    ap (λ (k : PlacedSection). Some k.framed.content) o.1
found_once id bytes _ _ (present before behind s h apart is) (absent sections g all) =
    absurd (none_is id sections before s behind all is
    (sections_once bytes sections (before ++ s ∷ behind) g h))
found_once id bytes _ _ (absent sections g all) (present before behind s h apart is) =
    absurd (none_is id sections before s behind all is
    (sections_once bytes sections (before ++ s ∷ behind) g h))
found_once id bytes _ _ (absent sections g all) (absent others h apart) = refl

-- ---- lengths in modules

pub in_code_once : (bytes a b : List ℕ) → HasLengthsInCode bytes a → HasLengthsInCode bytes b → a ≡ b
in_code_once bytes _ _ (in_code content a h l) (in_code content' b h' l') =
    let found : Some content ≡ Some content' = found_once code_id bytes (Some content) (Some content') h h' in
    let same : content ≡ content' = cc in
    content_once code_id content' a b (subst (λ (u : List ℕ). HasContentLengths code_id u a) same l) l'
in_code_once bytes _ _ (in_code content a h l) (none_in_code g) =
    let found : Some content ≡ None = found_once code_id bytes (Some content) None h g in absurd cc
in_code_once bytes _ _ (none_in_code g) (in_code content b h l) =
    let found : Some content ≡ None = found_once code_id bytes (Some content) None h g in absurd cc
in_code_once bytes _ _ (none_in_code g) (none_in_code h) = refl

lengths_once : (sections : List PlacedSection) (a b : List ℕ) → HaveLengths sections a →
    HaveLengths sections b → a ≡ b
lengths_once _ _ _ no_sections no_sections = refl
lengths_once _ _ _ (next_section s sections a xs h hs) (next_section _ _ b ys g gs) =
    ap (λ (u : List ℕ). (s.content_offset - s.offset) ∷ length s.framed.content ∷ (u ++ xs))
    (content_once s.framed.id s.framed.content a b h g)
    ∙ ap (λ (u : List ℕ). (s.content_offset - s.offset) ∷ length s.framed.content ∷ (b ++ u))
    (lengths_once sections xs ys hs gs)

pub to_code_end_once : (bytes a b : List ℕ) → HasLengthsToCodeEnd bytes a → HasLengthsToCodeEnd bytes b →
    a ≡ b
to_code_end_once bytes _ _ (to_code_end before behind s a h apart is l)
    (to_code_end before' behind' s' b h' apart' is' l') =
    let o = first_once code_id before s behind before' s' behind' apart is apart' is'
    (sections_once bytes (before ++ s ∷ behind) (before' ++ s' ∷ behind') h h') in
    let same : before ++ s ∷ [] ≡ before' ++ s' ∷ [] = ap (λ (k : List PlacedSection). k ++ s ∷ []) o.0
    ∙ ap (λ (k : PlacedSection). before' ++ k ∷ []) o.1 in
    lengths_once (before' ++ s' ∷ []) a b (subst (λ (k : List PlacedSection). HaveLengths k a) same l) l'
to_code_end_once bytes _ _ (to_code_end before behind s a h apart is l) (none_to_code_end sections g all) =
    absurd (none_is code_id sections before s behind all is
    (sections_once bytes sections (before ++ s ∷ behind) g h))
to_code_end_once bytes _ _ (none_to_code_end sections g all) (to_code_end before behind s a h apart is l) =
    absurd (none_is code_id sections before s behind all is
    (sections_once bytes sections (before ++ s ∷ behind) g h))
to_code_end_once bytes _ _ (none_to_code_end sections g all) (none_to_code_end others h apart) = refl
