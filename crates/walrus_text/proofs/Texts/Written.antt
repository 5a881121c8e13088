-- What is written is read back: the words of a section stand where spaces and line feeds are.
use Rattle.std.proofs.Common.{◌≡◌, ℕ, ◌<◌, ◌^◌, Bool, true, false, List, [], ◌∷◌, ◌++◌, map, filter, refl, sym, ◌∙◌, ap, arith, append_assoc, append-nil}
use Rattle.std.specs.Prelude.{◌==◌, ◌&&◌, nat_lt, Option, Some, None, codes, decimal, if◌then◌else◌}
use Rattle.std.specs.List.{flat_map, AllByRecursion}
use Rattle.std.specs.Str.Parse.{AllDigits}
use Rattle.std.proofs.lemmas.Bool.{and_parts, and_from, ltb-true, lt-ltb, ne_eqb}
use Rattle.std.proofs.lemmas.Fmt.{decimal_is_IsNumeral}
use Rattle.std.proofs.lemmas.List.Elements.{All-from_recursion}
use Rattle.std.proofs.lemmas.List.Splits.{slice_split_none}
use Rattle.std.proofs.lemmas.Str.Parse.{digit_from_value}
use Rattle.walrus_ty.specs.declared.ty.value.AbstractHeapType.{AbstractHeapType}
use Rattle.walrus_ty.specs.declared.ty.value.AbstractHeapType.TheVariants as abstract
use Rattle.walrus_ty.specs.declared.ty.value.Heap.{Heap}
use Rattle.walrus_ty.specs.declared.ty.value.Heap.TheVariants as heap
use Rattle.walrus_ty.specs.declared.ty.value.Val.{Val}
use Rattle.walrus_ty.specs.declared.ty.value.Val.TheVariants as val
use Rattle.walrus_ty.specs.declared.ty.value.Storage.{Storage}
use Rattle.walrus_ty.specs.declared.ty.value.Storage.TheVariants as storage
use Rattle.walrus_ty.specs.declared.ty.value.Field.{Field}
use Rattle.walrus_ty.specs.declared.records.CompAt.{CompAt}
use Rattle.walrus_ty.specs.declared.records.CompAt.TheVariants as comp
use Rattle.walrus_ty.specs.declared.records.EntryAt.{EntryAt}
use Rattle.walrus_ty.specs.declared.records.GroupAt.{GroupAt}
use Rattle.walrus_ty.specs.declared.records.GroupAt.TheVariants as group
use Rattle.walrus_ty.specs.Value.{heap_names, val_names, storage_names, field_names}
use Rattle.walrus_ty.specs.Definition.{names_of, composite_names, supertype_names}
use Rattle.walrus_ty.specs.Records.{comp_composite, entry_definition}
use Rattle.walrus_text.specs.Words.{has_items, words_of, lines_of, space_before_each, line_text, text_of}
use Rattle.walrus_text.specs.Text.{AreIndices, HasSectionIndices, IsTextOf, name_word, heap_word, val_word, storage_word, field_word, composite_words, open_words, supertype_words, entry_words, section_lines}
use Rattle.walrus_text.proofs.Basics.{all_left, all_right, all_both}
use Rattle.walrus_text.proofs.Lexing.Spacing.{words_at_space}
use Rattle.walrus_text.proofs.Gathering.Bytes.{lines_at_feed}

-- ---- words: bytes past the space, at least one

abbrev is_printed : List ℕ → Bool
is_printed [] = true
is_printed (b ∷ bs) = nat_lt 32 b && is_printed bs

abbrev is_word : List ℕ → Bool
is_word word = has_items word && is_printed word

abbrev are_words : List (List ℕ) → Bool
are_words [] = true
are_words (w ∷ ws) = is_word w && are_words ws

abbrev are_lines : List (List (List ℕ)) → Bool
are_lines [] = true
are_lines (ws ∷ lines) = (has_items ws && are_words ws) && are_lines lines

words-both :
    (ws vs : List (List ℕ)) → are_words ws ≡ true → are_words vs ≡ true → are_words (ws ++ vs) ≡ true
words-both [] vs h k = k
words-both (w ∷ ws) vs h k =
    let parts = and_parts (is_word w) (are_words ws) h in
    and_from (is_word w) (are_words (ws ++ vs)) parts.0 (words-both ws vs parts.1 k)

lines-both :
    (ls ms : List (List (List ℕ))) → are_lines ls ≡ true → are_lines ms ≡ true →
    are_lines (ls ++ ms) ≡ true
lines-both [] ms h k = k
lines-both (l ∷ ls) ms h k =
    let parts = and_parts (has_items l && are_words l) (are_lines ls) h in
    and_from (has_items l && are_words l) (are_lines (ls ++ ms)) parts.0 (lines-both ls ms parts.1 k)

words-each :
    {X : Type 0} (word : X → List ℕ) (names : X → List ℕ) →
    ((x : X) → AreIndices (names x) → is_word (word x) ≡ true) → (xs : List X) →
    AreIndices (flat_map names xs) → are_words (map word xs) ≡ true
words-each word names each [] fits = refl
words-each word names each (x ∷ xs) fits =
    and_from (is_word (word x)) (are_words (map word xs))
    (each x (all_left (λ i. i < 2 ^ 32) (names x) (flat_map names xs) fits))
    (words-each word names each xs (all_right (λ i. i < 2 ^ 32) (names x) (flat_map names xs) fits))

-- ---- the words of a section are such words

digits_are_printed : (ds : List ℕ) → AllDigits 10 ds → is_printed ds ≡ true
digits_are_printed [] h = refl
digits_are_printed (c ∷ cs) h =
    let digit = digit_from_value c h.0 in
    and_from (nat_lt 32 c) (is_printed cs) (lt-ltb 32 c (omega (arith, digit.0))) (digits_are_printed cs h.1)

number_is_printed : (k : ℕ) → k < 2 ^ 32 → is_printed (decimal k) ≡ true
number_is_printed k small = digits_are_printed (decimal k) (decimal_is_IsNumeral k (omega (arith, small))).0.1

name_is_printed : (a : AbstractHeapType) → is_printed (name_word a) ≡ true
name_is_printed abstract.Func = refl
name_is_printed v = refl

heap_is_printed : (h : Heap ℕ) → AreIndices (heap_names h) → is_printed (heap_word h) ≡ true
heap_is_printed (heap.Abstract a) fits = name_is_printed a
heap_is_printed (heap.Concrete k) fits = number_is_printed k fits.0
heap_is_printed (heap.Exact k) fits = number_is_printed k fits.0

reference_is_word :
    (nullable : Bool) (h : Heap ℕ) → AreIndices (heap_names h) →
    is_word ((if nullable then codes "null:" else codes "ref:") ++ heap_word h) ≡ true
reference_is_word true h fits = heap_is_printed h fits
reference_is_word false h fits = heap_is_printed h fits

val_is_word : (v : Val ℕ) → AreIndices (val_names v) → is_word (val_word v) ≡ true
val_is_word (val.Ref r) fits = reference_is_word r.nullable r.heap_type fits
val_is_word v fits = refl

storage_is_word : (s : Storage ℕ) → AreIndices (storage_names s) → is_word (storage_word s) ≡ true
storage_is_word storage.I8 fits = refl
storage_is_word storage.I16 fits = refl
storage_is_word (storage.Val v) fits = val_is_word v fits

field_parts_are_word :
    (mutable : Bool) (s : Storage ℕ) → AreIndices (storage_names s) →
    is_word ((if mutable then codes "mut:" else []) ++ storage_word s) ≡ true
field_parts_are_word true s fits = (and_parts (has_items (storage_word s)) (is_printed (storage_word s))
    (storage_is_word s fits)).1
field_parts_are_word false s fits = storage_is_word s fits

field_is_word : (f : Field ℕ) → AreIndices (field_names f) → is_word (field_word f) ≡ true
field_is_word f fits = field_parts_are_word f.mutable f.element_type fits

composite_is_words :
    (c : CompAt) → AreIndices (composite_names (comp_composite c)) →
    are_words (composite_words c) ≡ true
composite_is_words (comp.Function ps rs) fits =
    words-both (map val_word ps) (codes "->" ∷ map val_word rs)
    (words-each val_word val_names val_is_word ps
    (all_left (λ i. i < 2 ^ 32) (flat_map val_names ps) (flat_map val_names rs) fits))
    (words-each val_word val_names val_is_word rs
    (all_right (λ i. i < 2 ^ 32) (flat_map val_names ps) (flat_map val_names rs) fits))
composite_is_words (comp.Struct fs) fits = words-each field_word field_names field_is_word fs fits
composite_is_words (comp.Array f) fits = and_from (is_word (field_word f)) true (field_is_word f fits) refl

subtype_is_words :
    (s : Option ℕ) (c : CompAt) → AreIndices (composite_names (comp_composite c)) →
    AreIndices (supertype_names s) → are_words (supertype_words s ++ composite_words c) ≡ true
subtype_is_words None c fits small = composite_is_words c fits
subtype_is_words (Some k) c fits small =
    and_from (is_printed (decimal k)) (are_words (composite_words c)) (number_is_printed k small.0)
    (composite_is_words c fits)

entry_parts_are_words :
    (b : Bool) (ws : List (List ℕ)) → are_words ws ≡ true → are_words (open_words b ++ ws) ≡ true
entry_parts_are_words true ws h = h
entry_parts_are_words false ws h = h

has_words : (b : Bool) (s : Option ℕ) (c : CompAt) →
    has_items (open_words b ++ (supertype_words s ++ composite_words c)) ≡ true
has_words false s c = refl
has_words true (Some k) c = refl
has_words true None (comp.Function ps rs) = refl
has_words true None (comp.Struct fs) = refl
has_words true None (comp.Array f) = refl

entry_is_line :
    (e : EntryAt) → AreIndices (names_of (entry_definition e)) →
    (has_items (entry_words e) && are_words (entry_words e)) ≡ true
entry_is_line e fits =
    and_from (has_items (entry_words e)) (are_words (entry_words e)) (has_words e.is_final e.supertype e.comp)
    (entry_parts_are_words e.is_final (supertype_words e.supertype ++ composite_words e.comp)
    (subtype_is_words e.supertype e.comp
    (all_left (λ i. i < 2 ^ 32) (composite_names (comp_composite e.comp)) (supertype_names e.supertype) fits)
    (all_right (λ i. i < 2 ^ 32) (composite_names (comp_composite e.comp)) (supertype_names e.supertype)
    fits)))

abbrev Fits : EntryAt → Type 0
Fits e = AreIndices (names_of (entry_definition e))

entries_are_lines : (es : List EntryAt) → AllByRecursion Fits es → are_lines (map entry_words es) ≡ true
entries_are_lines [] fits = refl
entries_are_lines (e ∷ es) fits =
    and_from (has_items (entry_words e) && are_words (entry_words e)) (are_lines (map entry_words es))
    (entry_is_line e fits.0) (entries_are_lines es fits.1)

section_is_lines : (groups : List GroupAt) → HasSectionIndices groups →
    are_lines (section_lines groups) ≡ true
section_is_lines [] fits = refl
section_is_lines (group.Single e ∷ groups) fits =
    and_from (has_items (entry_words e) && are_words (entry_words e)) (are_lines (section_lines groups))
    (entry_is_line e fits.0) (section_is_lines groups fits.1)
section_is_lines (group.Rec es ∷ groups) fits =
    lines-both (map entry_words es ++ (codes "end" ∷ []) ∷ []) (section_lines groups)
    (lines-both (map entry_words es) ((codes "end" ∷ []) ∷ []) (entries_are_lines es fits.0) refl)
    (section_is_lines groups fits.1)

-- ---- such lines are read back

abbrev IsNo : ℕ → ℕ → Type 0
IsNo divider b = (b == divider) ≡ false

printed-no :
    (divider : ℕ) → divider < 33 → (bs : List ℕ) → is_printed bs ≡ true →
    AllByRecursion (IsNo divider) bs
printed-no divider low [] h = tt
printed-no divider low (b ∷ bs) h =
    let parts = and_parts (nat_lt 32 b) (is_printed bs) h in
    (ne_eqb b divider (λ e. omega (arith, e, low, ltb-true 32 b parts.0)), printed-no divider low bs parts.1)

word_alone : (w : List ℕ) → is_word w ≡ true → words_of w ≡ w ∷ []
word_alone [] h = absurd cc
word_alone (b ∷ w) h =
    ap (filter has_items) (slice_split_none (λ c. c == 32) (b ∷ w)
    (All-from_recursion (IsNo 32) (b ∷ w) (printed-no 32 (omega arith) (b ∷ w) h)))

words-spaced :
    (ws : List (List ℕ)) (l : List ℕ) → are_words ws ≡ true →
    words_of (l ++ space_before_each ws) ≡ words_of l ++ ws
words-spaced [] l h = ap words_of (append-nil l) ∙ sym (append-nil (words_of l))
words-spaced (w ∷ ws) l h =
    let parts = and_parts (is_word w) (are_words ws) h in
    words_at_space l (w ++ space_before_each ws)
    ∙ ap (λ (vs : List (List ℕ)). words_of l ++ vs) (words-spaced ws w parts.1
    ∙ ap (λ (vs : List (List ℕ)). vs ++ ws) (word_alone w parts.0))

line_back : (ws : List (List ℕ)) → are_words ws ≡ true → words_of (line_text ws) ≡ ws
line_back [] h = refl
line_back (w ∷ ws) h =
    let parts = and_parts (is_word w) (are_words ws) h in
    words-spaced ws w parts.1 ∙ ap (λ (vs : List (List ℕ)). vs ++ ws) (word_alone w parts.0)

word_printed : (w : List ℕ) → is_word w ≡ true → is_printed w ≡ true
word_printed w h = (and_parts (has_items w) (is_printed w) h).1

spaced-one_line : (ws : List (List ℕ)) → are_words ws ≡ true → AllByRecursion (IsNo 10) (space_before_each ws)
spaced-one_line [] h = tt
spaced-one_line (w ∷ ws) h =
    let parts = and_parts (is_word w) (are_words ws) h in (
      refl,
      all_both (IsNo 10) w (space_before_each ws)
          (printed-no 10 (omega arith) w (word_printed w parts.0)) (spaced-one_line ws parts.1),
    )

line-one_line : (ws : List (List ℕ)) → are_words ws ≡ true → AllByRecursion (IsNo 10) (line_text ws)
line-one_line [] h = tt
line-one_line (w ∷ ws) h =
    let parts = and_parts (is_word w) (are_words ws) h in
    all_both (IsNo 10) w (space_before_each ws) (printed-no 10 (omega arith) w (word_printed w parts.0))
    (spaced-one_line ws parts.1)

some_words : (ws : List (List ℕ)) → has_items ws ≡ true → filter has_items (ws ∷ []) ≡ ws ∷ []
some_words [] h = absurd cc
some_words (w ∷ ws) h = refl

lines_back : (lines : List (List (List ℕ))) → are_lines lines ≡ true → lines_of (text_of lines) ≡ lines
lines_back [] h = refl
lines_back (ws ∷ lines) h =
    let parts = and_parts (has_items ws && are_words ws) (are_lines lines) h in
    let line = and_parts (has_items ws) (are_words ws) parts.0 in
    ap lines_of (append_assoc (line_text ws) (10 ∷ []) (text_of lines))
    ∙ (lines_at_feed (line_text ws) (text_of lines)
    (All-from_recursion (IsNo 10) (line_text ws) (line-one_line ws line.1))
    ∙ (ap (λ (vs : List (List ℕ)). filter has_items (vs ∷ []) ++ lines_of (text_of lines))
    (line_back ws line.1)
    ∙ (ap (λ (ls : List (List (List ℕ))). ls ++ lines_of (text_of lines)) (some_words ws line.0)
    ∙ ap (λ (ls : List (List (List ℕ))). ws ∷ ls) (lines_back lines parts.1))))

pub section_back :
    (groups : List GroupAt) → HasSectionIndices groups → IsTextOf (text_of (section_lines groups)) groups
section_back groups fits = record {
  fits = fits;
  lines =
      lines_back (section_lines groups) (section_is_lines groups fits);
}
