-- What a byte, a line feed and the end do to what a line reader knows.
use Rattle.std.proofs.Common.{◌≡◌, ℕ, ◌+◌, ◌-◌, ◌*◌, ◌^◌, ◌≤◌, ◌==◌, Bool, true, false, List, [], ◌∷◌, ◌++◌, map, filter, Option, None, Some, ◌<◌, length, take, drop, min, inl, inr, refl, sym, ◌∙◌, ap, subst, arith, append_assoc, append-nil}
use Rattle.std.specs.Prelude.{is_some, IfSome}
use Rattle.std.specs.Io.KnownBytes.{Consumes, IsAtEnd}
use Rattle.std.proofs.KnownBytes.{Consumes-whole, Consumes-trans}
use Rattle.std.proofs.lemmas.Bool.{false≢true}
use Rattle.std.proofs.lemmas.List.{length-append, length-take, map-append, take-append-drop, take-append-le}
use Rattle.std.proofs.lemmas.List.Elements.{All-nil, All-append, filter-append}
use Rattle.std.proofs.lemmas.List.Splits.{slice_split_none, slice_split_at, length-slice_split}
use Rattle.std.proofs.lemmas.List.Sums.{count_by-le-length}
use Rattle.std.proofs.Math.Nat.{min-eq_left, min-le_right}
use Rattle.std.proofs.Math.Seq.{take-append_seam, take-append-add}
use Rattle.std.specs.List.{slice_split}
use Rattle.walrus_text.specs.Words.{has_items, words_of, lines_of, lines_with_words, without_empty_last, all_lines, first_lines}
use Rattle.walrus_text.specs.Errors.{IsFirstBadLine, IsFirstThatFails}
use Rattle.walrus_text.specs.Steps.Words.{words_if_any}
use Rattle.walrus_text.specs.Text.{BeginsSection, IsSectionText}
use Rattle.walrus_text.specs.Steps.Builder.{HasBuilderIndices, builder_lines}
use Rattle.walrus_text.specs.declared.error.BadLine.{BadLine}
use Rattle.walrus_text.specs.Steps.Bytes.{Counts, HasBadLine, HasChecked, HasReadBytes, HasReadText, IsOneLine}
use Rattle.walrus_text.specs.declared.line_reader.LineReader.{LineReader}
use Rattle.walrus_text.specs.declared.section_builder.SectionBuilder.{SectionBuilder}
use Rattle.walrus_text.proofs.Gathering.Prefixes.{builder_begins}

abbrev is_feed : ℕ → Bool
is_feed b = b == 10

abbrev parts : List ℕ → List (List ℕ)
parts text = slice_split is_feed text

words_append :
    (ls ms : List (List ℕ)) → lines_with_words (ls ++ ms) ≡ lines_with_words ls ++ lines_with_words ms
words_append ls ms = ap (filter has_items) (map-append words_of ls ms)
    ∙ filter-append has_items (map words_of ls) (map words_of ms)

pub lines_at_feed :
    (line rest : List ℕ) → IsOneLine line →
    lines_of (line ++ 10 ∷ rest) ≡ words_if_any line ++ lines_of rest
lines_at_feed line rest one = ap lines_with_words (slice_split_at is_feed line 10 rest one refl)
    ∙ words_append (line ∷ []) (parts rest)

without_empty : (ls : List (List ℕ)) → without_empty_last (ls ++ [] ∷ []) ≡ ls
without_empty [] = refl
without_empty (l ∷ []) = refl
without_empty (l ∷ k ∷ ls) = ap (λ r. l ∷ r) (without_empty (k ∷ ls))

with_full :
    (ls : List (List ℕ)) (line : List ℕ) → 0 < length line →
    without_empty_last (ls ++ line ∷ []) ≡ ls ++ line ∷ []
with_full [] [] some = absurd (omega (arith, some))
with_full [] (b ∷ line) some = refl
with_full (l ∷ []) line some = ap (λ r. l ∷ r) (with_full [] line some)
with_full (l ∷ k ∷ ls) line some = ap (λ r. l ∷ r) (with_full (k ∷ ls) line some)

no_longer : (ls : List (List ℕ)) → length (without_empty_last ls) ≤ length ls
no_longer [] = omega arith
no_longer ([] ∷ []) = omega arith
no_longer ((b ∷ l) ∷ []) = omega arith
no_longer (l ∷ k ∷ ls) = let h = no_longer (k ∷ ls) in omega (arith, h)

same_words : (ls : List (List ℕ)) → lines_with_words (without_empty_last ls) ≡ lines_with_words ls
same_words [] = refl
same_words ([] ∷ []) = refl
same_words ((b ∷ l) ∷ []) = refl
same_words (l ∷ k ∷ ls) = words_append (l ∷ []) (without_empty_last (k ∷ ls))
    ∙ (ap (λ r. words_if_any l ++ r) (same_words (k ∷ ls)) ∙ sym (words_append (l ∷ []) (k ∷ ls)))

-- the words of all lines are those of the text
pub words_of_all : (text : List ℕ) → lines_with_words (all_lines text) ≡ lines_of text
words_of_all text = same_words (parts text)

few_lines : (text : List ℕ) → length (all_lines text) ≤ length text + 1
few_lines text =
    let shorter = no_longer (parts text) in
    let counted = length-slice_split is_feed text in
    let feeds = count_by-le-length is_feed text in
    omega (arith, shorter, counted, feeds)

-- one more line
pub counts_more :
    (old new number : ℕ) → new ≡ min (old + 1) (2 ^ 64 - 1) → Counts old number →
    Counts new (number + 1)
counts_more old new number more counts few =
    let same : old ≡ number = counts (omega (arith, few)) in
    more ∙ (min-eq_left (omega (arith, few, same)) ∙ ap (λ n. n + 1) same)

-- before the first byte
pub nothing_read :
    (reader : LineReader) → reader.line.items ≡ [] → reader.lines ≡ 0 → reader.bad ≡ None →
    builder_lines reader.section ≡ [] → HasBuilderIndices reader.section → HasReadBytes reader []
nothing_read reader none zero good no_lines fits = record {
  fits = fits;
  lines = [];
  split = λ rest. ap (λ l. parts (l ++ rest)) (sym none);
  one_line = subst IsOneLine (sym none) (All-nil (λ (b : ℕ). (b == 10) ≡ false));
  counted = λ _. zero;
  checked = subst (λ b. HasChecked reader.section b []) (sym good) (sym no_lines);
}

-- more bytes of the line
pub part_read :
    (old new : LineReader) (part bytes : List ℕ) → IsOneLine part →
    new.line.items ≡ old.line.items ++ part → new.lines ≡ old.lines → new.section ≡ old.section →
    new.bad ≡ old.bad → HasReadBytes old bytes → HasReadBytes new (bytes ++ part)
part_read old new part bytes one pushed lines section bad h = record {
  fits = subst HasBuilderIndices (sym section) h.fits;
  lines = h.lines;
  split = λ rest.
      ap parts (append_assoc bytes part rest)
      ∙ (h.split (part ++ rest) ∙ ap (λ l. h.lines ++ parts l)
      (sym (append_assoc old.line.items part rest) ∙ ap (λ l. l ++ rest) (sym pushed)));
  one_line = subst IsOneLine (sym pushed) (All-append (λ (b : ℕ). (b == 10) ≡ false) old.line.items part
      h.one_line one);
  counted = λ few. lines ∙ h.counted few;
  checked = subst (λ s. HasChecked s new.bad h.lines) (sym section)
      (subst (λ b. HasChecked old.section b h.lines) (sym bad) h.checked);
}

-- the end of the line
pub line_read :
    (old new : LineReader) (count : ℕ) (bytes : List ℕ) → new.line.items ≡ [] → new.lines ≡ count →
    count ≡ min (old.lines + 1) (2 ^ 64 - 1) →
    ((ls : List (List ℕ)) → Counts count (length ls + 1) → HasBuilderIndices old.section →
    HasChecked old.section old.bad ls →
    HasChecked new.section new.bad (ls ++ old.line.items ∷ [])) →
    (HasBuilderIndices old.section → HasBuilderIndices new.section) → HasReadBytes old bytes →
    HasReadBytes new (bytes ++ 10 ∷ [])
line_read old new count bytes none same more check fits h =
    let line = old.line.items in
    let counted : Counts count (length h.lines + 1) =
    counts_more old.lines count (length h.lines) more h.counted in record {
      fits = fits h.fits;
      lines = h.lines ++ line ∷ [];
      split = λ rest.
          ap parts (append_assoc bytes (10 ∷ []) rest)
          ∙ (h.split (10 ∷ rest)
          ∙ (ap (λ l. h.lines ++ l) (slice_split_at is_feed line 10 rest h.one_line refl)
          ∙ (sym (append_assoc h.lines (line ∷ []) (parts rest))
          ∙ ap (λ l. (h.lines ++ line ∷ []) ++ parts (l ++ rest)) (sym none))));
      one_line = subst IsOneLine (sym none) (All-nil (λ (b : ℕ). (b == 10) ≡ false));
      counted = subst (Counts new.lines) (sym (length-append h.lines (line ∷ []))) (λ few. same ∙ counted few);
      checked = check h.lines counted h.fits h.checked;
    }

-- the lines of the bytes, where the last one has not ended
last_line : (reader : LineReader) (bytes : List ℕ) (h : HasReadBytes reader bytes) →
    parts bytes ≡ h.lines ++ reader.line.items ∷ []
last_line reader bytes h = ap parts (sym (append-nil bytes))
    ∙ (h.split [] ∙ ap (λ l. h.lines ++ l) (ap parts (append-nil reader.line.items)
    ∙ slice_split_none is_feed reader.line.items h.one_line))

-- where no line is left open, all lines are checked
pub all_read :
    (reader : LineReader) (bytes : List ℕ) → reader.line.items ≡ [] → HasReadBytes reader bytes →
    HasReadText reader bytes
all_read reader bytes none h =
    let whole : h.lines ≡ all_lines bytes = sym (ap without_empty_last (last_line reader bytes h
    ∙ ap (λ l. h.lines ++ l ∷ []) none) ∙ without_empty h.lines) in record {
      fits = h.fits;
      counted = subst (λ ls. Counts reader.lines (length ls)) whole h.counted;
      checked = subst (HasChecked reader.section reader.bad) whole h.checked;
    }

-- the last line feed may lack
pub last_feed :
    (old new : LineReader) (bytes : List ℕ) → 0 < length old.line.items → HasReadBytes old bytes →
    HasReadText new (bytes ++ 10 ∷ []) → HasReadText new bytes
last_feed old new bytes some h k =
    let line = old.line.items in
    let with_feed : all_lines (bytes ++ 10 ∷ []) ≡ h.lines ++ line ∷ [] =
    ap without_empty_last (h.split (10 ∷ [])
    ∙ (ap (λ l. h.lines ++ l) (slice_split_at is_feed line 10 [] h.one_line refl)
    ∙ sym (append_assoc h.lines (line ∷ []) ([] ∷ [])))) ∙ without_empty (h.lines ++ line ∷ []) in
    let without : all_lines bytes ≡ h.lines ++ line ∷ [] =
    ap without_empty_last (last_line old bytes h) ∙ with_full h.lines line some in
    let same : all_lines (bytes ++ 10 ∷ []) ≡ all_lines bytes = with_feed ∙ sym without in record {
      fits = k.fits;
      counted = subst (λ ls. Counts new.lines (length ls)) same k.counted;
      checked = subst (HasChecked new.section new.bad) same k.checked;
    }

-- a line after a bad one
pub still_bad :
    (section : SectionBuilder) (bad : Option BadLine) → is_some bad ≡ true →
    (lines : List (List ℕ)) (line : List ℕ) → HasChecked section bad lines →
    HasChecked section bad (lines ++ line ∷ [])
still_bad section None some lines line h = absurd (false≢true some)
still_bad section (Some bad) some lines line h =
    let more = line ∷ [] in
    let longer = length-append lines more in
    let within = h.within in
    let same : (n : ℕ) → n ≤ h.number → take n lines ≡ take n (lines ++ more) = λ n at.
    sym (take-append-le n lines more (omega (arith, at, within))) in record {
      number = h.number;
      counted = h.counted;
      within = omega (arith, within, longer);
      before = subst (λ ls. BeginsSection (lines_with_words ls)) (same (h.number - 1) (omega arith)) h.before;
      fails = subst (λ ls. ¬ BeginsSection (lines_with_words ls)) (same h.number (omega arith)) h.fails;
    }

-- the first bad line
pub newly_bad :
    (section : SectionBuilder) (bad : Option BadLine) → is_some bad ≡ false → (new : BadLine)
    (line : List ℕ) → ¬ BeginsSection (builder_lines section ++ words_if_any line) →
    (lines : List (List ℕ)) → Counts new.line (length lines + 1) → HasBuilderIndices section →
    HasChecked section bad lines → HasBadLine new (lines ++ line ∷ [])
newly_bad section None none new line fails lines counted fits e =
    let more = line ∷ [] in
    let longer = length-append lines more in
    let before : lines_with_words (take (length lines + 1 - 1) (lines ++ more)) ≡ builder_lines section =
    ap (λ n. lines_with_words (take n (lines ++ more))) (omega arith)
    ∙ (ap lines_with_words (take-append_seam lines more) ∙ e) in
    let through : lines_with_words (take (length lines + 1) (lines ++ more))
    ≡ builder_lines section ++ words_if_any line =
    ap lines_with_words (take-append-add lines more 1)
    ∙ (words_append lines more ∙ ap (λ ls. ls ++ words_if_any line) e) in record {
      number = length lines + 1;
      counted = counted;
      within = omega (arith, longer);
      before = subst BeginsSection (sym before) (builder_begins section fits);
      fails = subst (λ ls. ¬ BeginsSection ls) (sym through) fails;
    }
newly_bad section (Some n) none new line fails lines counted fits e = absurd (false≢true (sym none))

-- the bad line of a text that was read
pub first_bad :
    (bad : BadLine) (text : List ℕ) → length text < 2 ^ 63 → HasBadLine bad (all_lines text) →
    IsFirstBadLine text bad.line
first_bad bad text short h =
    let few = few_lines text in
    let within = h.within in
    let same : bad.line ≡ h.number = h.counted (omega (arith, short, few, within)) in
    inl (subst (IsFirstThatFails text) (sym same) (h.before, h.fails))

-- the line after the last one, where a group has no end
pub lacks_end :
    (old line : ℕ) (section : SectionBuilder) (text : List ℕ) → length text < 2 ^ 63 →
    line ≡ min (old + 1) (2 ^ 64 - 1) → Counts old (length (all_lines text)) →
    HasBuilderIndices section → lines_with_words (all_lines text) ≡ builder_lines section →
    ¬ IsSectionText (builder_lines section) → IsFirstBadLine text line
lacks_end old line section text short next counted fits built unended =
    let few = few_lines text in
    let number : line ≡ length (all_lines text) + 1 =
    counts_more old line (length (all_lines text)) next counted (omega (arith, short, few)) in
    let lines : builder_lines section ≡ lines_of text = sym built ∙ words_of_all text in
    inr (
      number,
      (
        subst BeginsSection lines (builder_begins section fits),
        subst (λ ls. ¬ IsSectionText ls) lines unended,
      ),
    )

no_text : (text : List ℕ) (line : ℕ) → IsFirstBadLine text line → ¬ IsSectionText (lines_of text)
no_text text line (inl (before, fails)) k =
    let lines = all_lines text in
    let whole : lines_of text ≡ first_lines line text ++ lines_with_words (drop line lines) =
    sym (words_of_all text) ∙ (ap lines_with_words (sym (take-append-drop line lines))
    ∙ words_append (take line lines) (drop line lines)) in
    fails (lines_with_words (drop line lines), subst IsSectionText whole k)
no_text text line (inr (number, (begins, unended))) k = unended k

-- a text with a bad line is that of no section
pub no_text_if_bad :
    (text : List ℕ) (line : Option ℕ) → IfSome line (IsFirstBadLine text) →
    IfSome line (λ n. ¬ IsSectionText (lines_of text))
no_text_if_bad text None h = tt
no_text_if_bad text (Some line) h = no_text text line h

-- one more read of at most 8192 bytes
pub block_read :
    (bytes buf : List ℕ) (count turn : ℕ) → length bytes ≤ turn * 8192 → length buf ≡ 8192 →
    length (bytes ++ take count buf) ≤ (turn + 1) * 8192
block_read bytes buf count turn few room =
    let longer = length-append bytes (take count buf) in
    let taken = length-take count buf in
    let block = min-le_right count (length buf) in
    omega (arith, few, room, longer, taken, block)

-- what a reader gave, where it is at its end
pub at_end :
    (start mid end : Option (List ℕ)) (bytes buf : List ℕ) (count : ℕ) (P : List ℕ → Type 0) →
    Consumes start mid bytes →
    Consumes mid end (take count buf) × (count ≡ 0 → 0 < length buf → IsAtEnd end) → count ≡ 0 →
    0 < length buf → P bytes → IfSome start P
at_end start mid end bytes buf count P before read none room told =
    let same : bytes ++ take count buf ≡ bytes = ap (λ n. bytes ++ take n buf) none ∙ append-nil bytes in
    Consumes-whole start end bytes P (subst (Consumes start end) same
    (Consumes-trans start mid end bytes (take count buf) before read.0)) (read.1 none room) told
