-- Spaces and line feeds that do not count.
use Rattle.std.proofs.Common.{◌≡◌, ℕ, Bool, true, false, List, [], ◌∷◌, ◌++◌, map, filter, refl, sym, ◌∙◌, ap, subst, append_assoc, append-nil}
use Rattle.std.specs.Prelude.{◌==◌}
use Rattle.std.specs.List.{slice_split, onto_first}
use Rattle.std.proofs.lemmas.Bool.{eqb-true}
use Rattle.std.proofs.lemmas.List.Splits.{slice_split-cons_yes, slice_split-cons_no}
use Rattle.walrus_text.specs.Words.{has_items, words_of, lines_of, space_before_each, text_of}
use Rattle.walrus_text.specs.Spacing.{ShortensTo, as_it_is, space_by_space, space_after_feed, space_before_feed, feed_by_feed, between_line_feeds, IsSameButForSpace}

abbrev Lines : Type 0
Lines = List (List (List ℕ))

abbrev is_feed : ℕ → Bool
is_feed b = b == 10

abbrev is_space : ℕ → Bool
is_space b = b == 32

abbrev first_part : List (List ℕ) → List ℕ
first_part [] = []
first_part (l ∷ ls) = l

abbrev other_parts : List (List ℕ) → List (List ℕ)
other_parts [] = []
other_parts (l ∷ ls) = ls

first-onto : (c : ℕ) (ps : List (List ℕ)) → first_part (onto_first c ps) ≡ c ∷ first_part ps
first-onto c [] = refl
first-onto c (l ∷ ls) = refl

others-onto : (c : ℕ) (ps : List (List ℕ)) → other_parts (onto_first c ps) ≡ other_parts ps
others-onto c [] = refl
others-onto c (l ∷ ls) = refl

-- the first word of a line, empty where the line begins with a space, and the words after it
abbrev first_word : List ℕ → List ℕ
first_word l = first_part (slice_split is_space l)

abbrev other_words : List ℕ → List (List ℕ)
other_words l = filter has_items (other_parts (slice_split is_space l))

words_from_parts :
    (ps : List (List ℕ)) → filter has_items ps ≡
    filter has_items (first_part ps ∷ []) ++ filter has_items (other_parts ps)
words_from_parts [] = refl
words_from_parts ([] ∷ ls) = refl
words_from_parts ((b ∷ l) ∷ ls) = refl

words_by_first : (l : List ℕ) → words_of l ≡ filter has_items (first_word l ∷ []) ++ other_words l
words_by_first l = words_from_parts (slice_split is_space l)

first_word-space : (c : ℕ) (l : List ℕ) → (c == 32) ≡ true → first_word (c ∷ l) ≡ []
first_word-space c l e = ap first_part (slice_split-cons_yes is_space c l e)

other_words-space : (c : ℕ) (l : List ℕ) → (c == 32) ≡ true → other_words (c ∷ l) ≡ words_of l
other_words-space c l e = ap (λ ps. filter has_items (other_parts ps)) (slice_split-cons_yes is_space c l e)

first_word-byte : (c : ℕ) (l : List ℕ) → (c == 32) ≡ false → first_word (c ∷ l) ≡ c ∷ first_word l
first_word-byte c l e = ap first_part (slice_split-cons_no is_space c l e)
    ∙ first-onto c (slice_split is_space l)

other_words-byte : (c : ℕ) (l : List ℕ) → (c == 32) ≡ false → other_words (c ∷ l) ≡ other_words l
other_words-byte c l e = ap (λ ps. filter has_items (other_parts ps)) (slice_split-cons_no is_space c l e)
    ∙ ap (filter has_items) (others-onto c (slice_split is_space l))

words-byte :
    (c : ℕ) (l : List ℕ) → (c == 32) ≡ false → words_of (c ∷ l) ≡ (c ∷ first_word l) ∷ other_words l
words-byte c l e =
    words_by_first (c ∷ l) ∙ (ap (λ w. filter has_items (w ∷ []) ++ other_words (c ∷ l))
    (first_word-byte c l e) ∙ ap (λ ws. (c ∷ first_word l) ∷ ws) (other_words-byte c l e))

-- a space divides the words
record AtSpace (l r : List ℕ) : Type 0 where
  first : first_word (l ++ 32 ∷ r) ≡ first_word l
  others : other_words (l ++ 32 ∷ r) ≡ other_words l ++ words_of r

at_space : (l r : List ℕ) → AtSpace l r
at_space [] r = record { first = refl; others = refl }
at_space (c ∷ l) r = by_test (c == 32) refl (at_space l r) where
  by_test : (t : Bool) → (c == 32) ≡ t → AtSpace l r → AtSpace (c ∷ l) r
  by_test true e h = record {
    first = first_word-space c (l ++ 32 ∷ r) e ∙ sym (first_word-space c l e);
    others =
        other_words-space c (l ++ 32 ∷ r) e ∙ (words_by_first (l ++ 32 ∷ r)
        ∙ (ap (λ w. filter has_items (w ∷ []) ++ other_words (l ++ 32 ∷ r)) h.first
        ∙ (ap (λ ws. filter has_items (first_word l ∷ []) ++ ws) h.others
        ∙ (sym (append_assoc (filter has_items (first_word l ∷ [])) (other_words l) (words_of r))
        ∙ ap (λ ws. ws ++ words_of r) (sym (words_by_first l) ∙ sym (other_words-space c l e))))));
  }
  by_test false e h = record {
    first = first_word-byte c (l ++ 32 ∷ r) e ∙ (ap (λ w. c ∷ w) h.first ∙ sym (first_word-byte c l e));
    others = other_words-byte c (l ++ 32 ∷ r) e
        ∙ (h.others ∙ ap (λ ws. ws ++ words_of r) (sym (other_words-byte c l e)));
  }

pub words_at_space : (l r : List ℕ) → words_of (l ++ 32 ∷ r) ≡ words_of l ++ words_of r
words_at_space l r =
    let h = at_space l r in
    words_by_first (l ++ 32 ∷ r) ∙ (ap (λ w. filter has_items (w ∷ []) ++ other_words (l ++ 32 ∷ r)) h.first
    ∙ (ap (λ ws. filter has_items (first_word l ∷ []) ++ ws) h.others
    ∙ (sym (append_assoc (filter has_items (first_word l ∷ [])) (other_words l) (words_of r))
    ∙ ap (λ ws. ws ++ words_of r) (sym (words_by_first l)))))

-- the first line of a text, and the lines of words after it
abbrev first_line : List ℕ → List ℕ
first_line t = first_part (slice_split is_feed t)

abbrev other_lines : List ℕ → Lines
other_lines t = filter has_items (map words_of (other_parts (slice_split is_feed t)))

some_lines :
    (ws : List (List ℕ)) (ls : Lines) →
    filter has_items (ws ∷ ls) ≡ filter has_items (ws ∷ []) ++ filter has_items ls
some_lines [] ls = refl
some_lines (w ∷ ws) ls = refl

lines_from_parts :
    (ps : List (List ℕ)) → filter has_items (map words_of ps) ≡
    filter has_items (words_of (first_part ps) ∷ []) ++
    filter has_items (map words_of (other_parts ps))
lines_from_parts [] = refl
lines_from_parts (l ∷ ls) = some_lines (words_of l) (map words_of ls)

lines_by_first :
    (t : List ℕ) → lines_of t ≡ filter has_items (words_of (first_line t) ∷ []) ++ other_lines t
lines_by_first t = lines_from_parts (slice_split is_feed t)

first_line-feed : (c : ℕ) (t : List ℕ) → (c == 10) ≡ true → first_line (c ∷ t) ≡ []
first_line-feed c t e = ap first_part (slice_split-cons_yes is_feed c t e)

other_lines-feed : (c : ℕ) (t : List ℕ) → (c == 10) ≡ true → other_lines (c ∷ t) ≡ lines_of t
other_lines-feed c t e = ap (λ ps. filter has_items (map words_of (other_parts ps)))
    (slice_split-cons_yes is_feed c t e)

first_line-byte : (c : ℕ) (t : List ℕ) → (c == 10) ≡ false → first_line (c ∷ t) ≡ c ∷ first_line t
first_line-byte c t e = ap first_part (slice_split-cons_no is_feed c t e)
    ∙ first-onto c (slice_split is_feed t)

other_lines-byte : (c : ℕ) (t : List ℕ) → (c == 10) ≡ false → other_lines (c ∷ t) ≡ other_lines t
other_lines-byte c t e = ap (λ ps. filter has_items (map words_of (other_parts ps)))
    (slice_split-cons_no is_feed c t e) ∙ ap (λ ps. filter has_items (map words_of ps))
    (others-onto c (slice_split is_feed t))

-- a byte of a word begins the first word of the first line
lines-byte :
    (c : ℕ) (t : List ℕ) → (c == 10) ≡ false → (c == 32) ≡ false →
    lines_of (c ∷ t) ≡
    ((c ∷ first_word (first_line t)) ∷ other_words (first_line t)) ∷ other_lines t
lines-byte c t nf ns =
    let l = first_line t in
    let ws : words_of (first_line (c ∷ t)) ≡ (c ∷ first_word l) ∷ other_words l =
    ap words_of (first_line-byte c t nf) ∙ words-byte c l ns in
    lines_by_first (c ∷ t) ∙ (ap (λ x. filter has_items (x ∷ []) ++ other_lines (c ∷ t)) ws
    ∙ ap (λ ls. ((c ∷ first_word l) ∷ other_words l) ∷ ls) (other_lines-byte c t nf))

pub lines-first_byte :
    (c : ℕ) (t : List ℕ) → (c == 10) ≡ false → (c == 32) ≡ false →
    (w : List ℕ) × (ws : List (List ℕ)) × (ls : List (List (List ℕ))) ×
    (lines_of (c ∷ t) ≡ ((c ∷ w) ∷ ws) ∷ ls)
lines-first_byte c t nf ns =
    (first_word (first_line t), other_words (first_line t), other_lines t, lines-byte c t nf ns)

-- behind any text, the two give the same lines of words
record IsAlike (t u : List ℕ) : Type 0 where
  first : (p : List ℕ) → words_of (p ++ first_line t) ≡ words_of (p ++ first_line u)
  others : other_lines t ≡ other_lines u

alike_lines : (t u : List ℕ) → IsAlike t u → lines_of t ≡ lines_of u
alike_lines t u h =
    lines_by_first t ∙ (ap (λ ws. filter has_items (ws ∷ []) ++ other_lines t) (h.first [])
    ∙ (ap (λ ls. filter has_items (words_of (first_line u) ∷ []) ++ ls) h.others
    ∙ sym (lines_by_first u)))

alike_cons : (c : ℕ) (t u : List ℕ) → IsAlike t u → IsAlike (c ∷ t) (c ∷ u)
alike_cons c t u h = by_test (c == 10) refl where
  by_test : (b : Bool) → (c == 10) ≡ b → IsAlike (c ∷ t) (c ∷ u)
  by_test true e = record {
    first = λ p. ap (λ l. words_of (p ++ l)) (first_line-feed c t e ∙ sym (first_line-feed c u e));
    others = other_lines-feed c t e ∙ (alike_lines t u h ∙ sym (other_lines-feed c u e));
  }
  by_test false e = record {
    first = λ p.
        ap (λ l. words_of (p ++ l)) (first_line-byte c t e)
        ∙ (ap words_of (sym (append_assoc p (c ∷ []) (first_line t)))
        ∙ (h.first (p ++ c ∷ []) ∙ (ap words_of (append_assoc p (c ∷ []) (first_line u))
        ∙ ap (λ l. words_of (p ++ l)) (sym (first_line-byte c u e)))));
    others = other_lines-byte c t e ∙ (h.others ∙ sym (other_lines-byte c u e));
  }

same_lines : (a t u : List ℕ) → IsAlike t u → lines_of (a ++ t) ≡ lines_of (a ++ u)
same_lines a t u h = alike_lines (a ++ t) (a ++ u) (behind a) where
  behind : (a : List ℕ) → IsAlike (a ++ t) (a ++ u)
  behind [] = h
  behind (c ∷ a) = alike_cons c (a ++ t) (a ++ u) (behind a)

words_after_spaces : (p l : List ℕ) → words_of (p ++ 32 ∷ 32 ∷ l) ≡ words_of (p ++ 32 ∷ l)
words_after_spaces p l = words_at_space p (32 ∷ l) ∙ sym (words_at_space p l)

space_alike : (b : List ℕ) → IsAlike (32 ∷ 32 ∷ b) (32 ∷ b)
space_alike b = record {
  first = λ p.
      ap (λ l. words_of (p ++ l)) (first_line-byte 32 (32 ∷ b) refl
      ∙ ap (λ l. 32 ∷ l) (first_line-byte 32 b refl))
      ∙ (words_after_spaces p (first_line b) ∙ ap (λ l. words_of (p ++ l))
      (sym (first_line-byte 32 b refl)));
  others = other_lines-byte 32 (32 ∷ b) refl;
}

lines-space : (b : List ℕ) → lines_of (32 ∷ b) ≡ lines_of b
lines-space b =
    lines_by_first (32 ∷ b) ∙ (ap (λ l. filter has_items (words_of l ∷ []) ++ other_lines (32 ∷ b))
    (first_line-byte 32 b refl) ∙ (ap (λ ls. filter has_items (words_of (first_line b) ∷ []) ++ ls)
    (other_lines-byte 32 b refl) ∙ sym (lines_by_first b)))

after_feed_alike : (b : List ℕ) → IsAlike (10 ∷ 32 ∷ b) (10 ∷ b)
after_feed_alike b = record { first = λ p. refl; others = lines-space b }

before_feed_alike : (b : List ℕ) → IsAlike (32 ∷ 10 ∷ b) (10 ∷ b)
before_feed_alike b = record {
  first = λ p. words_at_space p [] ∙ (append-nil (words_of p) ∙ ap words_of (sym (append-nil p)));
  others = refl;
}

feed_alike : (b : List ℕ) → IsAlike (10 ∷ 10 ∷ b) (10 ∷ b)
feed_alike b = record { first = λ p. refl; others = refl }

lines_kept : (v t : List ℕ) → ShortensTo v t → lines_of t ≡ lines_of v
lines_kept v _ as_it_is = refl
lines_kept v _ (space_by_space a b h) = same_lines a (32 ∷ 32 ∷ b) (32 ∷ b) (space_alike b)
    ∙ lines_kept v (a ++ 32 ∷ b) h
lines_kept v _ (space_after_feed a b h) = same_lines a (10 ∷ 32 ∷ b) (10 ∷ b) (after_feed_alike b)
    ∙ lines_kept v (a ++ 10 ∷ b) h
lines_kept v _ (space_before_feed a b h) = same_lines a (32 ∷ 10 ∷ b) (10 ∷ b) (before_feed_alike b)
    ∙ lines_kept v (a ++ 10 ∷ b) h
lines_kept v _ (feed_by_feed a b h) = same_lines a (10 ∷ 10 ∷ b) (10 ∷ b) (feed_alike b)
    ∙ lines_kept v (a ++ 10 ∷ b) h

framed_lines : (t : List ℕ) → lines_of (between_line_feeds t) ≡ lines_of t
framed_lines t = same_lines t (10 ∷ []) [] (record { first = λ p. refl; others = refl })
    ∙ ap lines_of (append-nil t)

keep : (c : ℕ) (v t : List ℕ) → ShortensTo v t → ShortensTo (c ∷ v) (c ∷ t)
keep c v _ as_it_is = as_it_is
keep c v _ (space_by_space a b h) = space_by_space (c ∷ a) b (keep c v (a ++ 32 ∷ b) h)
keep c v _ (space_after_feed a b h) = space_after_feed (c ∷ a) b (keep c v (a ++ 10 ∷ b) h)
keep c v _ (space_before_feed a b h) = space_before_feed (c ∷ a) b (keep c v (a ++ 10 ∷ b) h)
keep c v _ (feed_by_feed a b h) = feed_by_feed (c ∷ a) b (keep c v (a ++ 10 ∷ b) h)

-- what the text after a space comes to, and the text inside a word
abbrev tail_after_space : List ℕ → List ℕ
tail_after_space t = space_before_each (words_of (first_line t)) ++ 10 ∷ text_of (other_lines t)

abbrev tail_in_word : List ℕ → List ℕ
tail_in_word t = first_word (first_line t) ++
    (space_before_each (other_words (first_line t)) ++ 10 ∷ text_of (other_lines t))

record Tidies (t : List ℕ) : Type 0 where
  after_feed : ShortensTo (10 ∷ text_of (lines_of t)) (between_line_feeds t)
  after_space : ShortensTo (tail_after_space t) (32 ∷ (t ++ 10 ∷ []))
  in_word : ShortensTo (tail_in_word t) (t ++ 10 ∷ [])

to : (v w t : List ℕ) → v ≡ w → ShortensTo v t → ShortensTo w t
to v w t e h = subst (λ x. ShortensTo x t) e h

tidies_feed : (t : List ℕ) → Tidies t → Tidies (10 ∷ t)
tidies_feed t h = record {
  after_feed = feed_by_feed [] (t ++ 10 ∷ []) h.after_feed;
  after_space = space_before_feed [] (t ++ 10 ∷ []) h.after_feed;
  in_word = h.after_feed;
}

tidies_space : (t : List ℕ) → Tidies t → Tidies (32 ∷ t)
tidies_space t h =
    let f = first_line-byte 32 t refl in
    let o = other_lines-byte 32 t refl in
    record {
      after_feed = to _ _ _ (ap (λ ls. 10 ∷ text_of ls) (sym (lines-space t)))
          (space_after_feed [] (t ++ 10 ∷ []) h.after_feed);
      after_space = to _ _ _ (ap (λ l. space_before_each (words_of l) ++ 10 ∷ text_of (other_lines t)) (sym f)
          ∙ ap (λ ls. space_before_each (words_of (first_line (32 ∷ t))) ++ 10 ∷ text_of ls) (sym o))
          (space_by_space [] (t ++ 10 ∷ []) h.after_space);
      in_word = to _ _ _ (ap (λ l. first_word l ++
          (space_before_each (other_words l) ++ 10 ∷ text_of (other_lines t))) (sym f)
          ∙ ap (λ ls. first_word (first_line (32 ∷ t)) ++
          (space_before_each (other_words (first_line (32 ∷ t))) ++ 10 ∷ text_of ls)) (sym o)) h.after_space;
    }

tidies_byte :
    (c : ℕ) (t : List ℕ) → (c == 10) ≡ false → (c == 32) ≡ false → Tidies t → Tidies (c ∷ t)
tidies_byte c t nf ns h =
    let f = first_line-byte c t nf in
    let o = other_lines-byte c t nf in
    let l = first_line t in
    let ws : words_of (first_line (c ∷ t)) ≡ (c ∷ first_word l) ∷ other_words l = ap words_of f
    ∙ words-byte c l ns in
    let text : text_of (lines_of (c ∷ t)) ≡ c ∷ tail_in_word t = ap text_of (lines-byte c t nf ns)
    ∙ (append_assoc ((c ∷ first_word l) ++ space_before_each (other_words l)) (10 ∷ [])
    (text_of (other_lines t)) ∙ append_assoc (c ∷ first_word l) (space_before_each (other_words l))
    (10 ∷ text_of (other_lines t))) in
    let spaces : tail_after_space (c ∷ t) ≡ 32 ∷ c ∷ tail_in_word t =
    ap (λ x. space_before_each x ++ 10 ∷ text_of (other_lines (c ∷ t))) ws
    ∙ (ap (λ ls. space_before_each ((c ∷ first_word l) ∷ other_words l) ++ 10 ∷ text_of ls) o
    ∙ append_assoc (32 ∷ c ∷ first_word l) (space_before_each (other_words l))
    (10 ∷ text_of (other_lines t))) in
    let inside : tail_in_word (c ∷ t) ≡ c ∷ tail_in_word t =
    ap (λ x. first_word x ++ (space_before_each (other_words x) ++ 10 ∷ text_of (other_lines (c ∷ t)))) f
    ∙ (ap (λ ls. first_word (c ∷ l) ++ (space_before_each (other_words (c ∷ l)) ++ 10 ∷ text_of ls)) o
    ∙ (ap (λ w. w ++ (space_before_each (other_words (c ∷ l)) ++ 10 ∷ text_of (other_lines t)))
    (first_word-byte c l ns) ∙ ap (λ w. (c ∷ first_word l) ++
    (space_before_each w ++ 10 ∷ text_of (other_lines t))) (other_words-byte c l ns))) in
    record {
      after_feed = to _ _ _ (ap (λ x. 10 ∷ x) (sym text)) (keep 10 _ _ (keep c _ _ h.in_word));
      after_space = to _ _ _ (sym spaces) (keep 32 _ _ (keep c _ _ h.in_word));
      in_word = to _ _ _ (sym inside) (keep c _ _ h.in_word);
    }

tidies : (t : List ℕ) → Tidies t
tidies [] = record {
  after_feed = feed_by_feed [] [] as_it_is;
  after_space = space_before_feed [] [] as_it_is;
  in_word = as_it_is;
}
tidies (c ∷ t) = by_feed (c == 10) refl (tidies t) where
  by_space : (b : Bool) → (c == 32) ≡ b → (c == 10) ≡ false → Tidies t → Tidies (c ∷ t)
  by_space true e nf h = subst (λ x. Tidies (x ∷ t)) (sym (eqb-true c 32 e)) (tidies_space t h)
  by_space false e nf h = tidies_byte c t nf e h

  by_feed : (b : Bool) → (c == 10) ≡ b → Tidies t → Tidies (c ∷ t)
  by_feed true e h = subst (λ x. Tidies (x ∷ t)) (sym (eqb-true c 10 e)) (tidies_feed t h)
  by_feed false e h = by_space (c == 32) refl e h

pub lines_of_same : (t u : List ℕ) → IsSameButForSpace t u → lines_of t ≡ lines_of u
lines_of_same t u (v, h, k) = sym (framed_lines t)
    ∙ (lines_kept v (between_line_feeds t) h ∙ (sym (lines_kept v (between_line_feeds u) k) ∙ framed_lines u))

pub same_from_lines : (t u : List ℕ) → lines_of t ≡ lines_of u → IsSameButForSpace t u
same_from_lines t u e = (
  10 ∷ text_of (lines_of t),
  (tidies t).after_feed,
  to _ _ _ (ap (λ ls. 10 ∷ text_of ls) (sym e)) (tidies u).after_feed,
)
