-- The first word of a line.
use Rattle.std.proofs.Common.{◌≡◌, ℕ, ◌<◌, Bool, true, false, List, [], ◌∷◌, take, drop, suc, length, filter, refl, sym, ◌∙◌, ap, arith}
use Rattle.std.specs.Prelude.{◌==◌, not, nat_lt, unwrap_or}
use Rattle.std.proofs.lemmas.Bool.{ltb-false}
use Rattle.std.proofs.lemmas.List.Sums.{prefix_len-le-length}
use Rattle.std.specs.List.{slice_split, position, position_or_len, onto_first}
use Rattle.std.proofs.lemmas.List.Splits.{slice_split-cons_yes, slice_split-cons_no}
use Rattle.walrus_text.specs.Words.{has_items, words_of}

abbrev pub is_space : ℕ → Bool
is_space b = b == 32

-- how many spaces a line begins with
abbrev pub spaces : List ℕ → ℕ
spaces line = position_or_len (λ b. not (b == 32)) line

-- how many bytes stand before its first space
abbrev pub word : List ℕ → ℕ
word line = position_or_len (λ b. b == 32) line

spaces-cons_yes : (b : ℕ) (l : List ℕ) → (b == 32) ≡ true → spaces (b ∷ l) ≡ suc (spaces l)
spaces-cons_yes b l e = rw e (omega arith)

spaces-cons_no : (b : ℕ) (l : List ℕ) → (b == 32) ≡ false → spaces (b ∷ l) ≡ 0
spaces-cons_no b l e = rw e refl

word-cons_yes : (b : ℕ) (l : List ℕ) → (b == 32) ≡ true → word (b ∷ l) ≡ 0
word-cons_yes b l e = rw e refl

word-cons_no : (b : ℕ) (l : List ℕ) → (b == 32) ≡ false → word (b ∷ l) ≡ suc (word l)
word-cons_no b l e = rw e (omega arith)

words-cons_space : (b : ℕ) (l : List ℕ) → (b == 32) ≡ true → words_of (b ∷ l) ≡ words_of l
words-cons_space b l e = ap (filter has_items) (slice_split-cons_yes is_space b l e)

-- spaces at the front hold no word
pub words_past_spaces : (l : List ℕ) → words_of (drop (spaces l) l) ≡ words_of l
words_past_spaces [] = refl
words_past_spaces (b ∷ l) = by_test (b == 32) refl (words_past_spaces l) where
  by_test : (t : Bool) → (b == 32) ≡ t → words_of (drop (spaces l) l) ≡ words_of l →
      words_of (drop (spaces (b ∷ l)) (b ∷ l)) ≡ words_of (b ∷ l)
  by_test true e more = ap (λ n. words_of (drop n (b ∷ l))) (spaces-cons_yes b l e)
      ∙ (more ∙ sym (words-cons_space b l e))
  by_test false e more = ap (λ n. words_of (drop n (b ∷ l))) (spaces-cons_no b l e)

-- what stands before the first space is the first part
pub record IsFront (l : List ℕ) (n : ℕ) : Type 0 where
  pub parts : List (List ℕ)
  pub first : slice_split is_space l ≡ take n l ∷ parts
  pub others : words_of (drop n l) ≡ filter has_items parts

front_at : (l : List ℕ) (m n : ℕ) → m ≡ n → IsFront l n → IsFront l m
front_at l m n e f = record {
  parts = f.parts;
  first = f.first ∙ ap (λ k. take k l ∷ f.parts) (sym e);
  others = ap (λ k. words_of (drop k l)) e ∙ f.others;
}

pub front_of : (l : List ℕ) → IsFront l (word l)
front_of [] = record { parts = []; first = refl; others = refl }
front_of (b ∷ l) = by_test (b == 32) refl (front_of l) where
  by_test : (t : Bool) → (b == 32) ≡ t → IsFront l (word l) → IsFront (b ∷ l) (word (b ∷ l))
  by_test true e f = front_at (b ∷ l) _ 0 (word-cons_yes b l e) (record {
    parts = slice_split is_space l;
    first = slice_split-cons_yes is_space b l e;
    others = words-cons_space b l e;
  })
  by_test false e f = front_at (b ∷ l) _ (suc (word l)) (word-cons_no b l e) (record {
    parts = f.parts;
    first = slice_split-cons_no is_space b l e ∙ ap (onto_first b) f.first;
    others = f.others;
  })

with_word :
    (w : List ℕ) (parts : List (List ℕ)) → 0 < length w →
    filter has_items (w ∷ parts) ≡ w ∷ filter has_items parts
with_word [] parts h = absurd (omega (arith, h))
with_word (b ∷ w) parts h = refl

words_from_front :
    (l : List ℕ) → 0 < length (take (word l) l) →
    words_of l ≡ take (word l) l ∷ words_of (drop (word l) l)
words_from_front l h =
    let f = front_of l in
    ap (filter has_items) f.first ∙ (with_word (take (word l) l) f.parts h
    ∙ ap (λ ws. take (word l) l ∷ ws) (sym f.others))

-- a line from its first word on
pub words_from_word :
    (line rest first others : List ℕ) → rest ≡ drop (spaces line) line →
    first ≡ take (word rest) rest → others ≡ drop (word rest) rest → 0 < length first →
    words_of line ≡ first ∷ words_of others
words_from_word line rest first others e f o h =
    let long : 0 < length (take (word rest) rest) = rw f at h in
    let k : words_of rest ≡ take (word rest) rest ∷ words_of (drop (word rest) rest) =
    words_from_front rest long in
    sym (words_past_spaces line) ∙ (ap words_of (sym e)
    ∙ (k ∙ (ap (λ w. w ∷ words_of (drop (word rest) rest)) (sym f)
    ∙ ap (λ r. first ∷ words_of r) (sym o))))

no_words_after : (line : List ℕ) → word (drop (spaces line) line) ≡ 0 → words_of line ≡ []
no_words_after [] e = refl
no_words_after (b ∷ l) e = by_test (b == 32) refl (no_words_after l) e where
  by_test : (t : Bool) → (b == 32) ≡ t → (word (drop (spaces l) l) ≡ 0 → words_of l ≡ []) →
      word (drop (spaces (b ∷ l)) (b ∷ l)) ≡ 0 → words_of (b ∷ l) ≡ []
  by_test true s more e =
      words-cons_space b l s ∙ more (ap (λ n. word (drop n (b ∷ l))) (sym (spaces-cons_yes b l s)) ∙ e)
  by_test false s more e =
      let k : suc (word l) ≡ 0 = sym (word-cons_no b l s)
      ∙ (ap (λ n. word (drop n (b ∷ l))) (sym (spaces-cons_no b l s)) ∙ e) in
      absurd (omega (arith, k))

-- a line has no words where no byte after its spaces begins one
pub no_words :
    (line rest : List ℕ) → rest ≡ drop (spaces line) line → word rest ≡ 0 → words_of line ≡ []
no_words line rest e h = no_words_after line (ap word (sym e) ∙ h)

-- a place in a line, or its end
pub place_or_end :
    (p : ℕ → Bool) (line : List ℕ) →
    unwrap_or (position p line) (length line) ≡ position_or_len p line
place_or_end p line = by_test (nat_lt (position_or_len p line) (length line)) refl where
  by_test : (t : Bool) → nat_lt (position_or_len p line) (length line) ≡ t →
      unwrap_or (position p line) (length line) ≡ position_or_len p line
  by_test true e = rw e refl
  by_test false e = rw e (omega (
    arith,
    ltb-false (position_or_len p line) (length line) e,
    prefix_len-le-length (λ b. not (p b)) line,
  ))
