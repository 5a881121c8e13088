-- The first line feed of some bytes.
use Rattle.std.proofs.Common.{◌≡◌, ℕ, ◌==◌, Bool, true, false, List, [], ◌∷◌, ◌++◌, take, drop, suc, length, refl, sym, ◌∙◌, ap, subst, arith, append-nil}
use Rattle.std.specs.List.{position_or_len}
use Rattle.std.proofs.lemmas.Bool.Decides.{nat_tests}
use Rattle.std.proofs.lemmas.List.Elements.{All-nil, All-cons}
use Rattle.walrus_text.specs.Steps.Bytes.{IsOneLine}

-- how many bytes stand before it
abbrev pub feed : List ℕ → ℕ
feed bytes = position_or_len (λ b. b == 10) bytes

feed-cons_yes : (b : ℕ) (l : List ℕ) → (b == 10) ≡ true → feed (b ∷ l) ≡ 0
feed-cons_yes b l e = rw e refl

feed-cons_no : (b : ℕ) (l : List ℕ) → (b == 10) ≡ false → feed (b ∷ l) ≡ suc (feed l)
feed-cons_no b l e = rw e (omega arith)

abbrev head_of : List ℕ → ℕ
head_of [] = 0
head_of (b ∷ bytes) = b

-- none of the first n bytes is a line feed, and the next one is, if there is one
record IsBeforeFeed (bytes : List ℕ) (n : ℕ) : Type 0 where
  pub one_line : IsOneLine (take n bytes)
  pub is_feed : (b : ℕ) (after : List ℕ) → drop n bytes ≡ b ∷ after → b ≡ 10

before_feed : (bytes : List ℕ) → IsBeforeFeed bytes (feed bytes)
before_feed [] = record {
  one_line = All-nil (λ (b : ℕ). (b == 10) ≡ false);
  is_feed = λ b after e. (let d : 0 ≡ suc (length after) = ap length e in absurd (omega (arith, d)));
}
before_feed (b ∷ l) = by_test (b == 10) refl (before_feed l) where
  by_test : (t : Bool) → (b == 10) ≡ t → IsBeforeFeed l (feed l) → IsBeforeFeed (b ∷ l) (feed (b ∷ l))
  by_test true e h = subst (IsBeforeFeed (b ∷ l)) (sym (feed-cons_yes b l e)) (record {
    one_line = All-nil (λ (c : ℕ). (c == 10) ≡ false);
    is_feed = λ c after k.
        (let same : b ≡ c = ap head_of k in let ten : b ≡ 10 = grind (arith, nat_tests, e) in
        sym same ∙ ten);
  })
  by_test false e h = subst (IsBeforeFeed (b ∷ l)) (sym (feed-cons_no b l e)) (record {
    one_line = All-cons (λ (c : ℕ). (c == 10) ≡ false) b (take (feed l) l) e h.one_line;
    is_feed = h.is_feed;
  })

-- the bytes up to it are one line
pub one_line_before :
    (bytes line : List ℕ) (n : ℕ) → n ≡ feed bytes → line ≡ take n bytes → IsOneLine line
one_line_before bytes line n e f =
    subst IsOneLine (sym (f ∙ ap (λ k. take k bytes) e)) (before_feed bytes).one_line

-- and it follows them
pub feed_after :
    (bytes line from_feed after : List ℕ) (n b : ℕ) → n ≡ feed bytes → from_feed ≡ drop n bytes →
    bytes ≡ line ++ from_feed → from_feed ≡ b ∷ after → bytes ≡ line ++ 10 ∷ after
feed_after bytes line from_feed after n b e back whole first =
    let is : drop (feed bytes) bytes ≡ b ∷ after = ap (λ k. drop k bytes) (sym e) ∙ (sym back ∙ first) in
    whole ∙ ap (λ l. line ++ l) (first
    ∙ ap (λ c. c ∷ after) ((before_feed bytes).is_feed b after is))

-- where there is none, all bytes are one line
pub no_feed :
    (bytes line from_feed : List ℕ) (n : ℕ) → n ≡ feed bytes → line ≡ take n bytes →
    bytes ≡ line ++ from_feed → from_feed ≡ [] → IsOneLine bytes
no_feed bytes line from_feed n e f whole none =
    subst IsOneLine (sym (whole ∙ (ap (λ l. line ++ l) none ∙ append-nil line)))
    (one_line_before bytes line n e f)
