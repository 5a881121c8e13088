-- What `{:08x}` and `{:016x}` write: all hexadecimal digits of a number.
use Rattle.std.proofs.Common.{◌≡◌, ℕ, zero, suc, ◌+◌, ◌-◌, ◌/◌, ◌%◌, ◌^◌, ◌<◌, ◌≤◌, false, cond, List, [], ◌∷◌, ◌++◌, length, replicate, eq-eqb, ne_eqb, refl, sym, ap, ◌∙◌, arith, append_assoc, append-nil, ⊎_elim}
use Rattle.std.specs.Fmt.{digits, digits_onto, padded_integral, format_spec, char_count}
use Rattle.std.proofs.lemmas.Bool.{cases_lt}
use Rattle.ir_operators.specs.Values.{hex_digit, hex_digits}

abbrev spelled : ℕ → ℕ → List ℕ → List ℕ
spelled k n acc = digits_onto k 16 false n acc

abbrev last_digit : ℕ → ℕ
last_digit n = hex_digit (n % 16)

spelled_last : (k n : ℕ) (acc : List ℕ) → n < 16 → spelled (suc k) n acc ≡ last_digit n ∷ acc
spelled_last k n acc h = ap (λ t. cond t (last_digit n ∷ acc) (spelled k (n / 16) (last_digit n ∷ acc)))
    (eq-eqb (n / 16) 0 (omega arith))

spelled_next :
    (k n : ℕ) (acc : List ℕ) → 16 ≤ n →
    spelled (suc k) n acc ≡ spelled k (n / 16) (last_digit n ∷ acc)
spelled_next k n acc h = ap (λ t. cond t (last_digit n ∷ acc) (spelled k (n / 16) (last_digit n ∷ acc)))
    (ne_eqb (n / 16) 0 (λ e. omega arith))

zero_end : List ℕ
zero_end = 48 ∷ []

zeros_end : (k : ℕ) → replicate k 48 ++ zero_end ≡ replicate (suc k) 48
unfolding zero_end
zeros_end zero = refl
zeros_end (suc k) = ap (λ (zeros : List ℕ). 48 ∷ zeros) (zeros_end k)

hex_zero : (k n : ℕ) → n ≡ 0 → hex_digits k n ≡ replicate k 48
unfolding zero_end
hex_zero zero n h = refl
hex_zero (suc k) n h =
    let digit : hex_digit (n % 16) ≡ 48 = ap (λ m. hex_digit (m % 16)) h in
    let front : hex_digits k (n / 16) ≡ replicate k 48 = hex_zero k (n / 16) (omega arith) in
    ap (λ (zeros : List ℕ). zeros ++ hex_digit (n % 16) ∷ []) front ∙ ap (λ d. replicate k 48 ++ d ∷ []) digit
    ∙ zeros_end k

-- zeros and then the digits: as many as there are places
record IsFilled (width n : ℕ) (acc text : List ℕ) : Type 0 where
  zeros : ℕ
  all : zeros + length text ≡ width + length acc
  same : replicate zeros 48 ++ text ≡ hex_digits width n ++ acc

module _ (width k n : ℕ) (acc : List ℕ) where
  end : List ℕ
  end = last_digit n ∷ []

  filled_last : n < 16 → IsFilled (suc width) n acc (spelled (suc k) n acc)
  unfolding end
  filled_last l = let e = spelled_last k n acc l in
      let zeros : hex_digits width (n / 16) ≡ replicate width 48 = hex_zero width (n / 16) (omega arith) in
      record {
        zeros = width;
        all = ap (λ (text : List ℕ). width + length text) e ∙ omega arith;
        same = ap (λ (text : List ℕ). replicate width 48 ++ text) e
            ∙ sym (append_assoc (replicate width 48) end acc)
            ∙ ap (λ (front : List ℕ). (front ++ end) ++ acc) (sym zeros);
      }

  filled_next : 16 ≤ n → IsFilled width (n / 16) (last_digit n ∷ acc)
      (spelled k (n / 16) (last_digit n ∷ acc)) → IsFilled (suc width) n acc (spelled (suc k) n acc)
  unfolding end
  filled_next l rest = let e = spelled_next k n acc l in
      record {
        zeros = rest.zeros;
        all = ap (λ (text : List ℕ). rest.zeros + length text) e ∙ rest.all ∙ omega arith;
        same = ap (λ (text : List ℕ). replicate rest.zeros 48 ++ text) e ∙ rest.same
            ∙ sym (append_assoc (hex_digits width (n / 16)) end acc);
      }

filled :
    (width k n : ℕ) (acc : List ℕ) → n < 16 ^ width → 0 < width → width ≤ k →
    IsFilled width n acc (spelled k n acc)
filled zero k n acc h some fits = absurd (omega arith)
filled (suc width) zero n acc h some fits = absurd (omega arith)
filled (suc zero) (suc k) n acc h some fits = filled_last zero k n acc (omega arith)
filled (suc (suc width)) (suc k) n acc h some fits = ⊎_elim
    (λ l. filled_last (suc width) k n acc l)
    (λ l. filled_next (suc width) k n acc l (filled (suc width) k (n / 16) (last_digit n ∷ acc) (omega arith)
    (omega arith) (omega arith)))
    (cases_lt n 16)

zeros_before :
    (width : ℕ) (numeral : List ℕ) →
    padded_integral (format_spec 32 0 4 width (2 ^ 64 - 1)) false [] numeral ≡
    replicate (width - length numeral) 48 ++ numeral
unfolding padded_integral char_count
zeros_before width numeral =
    let none : width - length numeral - 0 - 0 ≡ width - length numeral = omega arith in
    rw (none, append-nil numeral)

spelled_digits : (n : ℕ) → spelled 64 n [] ≡ digits 16 false n
unfolding digits
spelled_digits n = refl

-- a number filled up with zeros to a width that it does not pass
pub padded_hex :
    (width n : ℕ) → n < 16 ^ width → 0 < width → width ≤ 64 →
    padded_integral (format_spec 32 0 4 width (2 ^ 64 - 1)) false [] (digits 16 false n) ≡
    hex_digits width n
padded_hex width n h some fits =
    let f = filled width 64 n [] h some fits in
    let count : width - length (spelled 64 n []) ≡ f.zeros = omega (arith, f.all) in
    zeros_before width (digits 16 false n)
    ∙ ap (λ text. replicate (width - length text) 48 ++ text) (sym (spelled_digits n))
    ∙ ap (λ zeros. replicate zeros 48 ++ spelled 64 n []) count
    ∙ f.same ∙ append-nil (hex_digits width n)

pub hex_8 :
    (n : ℕ) → n < 2 ^ 32 → padded_integral (format_spec 32 0 4 8 (2 ^ 64 - 1)) false []
    (digits 16 false n) ≡ hex_digits 8 n
hex_8 n h = padded_hex 8 n (omega arith) (omega arith) (omega arith)

pub hex_16 :
    (n : ℕ) → n < 2 ^ 64 → padded_integral (format_spec 32 0 4 16 (2 ^ 64 - 1)) false []
    (digits 16 false n) ≡ hex_digits 16 n
hex_16 n h = padded_hex 16 n (omega arith) (omega arith) (omega arith)
