-- Numbers of types, and prefixes.
use Rattle.std.proofs.Common.{◌≡◌, ◌≢◌, ◌⊎◌, ℕ, zero, suc, ◌+◌, ◌<◌, ◌^◌, Bool, true, false, List, [], ◌∷◌, ◌++◌, take, drop, length, get_or, refl, sym, ◌∙◌, ap, subst, inl, inr, arith}
use Rattle.std.specs.Prelude.{◌==◌, ◌&&◌, nat_lt, nat_eq, Option, None, Result, Ok, Err, MatchResult, MatchOption, IfSome, IfNone, decimal}
use Rattle.std.specs.Result.{result_ok}
use Rattle.std.specs.Cmp.Lexicographic.{pointwise}
use Rattle.std.specs.Str.{IsUtf8}
use Rattle.std.specs.Str.Parse.{ParsesUnsigned, AllDigits, digits_value}
use Rattle.std.proofs.lemmas.Str.{IsUtf8-from_ascii}
use Rattle.std.proofs.lemmas.Str.Parse.{numerals_by_value, tells_digits, parse_plain, IsNumeralModel}
use Rattle.std.proofs.lemmas.Fmt.{decimal-digits_value, parse-decimal, first_decimal, IsAscii-decimal, decimal_digit}
use Rattle.std.proofs.lemmas.Bool.{eqb-true, eqb-false, or_parts, or_cases, and_parts, ltb-false, eq-eqb, and_from}
use Rattle.std.proofs.lemmas.Bool.Decides.{Decides-eqb}
use Rattle.std.proofs.lemmas.Slice.Eq.{strip_prefix_is}
use denote.Ref.{Bor}
use Rattle.walrus_text.specs.Steps.Parts.{IsIndexWord, has_sign_or_leading_zero}
use Rattle.walrus_text.proofs.Basics.{some_from_match, none_from_match}

-- what the clause of `strip_prefix` says of bytes
abbrev pub Stripped : List ℕ → List ℕ → Option (Bor (List ℕ)) → Type 0
Stripped s p r = MatchOption r (pointwise nat_eq (take (length p) s) p ≡ false) (λ x.
    (pointwise nat_eq (take (length p) s) p ≡ true) × (x.now ≡ drop (length p) s)
    × (length x.now + length p ≡ length s))

pub stripped_some :
    (s p : List ℕ) (r : Option (Bor (List ℕ))) → Stripped s p r →
    IfSome r (λ rest. s ≡ p ++ rest.now)
stripped_some s p r h = some_from_match r _ _ (strip_prefix_is Decides-eqb s p r h)

pub stripped_none :
    (s p : List ℕ) (r : Option (Bor (List ℕ))) → Stripped s p r →
    IfNone r ((rest : List ℕ) → s ≢ p ++ rest)
stripped_none s p r h = none_from_match r _ _ (strip_prefix_is Decides-eqb s p r h)

own : IsNumeralModel (AllDigits 10) (digits_value 10)
own = numerals_by_value (AllDigits 10) tells_digits

-- a number without a sign and without zeros before it
plain_first : (bs : List ℕ) → has_sign_or_leading_zero bs ≡ false → get_or bs 0 0 ≢ 43
plain_first bs h = eqb-false _ _ (or_parts _ _ h).0

plain_zero :
    (bs : List ℕ) → has_sign_or_leading_zero bs ≡ false → 0 < length bs → get_or bs 0 0 ≡ 48 →
    length bs ≡ 1
plain_zero bs h l e =
    elim (nat_lt 1 (length bs)) as (λ t. nat_lt 1 (length bs) ≡ t → length bs ≡ 1) [
      | true ↦ λ k. absurd (both_ways ((or_parts _ _ h).1) (and_from _ _ (eq-eqb _ _ e) k))
      | false ↦ λ k. omega (arith, ltb-false 1 (length bs) k, l)
    ] refl where
      both_ways : {t : Bool} → t ≡ false → t ≡ true → ⊥
      both_ways f g = cc

other_first :
    (bs : List ℕ) → has_sign_or_leading_zero bs ≡ true → (get_or bs 0 0 ≡ 43) ⊎ (get_or bs 0 0 ≡ 48)
other_first bs h =
    elim (or_cases (get_or bs 0 0 == 43) ((get_or bs 0 0 == 48) && nat_lt 1 (length bs)) h) [
      | inl p ↦ inl (eqb-true (get_or bs 0 0) 43 p)
      | inr p ↦ inr (eqb-true (get_or bs 0 0) 48 (and_parts (get_or bs 0 0 == 48) (nat_lt 1 (length bs)) p).0)
    ]

decimal_plain : (k : ℕ) → k < 2 ^ 32 → has_sign_or_leading_zero (decimal k) ≡ true → ⊥
decimal_plain zero small h =
    let e = decimal_digit 0 (omega arith) in
    let k : has_sign_or_leading_zero (48 ∷ []) ≡ true = ap has_sign_or_leading_zero (sym e) ∙ h in
    cc
decimal_plain (suc n) small h =
    let first = first_decimal (suc n) (omega arith) (omega arith) in
    elim (other_first (decimal (suc n)) h) [
      | inl e ↦ absurd (omega (arith, e, first))
      | inr e ↦ absurd (omega (arith, e, first))
    ]

pub sign_or_leading_zero_none :
    (bs : List ℕ) → has_sign_or_leading_zero bs ≡ true → ¬ IsIndexWord bs
sign_or_leading_zero_none bs h w = decimal_plain w.0 w.1 (ap has_sign_or_leading_zero (sym w.2) ∙ h)

pub number_found :
    {E : Type 0} (bs : List ℕ) (r : Result ℕ E) → ParsesUnsigned 32 10 bs r →
    has_sign_or_leading_zero bs ≡ false → IfSome (result_ok r) (λ k. bs ≡ decimal k)
number_found {E} bs (Err e) h p = tt
number_found {E} bs (Ok k) h p =
    let read = parse_plain own {E = E} 32 bs (Ok k) h (plain_first bs p) in
    sym (ap decimal read.1 ∙ decimal-digits_value own bs read.0.0 read.0.1 (plain_zero bs p read.0.1)
    (omega (arith, read.0.2)))

pub number_none :
    {E : Type 0} (bs : List ℕ) (r : Result ℕ E) → ParsesUnsigned 32 10 bs r →
    IfNone (result_ok r) (¬ IsIndexWord bs)
number_none bs (Ok k) h = tt
number_none bs (Err e) h = λ w.
    let k = parse-decimal 32 w.0 bs (Err e) w.1 (omega (arith, w.1)) w.2 h in
    absurd cc

pub not_text_none :
    {X E : Type 0} (bs : List ℕ) (r : Result X E) (P : X → Type 0) (Q : E → Type 0) →
    result_ok r ≡ None → MatchResult r P (λ e. ¬ (IsUtf8 bs) × Q e) → ¬ IsIndexWord bs
not_text_none bs (Ok x) P Q e h w = absurd cc
not_text_none bs (Err f) P Q e h w = h.0 (subst IsUtf8 (sym w.2)
    (IsUtf8-from_ascii _ (IsAscii-decimal w.0 (omega (arith, w.1)))))
