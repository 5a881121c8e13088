-- The text of a number with this many bytes at least.
use Rattle.std.proofs.Common.{◌≡◌, ℕ, zero, suc, ◌+◌, ◌-◌, ◌*◌, ◌/◌, ◌%◌, ◌^◌, ◌<◌, ◌≤◌, List, [], ◌∷◌, ◌++◌, length, refl, ap, subst, ◌∙◌, append_assoc, arith}
use Rattle.wasm_binary.specs.Leb128.{IsInteger}
use Rattle.wasm_binary.specs.Leb128.IsInteger.{last as byte, more as longer}
use Rattle.wasm_module.specs.Renaming.{IsTextOf}
use Rattle.wasm_module.specs.Steps.Renaming.{Appends, IsWide, last, more}

-- ---- what is written is it

wide_enough : (end least : ℕ) (text : List ℕ) (n : ℕ) → IsWide end least text n → least ≤ length text
wide_enough end _ _ _ (last least n low le) = omega (arith, le)
wide_enough end _ _ _ (more least n text few h) =
    let k = wide_enough end (least - 1) text (n / 0x80) h in omega (arith, k)

power_some : (count : ℕ) → 0 < 128 ^ count
power_some zero = omega arith
power_some (suc count) = let k = power_some count in omega (arith, k)

is_integer : (end : ℕ) → 0x40 ≤ end → end ≤ 0x80 → (count limit least : ℕ) (text : List ℕ) (n : ℕ) →
    limit ≡ 16 * 128 ^ count → n < limit → least ≤ suc count → IsWide end least text n →
    IsInteger end limit text n
is_integer end from low count limit _ _ _ e lt le (last least n small one) =
    byte limit n (omega (arith, small, low)) small lt
is_integer end from low zero limit _ _ _ e lt le (more least n text few h) =
    absurd (let k = few (omega (arith, e, lt, from)) in omega (arith, k, le))
is_integer end from low (suc count) limit _ _ _ e lt le (more least n text few h) =
    let value-is : n / 0x80 * 0x80 + (n % 0x80 + 0x80 - 0x80) ≡ n = omega arith in
    let some : 0 < 128 ^ count = power_some count in
    let less : limit / 0x80 ≡ 16 * 128 ^ count = omega (arith, e) in
    subst (λ k. IsInteger end limit ((n % 0x80 + 0x80) ∷ text) k) value-is
    (longer limit (n % 0x80 + 0x80) (n / 0x80) text (omega arith) (omega arith) (omega (arith, e, some))
    (is_integer end from low count (limit / 0x80) (least - 1) text (n / 0x80) less
    (omega (arith, less, e, lt)) (omega (arith, le)) h))

pub integer_some : (end limit : ℕ) (text : List ℕ) (n : ℕ) → IsInteger end limit text n → 0 < length text
integer_some end _ _ _ (byte limit b low ends fits) = omega arith
integer_some end _ _ _ (longer limit b high bytes big is wide texts) = omega arith

shortest : (end least : ℕ) (text : List ℕ) (n : ℕ) → IsWide end least text n → (limit m : ℕ)
    (others : List ℕ) → IsInteger end limit others m → m ≡ n → least ≤ length others →
    length text ≤ length others
shortest end _ _ _ (last least n small one) limit m others h e le = integer_some end limit others m h
shortest end _ _ _ (more least n text few w) _ _ _ (byte limit b low ends fits) e le =
    absurd (let k = few (omega (arith, e, ends)) in omega (arith, k, le))
shortest end _ _ _ (more least n text few w) _ _ _ (longer limit b high bytes big is wide texts) e le =
    let high-is : high ≡ n / 0x80 = omega (arith, e, big, is) in
    let k = shortest end (least - 1) text (n / 0x80) w (limit / 0x80) high bytes texts high-is
    (omega (arith, le)) in
    omega (arith, k)

pub is_text_of : (end least : ℕ) (text : List ℕ) (n : ℕ) → 0x40 ≤ end → end ≤ 0x80 → least ≤ 5 → n < 2 ^ 32 →
    IsWide end least text n → IsTextOf end least text n
is_text_of end least text n from low le lt h =
    record {
      is_text = is_integer end from low 4 (2 ^ 32) least text n refl lt le h;
      wide = wide_enough end least text n h;
      shortest = λ others t ge. shortest end least text n h (2 ^ 32) n others t refl ge;
    }

pub appends_text_of : (end least n : ℕ) (old new : List ℕ) → 0x40 ≤ end → end ≤ 0x80 → least ≤ 5 → n < 2 ^ 32
    → Appends (λ text. IsWide end least text n) old new → Appends (λ text. IsTextOf end least text n) old new
appends_text_of end least n old new from low le lt a =
    let t = is_text_of end least a.text n from low le lt a.is_text in
    record { text = a.text; is_text = t; parts = a.parts }

-- ---- the steps of the writer

pub last_byte : (end least n : ℕ) (old new : List ℕ) → n < end → least ≤ 1 → new ≡ old ++ n ∷ [] →
    Appends (λ text. IsWide end least text n) old new
last_byte end least n old new low one e = record { text = n ∷ []; is_text = last least n low one; parts = e }

pub further_byte : (end least less n : ℕ) (old mid new : List ℕ) → (n < end → 1 < least) → less ≡ least - 1
    → mid ≡ old ++ (n % 0x80 + 0x80) ∷ [] → Appends (λ text. IsWide end less text (n / 0x80)) mid new
    → Appends (λ text. IsWide end least text n) old new
further_byte end least less n old mid new few less-is e a =
    record {
      text = (n % 0x80 + 0x80) ∷ a.text;
      is_text = more least n a.text few (subst (λ w. IsWide end w a.text (n / 0x80)) less-is a.is_text);
      parts = a.parts ∙ ap (λ (u : List ℕ). u ++ a.text) e
          ∙ append_assoc old ((n % 0x80 + 0x80) ∷ []) a.text;
    }
