-- What is written of integers is a text of them, and no text is shorter.
use Rattle.std.proofs.Common.{◌≡◌, ℕ, zero, suc, ◌+◌, ◌-◌, ◌*◌, ◌/◌, ◌%◌, ◌^◌, ◌<◌, ◌≤◌, inl, inr, List, [], ◌∷◌, ◌++◌, length, refl, ap, subst, ◌∙◌, append_assoc, arith, lt-ltb, le-ltb, le_refl, suc-le-suc}
use Rattle.std.proofs.lemmas.Bool.{cases_lt}
use Rattle.wasm_binary.specs.Leb128.{IsInteger, last, more, IsU32, IsS33}
use Rattle.wasm_binary.specs.Steps.Writing.{integer_text, IsEnough, u32_text, s33_text}

last_byte : (count end n : ℕ) → n < end → integer_text count end n ≡ n ∷ []
unfolding integer_text
last_byte zero end n lt = refl
last_byte (suc count) end n lt = rw (lt-ltb n end lt) refl

-- one byte was put at the end
pub one_byte : (old new : List ℕ) (end n : ℕ) → n < end → new ≡ old ++ n ∷ [] → (count : ℕ) →
    IsEnough count end n → new ≡ old ++ integer_text count end n
one_byte old new end n lt e count enough = rw (last_byte count end n lt) e

-- a byte and what stands for the rest
pub further : (old mid new : List ℕ) (end n : ℕ) → end ≤ n → mid ≡ old ++ (n % 0x80 + 0x80) ∷ []
    → ((count : ℕ) → IsEnough count end (n / 0x80) → new ≡ mid ++ integer_text count end (n / 0x80))
    → (count : ℕ) → IsEnough count end n → new ≡ old ++ integer_text count end n
unfolding integer_text
further old mid new end n le e rest zero enough = absurd (let k : n < end = enough in omega (arith, k, le))
further old mid new end n le e rest (suc count) enough =
    rw (le-ltb n end le) (rest count (enough le)
    ∙ ap (λ (u : List ℕ). u ++ integer_text count end (n / 0x80)) e
    ∙ append_assoc old ((n % 0x80 + 0x80) ∷ []) (integer_text count end (n / 0x80)))

-- ---- it is a text

abbrev IsWritten : ℕ → ℕ → ℕ → Type 0
IsWritten count end limit = (n : ℕ) → n < limit → IsInteger end limit (integer_text count end n) n

base : (end limit : ℕ) → end ≤ 0x80 → limit ≤ end → IsWritten zero end limit
unfolding integer_text
base end limit low small n lt = last limit n (omega (arith, low, small, lt)) (omega (arith, small, lt)) lt

step : (count end limit : ℕ) → end ≤ 0x80 → 0x80 < limit → limit ≡ limit / 0x80 * 0x80 →
    IsWritten count end (limit / 0x80) → IsWritten (suc count) end limit
unfolding integer_text
step count end limit low wide even rest n lt =
    elim (cases_lt n end) [
      | inl small ↦ rw (lt-ltb n end small) (last limit n (omega (arith, low, small)) small lt)
      | inr big ↦
          let value-is : n / 0x80 * 0x80 + (n % 0x80 + 0x80 - 0x80) ≡ n = omega arith in
          rw (le-ltb n end big)
          (subst (λ k. IsInteger end limit ((n % 0x80 + 0x80) ∷ integer_text count end (n / 0x80)) k) value-is
          (more limit (n % 0x80 + 0x80) (n / 0x80) (integer_text count end (n / 0x80)) (omega arith)
          (omega arith) wide (rest (n / 0x80) (omega (arith, lt, even)))))
    ]

pub u32_written : (n : ℕ) → n < 2 ^ 32 → IsU32 (u32_text n) n
u32_written =
    step 3 0x80 (2 ^ 32) (omega arith) (omega arith) refl
    (step 2 0x80 (2 ^ 25) (omega arith) (omega arith) refl
    (step 1 0x80 (2 ^ 18) (omega arith) (omega arith) refl
    (step 0 0x80 (2 ^ 11) (omega arith) (omega arith) refl
    (base 0x80 (2 ^ 4) (omega arith) (omega arith)))))

pub s33_written : (n : ℕ) → n < 2 ^ 32 → IsS33 (s33_text n) n
s33_written =
    step 3 0x40 (2 ^ 32) (omega arith) (omega arith) refl
    (step 2 0x40 (2 ^ 25) (omega arith) (omega arith) refl
    (step 1 0x40 (2 ^ 18) (omega arith) (omega arith) refl
    (step 0 0x40 (2 ^ 11) (omega arith) (omega arith) refl
    (base 0x40 (2 ^ 4) (omega arith) (omega arith)))))

-- ---- none is shorter, and a text has its bound

pub integer_least : (count end limit : ℕ) (bytes : List ℕ) (n : ℕ) → IsInteger end limit bytes n →
    length (integer_text count end n) ≤ length bytes
unfolding integer_text
integer_least zero end _ _ _ (last limit b low ends fits) = le_refl 1
integer_least (suc count) end _ _ _ (last limit b low ends fits) = rw (lt-ltb b end ends) (le_refl 1)
integer_least zero end _ _ _ (more limit b high bytes big byte wide texts) = omega arith
integer_least (suc count) end _ _ _ (more limit b high bytes big byte wide texts) =
    elim (cases_lt (high * 0x80 + (b - 0x80)) end) [
      | inl small ↦ rw (lt-ltb (high * 0x80 + (b - 0x80)) end small) (omega arith)
      | inr large ↦
          let high-is : (high * 0x80 + (b - 0x80)) / 0x80 ≡ high = omega (arith, big, byte) in
          rw (le-ltb (high * 0x80 + (b - 0x80)) end large, high-is)
          (suc-le-suc (integer_least count end (limit / 0x80) bytes high texts))
    ]

pub integer_bound : (end limit : ℕ) (bytes : List ℕ) (n : ℕ) → IsInteger end limit bytes n → n < limit
integer_bound end _ _ _ (last limit b low ends fits) = fits
integer_bound end _ _ _ (more limit b high bytes big byte wide texts) =
    let k = integer_bound end (limit / 0x80) bytes high texts in omega (arith, k, byte, big)
