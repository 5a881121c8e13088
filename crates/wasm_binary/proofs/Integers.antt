-- What is read as an integer is one, and each integer is read.
use Rattle.std.proofs.Common.{◌≡◌, ℕ, ◌+◌, ◌-◌, ◌*◌, ◌/◌, ◌^◌, Bool, true, false, nat_lt, ◌&&◌, List, [], ◌∷◌, ◌++◌, Ok, refl, ap, subst, ◌∙◌, inl, inr, ltb-true, ltb-false, lt-ltb, le-ltb, ◌||◌, ◌⊎◌}
use Rattle.wasm_binary.specs.Leb128.{IsInteger, last, more, IsU32, IsS33}
use Rattle.wasm_binary.specs.Steps.Reading.{◌>>=◌, integer_at, u32_at, s33_at}
use Rattle.wasm_binary.proofs.Basics.{Takes, IsSound, IsComplete, bind_ok, chosen, guard_ok, value_is, rest_is}

pub both_true : (a b : Bool) → (a && b) ≡ true → (a ≡ true) × (b ≡ true)
both_true true true e = (refl, refl)
both_true true false e = absurd cc
both_true false b e = absurd cc

pub either_true : (a b : Bool) → (a || b) ≡ true → (a ≡ true) ⊎ (b ≡ true)
either_true true b e = inl refl
either_true false b e = inr e

pub integer_again : (end limit : ℕ) (bytes : List ℕ) (n : ℕ) (rest : List ℕ) → IsInteger end limit bytes n →
    integer_at end limit (bytes ++ rest) ≡ Ok (n, rest)
unfolding integer_at
integer_again end _ _ _ rest (last limit b low ends fits) =
    rw (lt-ltb b 0x80 low, lt-ltb b end ends, lt-ltb b limit fits) refl
integer_again end _ _ _ rest (more limit b high bytes big byte wide texts) =
    rw (
      le-ltb b 0x80 big,
      lt-ltb b 0x100 byte,
      lt-ltb 0x80 limit wide,
      integer_again
          end (limit / 0x80) bytes high rest texts,
    ) refl

pub integer_takes : (end limit : ℕ) (bytes : List ℕ) (n : ℕ) (rest : List ℕ) →
    integer_at end limit bytes ≡ Ok (n, rest) → Takes (IsInteger end limit) bytes n rest
unfolding integer_at
integer_takes end limit [] n rest e = absurd cc
integer_takes end limit (b ∷ bytes) n rest e =
    elim (chosen (nat_lt b 0x80) _ _ (Ok (n, rest)) e) [
      | inl low ↦
          let g = guard_ok (nat_lt b end && nat_lt b limit) (Ok (b, bytes)) _ (n, rest) low.1 in
          let two = both_true (nat_lt b end) (nat_lt b limit) g.0 in
          let n-is : b ≡ n = value_is b n bytes rest g.1 in
          let rest-is : bytes ≡ rest = rest_is b n bytes rest g.1 in
          record {
            text = b ∷ [];
            is_text = subst (λ k. IsInteger end limit (b ∷ []) k) n-is
                (last limit b (ltb-true b 0x80 low.0) (ltb-true b end two.0) (ltb-true b limit two.1));
            parts = ap (λ (t : List ℕ). b ∷ t) rest-is;
          }
      | inr big ↦
          let g = guard_ok (nat_lt b 0x100 && nat_lt 0x80 limit) (integer_at end (limit / 0x80) bytes >>=
          (λ high. Ok (high.0 * 0x80 + (b - 0x80), high.1))) _ (n, rest) big.1 in
          let two = both_true (nat_lt b 0x100) (nat_lt 0x80 limit) g.0 in
          let a = bind_ok (integer_at end (limit / 0x80) bytes) (λ high.
          Ok (high.0 * 0x80 + (b - 0x80), high.1)) (n, rest) g.1 in
          let n-is : a.0.0 * 0x80 + (b - 0x80) ≡ n = value_is _ n a.0.1 rest a.2 in
          let rest-is : a.0.1 ≡ rest = rest_is (a.0.0 * 0x80 + (b - 0x80)) n _ rest a.2 in
          let t = integer_takes end (limit / 0x80) bytes a.0.0 a.0.1 a.1 in
          record {
            text = b ∷ t.text;
            is_text = subst (λ k. IsInteger end limit (b ∷ t.text) k) n-is
                (more limit b a.0.0 t.text (ltb-false b 0x80 big.0) (ltb-true b 0x100 two.0)
                (ltb-true 0x80 limit two.1) t.is_text);
            parts = ap (λ (u : List ℕ). b ∷ u) (t.parts ∙ ap (λ (u : List ℕ). t.text ++ u) rest-is);
          }
    ]

pub u32_sound : IsSound IsU32 u32_at
u32_sound = integer_takes 0x80 (2 ^ 32)

pub u32_complete : IsComplete IsU32 u32_at
u32_complete = integer_again 0x80 (2 ^ 32)

pub s33_sound : IsSound IsS33 s33_at
s33_sound = integer_takes 0x40 (2 ^ 32)

pub s33_complete : IsComplete IsS33 s33_at
s33_complete = integer_again 0x40 (2 ^ 32)
