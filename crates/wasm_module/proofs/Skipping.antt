-- Bytes whose meaning plays no role: what is passed over is what has the text, and what has a text is
-- passed over.
use Rattle.std.proofs.Common.{◌≡◌, ℕ, ◌<◌, ◌≤◌, ◌+◌, ◌/◌, nat_lt, nat_le, ◌&&◌, cond, List, [], ◌∷◌, ◌++◌, length, take, drop, Ok, refl, sym, ap, subst, ◌∙◌, arith, append_assoc, take-append-drop, length-append, length-take-le, drop_at, ltb-true, ltb-false, lt-ltb, le-ltb, leb-true, le-leb}
use Rattle.wasm_binary.specs.Leb128.{IsInteger, last, more, IsU32}
use Rattle.wasm_binary.specs.Steps.Reading.{u32_at}
use Rattle.wasm_binary.proofs.Basics.{Takes, IsSound, IsComplete, bind_ok, guard_ok, done, rest_is, which}
use Rattle.wasm_binary.proofs.Integers.{both_true, u32_sound, u32_complete}
use Rattle.wasm_module.specs.Immediates.{IsSigned, positive, negative, longer}
use Rattle.wasm_module.specs.Steps.Heads.{skip_at, signed_at, raw_at, byte_vec_at, fault}

-- ---- integers

abbrev pub IsSkipped : ℕ → List ℕ → Unit {0} → Type 0
IsSkipped limit text u = (n : ℕ) × IsInteger 0x80 limit text n

skip_again : (limit : ℕ) (text : List ℕ) (n : ℕ) (rest : List ℕ) → IsInteger 0x80 limit text n →
    skip_at limit (text ++ rest) ≡ Ok (tt, rest)
unfolding skip_at
skip_again _ _ _ rest (last limit b low ends fits) = rw (lt-ltb b 0x80 low, lt-ltb b limit fits) refl
skip_again _ _ _ rest (more limit b high bytes big is wide texts) =
    rw (
      le-ltb b 0x80 big,
      lt-ltb b 0x100 is,
      lt-ltb 0x80 limit wide,
      skip_again
          (limit / 0x80) bytes high rest texts,
    ) refl

pub skip_complete : (limit : ℕ) → IsComplete (IsSkipped limit) (skip_at limit)
skip_complete limit text u rest h = skip_again limit text h.0 rest h.1

one_byte_takes : {A : Type 0} (IsText : List ℕ → A → Type 0) (b : ℕ) (bytes : List ℕ) (x v : A)
    (rest : List ℕ) → IsText (b ∷ []) v → done x bytes ≡ done v rest → Takes IsText (b ∷ bytes) v rest
one_byte_takes IsText b bytes x v rest t e =
    record { text = b ∷ []; is_text = t; parts = ap (λ (u : List ℕ). b ∷ u) (rest_is x v bytes rest e) }

pub skip_sound : (limit : ℕ) → IsSound (IsSkipped limit) (skip_at limit)
unfolding skip_at
skip_sound limit [] v rest e = absurd cc
skip_sound limit (b ∷ bytes) v rest e =
    which (nat_lt b 0x80) _ _ (Ok (v, rest)) e
    (λ low q. let g = guard_ok (nat_lt b limit) (Ok (tt, bytes)) _ (v, rest) q in
    one_byte_takes (IsSkipped limit) b bytes tt v rest (
      b,
      last limit b (ltb-true b 0x80 low) (ltb-true b 0x80 low) (ltb-true b limit g.0),
    ) g.1)
    (λ big q. let g = guard_ok (nat_lt b 0x100 && nat_lt 0x80 limit) (skip_at (limit / 0x80) bytes) _ (
      v,
      rest,
    ) q in
    let two = both_true (nat_lt b 0x100) (nat_lt 0x80 limit) g.0 in
    let t = skip_sound (limit / 0x80) bytes v rest g.1 in
    record {
      text = b ∷ t.text;
      is_text = (
        _,
        more limit b t.is_text.0 t.text (ltb-false b 0x80 big) (ltb-true b 0x100 two.0)
            (ltb-true 0x80 limit two.1) t.is_text.1,
      );
      parts = ap (λ (u : List ℕ). b ∷ u) t.parts;
    })

abbrev pub IsSignedText : ℕ → List ℕ → Unit {0} → Type 0
IsSignedText limit text u = IsSigned limit text

signed_again : (limit : ℕ) (text rest : List ℕ) → IsSigned limit text →
    signed_at limit (text ++ rest) ≡ Ok (tt, rest)
unfolding signed_at
signed_again _ _ rest (positive limit b low fits) = rw (lt-ltb b 0x40 low, lt-ltb b limit fits) refl
signed_again _ _ rest (negative limit b from low fits) =
    rw (le-ltb b 0x40 from, lt-ltb b 0x80 low, le-leb 0x80 (b + limit) fits) refl
signed_again _ _ rest (longer limit b bytes big is wide texts) =
    let past : 0x40 ≤ b = omega (arith, big) in
    rw (
      le-ltb b 0x40 past,
      le-ltb b 0x80 big,
      lt-ltb b 0x100 is,
      lt-ltb 0x40 limit wide,
      signed_again
          (limit / 0x80) bytes rest texts,
    ) refl

pub signed_complete : (limit : ℕ) → IsComplete (IsSignedText limit) (signed_at limit)
signed_complete limit text u rest h = signed_again limit text rest h

pub signed_sound : (limit : ℕ) → IsSound (IsSignedText limit) (signed_at limit)
unfolding signed_at
signed_sound limit [] v rest e = absurd cc
signed_sound limit (b ∷ bytes) v rest e =
    which (nat_lt b 0x40) _ _ (Ok (v, rest)) e
    (λ low q. let g = guard_ok (nat_lt b limit) (Ok (tt, bytes)) _ (v, rest) q in
    one_byte_takes (IsSignedText limit) b bytes tt v rest
    (positive limit b (ltb-true b 0x40 low) (ltb-true b limit g.0)) g.1)
    (λ from q. which (nat_lt b 0x80) _ _ (Ok (v, rest)) q
    (λ low q1. let g = guard_ok (nat_le 0x80 (b + limit)) (Ok (tt, bytes)) _ (v, rest) q1 in
    one_byte_takes (IsSignedText limit) b bytes tt v rest
    (negative limit b (ltb-false b 0x40 from) (ltb-true b 0x80 low) (leb-true 0x80 (b + limit) g.0)) g.1)
    (λ big q1. let g = guard_ok (nat_lt b 0x100 && nat_lt 0x40 limit) (signed_at (limit / 0x80) bytes) _ (
      v,
      rest,
    ) q1 in
    let two = both_true (nat_lt b 0x100) (nat_lt 0x40 limit) g.0 in
    let t = signed_sound (limit / 0x80) bytes v rest g.1 in
    record {
      text = b ∷ t.text;
      is_text = longer limit b t.text (ltb-false b 0x80 big) (ltb-true b 0x100 two.0)
          (ltb-true 0x40 limit two.1) t.is_text;
      parts = ap (λ (u : List ℕ). b ∷ u) t.parts;
    }))

-- ---- bytes

abbrev pub IsRaw : ℕ → List ℕ → Unit {0} → Type 0
IsRaw n text u = (0 < n) × (length text ≡ n)

pub raw_complete : (n : ℕ) → IsComplete (IsRaw n) (raw_at n)
unfolding raw_at
raw_complete n text u rest h =
    rw (
      lt-ltb 0 n h.0,
      le-leb n (length (text ++ rest)) (omega (arith, h.1, length-append text rest)),
      drop_at text rest n h.1,
    ) refl

pub raw_sound : (n : ℕ) → IsSound (IsRaw n) (raw_at n)
unfolding raw_at
raw_sound n bytes v rest e =
    let g = guard_ok (nat_lt 0 n && nat_le n (length bytes)) (Ok (tt, drop n bytes)) _ (v, rest) e in
    let two = both_true (nat_lt 0 n) (nat_le n (length bytes)) g.0 in
    record {
      text = take n bytes;
      is_text = (ltb-true 0 n two.0, length-take-le n bytes (leb-true n (length bytes) two.1));
      parts = sym (take-append-drop n bytes) ∙ ap (λ (u : List ℕ). take n bytes ++ u)
          (rest_is tt v (drop n bytes) rest g.1);
    }

-- a count, and as many bytes
pub record IsByteVec (text : List ℕ) (u : Unit {0}) : Type 0 where
  pub count : List ℕ
  pub bytes : List ℕ
  pub counted : IsU32 count (length bytes)
  pub parts : text ≡ count ++ bytes

pub byte_vec_again : (count bytes rest : List ℕ) → IsU32 count (length bytes) →
    byte_vec_at ((count ++ bytes) ++ rest) ≡ Ok (tt, rest)
unfolding byte_vec_at
byte_vec_again count bytes rest h =
    let fits : length bytes ≤ length (bytes ++ rest) = omega (arith, length-append bytes rest) in
    rw (
      append_assoc count bytes rest,
      u32_complete count (length bytes) (bytes ++ rest) h,
      le-leb (length bytes) (length (bytes ++ rest)) fits,
      drop_at bytes rest (length bytes) refl,
    )
    refl

pub byte_vec_sound : IsSound IsByteVec byte_vec_at
unfolding byte_vec_at
byte_vec_sound bytes v rest e =
    let a = bind_ok (u32_at bytes)
    (λ n. cond (nat_le n.0 (length n.1)) (Ok (tt, drop n.0 n.1)) (fault [])) (v, rest) e in
    let n = a.0.0 in
    let left = a.0.1 in
    let g = guard_ok (nat_le n (length left)) (Ok (tt, drop n left)) _ (v, rest) a.2 in
    let t = u32_sound bytes n left a.1 in
    let long : length (take n left) ≡ n = length-take-le n left (leb-true n (length left) g.0) in
    let behind : left ≡ take n left ++ rest = sym (take-append-drop n left)
    ∙ ap (λ (u : List ℕ). take n left ++ u) (rest_is tt v (drop n left) rest g.1) in
    record {
      text = t.text ++ take n left;
      is_text =
          record {
            count = t.text;
            bytes = take n left;
            counted = subst (λ (m : ℕ). IsU32 t.text m) (sym long) t.is_text;
            parts = refl;
          };
      parts = t.parts ∙ ap (λ (u : List ℕ). t.text ++ u) behind
          ∙ sym (append_assoc t.text (take n left) rest);
    }
