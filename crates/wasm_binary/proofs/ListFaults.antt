-- Where the reading of integers and lists stops.
use Rattle.std.proofs.Common.{◌≡◌, ℕ, zero, suc, ◌^◌, ◌<◌, ◌*◌, ◌+◌, ◌-◌, ◌/◌, nat_lt, ◌&&◌, List, [], ◌∷◌, ◌++◌, length, refl, sym, ap, subst, ◌∙◌, arith, ltb-true, ltb-false}
use Rattle.wasm_binary.specs.declared.error.Expected.TheVariants as expected
use Rattle.wasm_binary.specs.declared.error.Reason.TheVariants as reason
use Rattle.wasm_binary.specs.declared.error.Fault.{Fault}
use Rattle.wasm_binary.specs.Leb128.{IsInteger, last, more, IsU32, IsS33}
use Rattle.wasm_binary.specs.Grammar.{AreItems, none, next, IsVec, counted}
use Rattle.wasm_binary.specs.Steps.Reading.{integer_at, u32_at, s33_at, items_at, vec_at}
use Rattle.wasm_binary.proofs.Basics.{Reading, IsSound, IsComplete, which}
use Rattle.wasm_binary.proofs.Integers.{both_true, u32_sound, u32_complete}
use Rattle.wasm_binary.proofs.Faults.{failed, DoesNotRead, stop, left_is, map_err, step_err, IsExpected, Saying, IsSaid, expected_here, BeginAlike, some_alike, HaltsBy, Halts, names_said, within, inside, ends_with, refused_alike, pair_halts}

-- ---- integers

-- Reading an integer stopped behind `prefix`, which the byte 0 ends.
pub record Unended (end limit : ℕ) (bytes : List ℕ) (f : Fault) : Type 0 where
  pub prefix : List ℕ
  pub left : List ℕ
  pub value : ℕ
  pub parts : bytes ≡ prefix ++ left
  pub place : f.left ≡ length left
  pub seen : IsExpected f.reason
  pub is_integer : IsInteger end limit (prefix ++ 0 ∷ []) value
  pub stuck : (other : List ℕ) → BeginAlike f.reason left other →
      DoesNotRead (integer_at end limit) (prefix ++ other)

unended_here : (end limit b : ℕ) (bytes : List ℕ) (f : Fault) → 0 < end → 0 < limit
    → ((xs : List ℕ) →
    integer_at end limit (b ∷ xs) ≡ failed (stop (b ∷ xs) (reason.Expected expected.Integer)))
    → integer_at end limit (b ∷ bytes) ≡ failed f → Unended end limit (b ∷ bytes) f
unended_here end limit b bytes f from room same q =
    let there = sym (same bytes) ∙ q in
    record {
      prefix = [];
      left = b ∷ bytes;
      value = 0;
      parts = refl;
      place = left_is (b ∷ bytes) (reason.Expected expected.Integer) f there;
      seen = expected_here (b ∷ bytes) expected.Integer f there;
      is_integer = last limit 0 (omega arith) from room;
      stuck = refused_alike (integer_at end limit) b (reason.Expected expected.Integer) f.reason same bytes;
    }

pub integer_unended : (end limit : ℕ) (bytes : List ℕ) (f : Fault) → 0 < end → 0 < limit
    → integer_at end limit bytes ≡ failed f → Unended end limit bytes f
unfolding integer_at
integer_unended end limit [] f from room e =
    record {
      prefix = [];
      left = [];
      value = 0;
      parts = refl;
      place = left_is [] (reason.Expected expected.Integer) f e;
      seen = expected_here [] expected.Integer f e;
      is_integer = last limit 0 (omega arith) from room;
      stuck = λ other alike. absurd ((some_alike f.reason [] other alike).0 refl);
    }
integer_unended end limit (b ∷ bytes) f from room e =
    which (nat_lt b 0x80) _ _ (failed f) e
    (λ h q. which (nat_lt b end && nat_lt b limit) _ _ (failed f) q (λ h1 q1. absurd cc) (λ h1 q1.
    unended_here end limit b bytes f from room (λ xs. rw (h, h1) refl) e))
    (λ h q. which (nat_lt b 0x100 && nat_lt 0x80 limit) _ _ (failed f) q
    (λ h1 q1.
    let k = both_true (nat_lt b 0x100) (nat_lt 0x80 limit) h1 in
    let wide : 0x80 < limit = ltb-true 0x80 limit k.1 in
    let u = integer_unended end (limit / 0x80) bytes f from (omega (arith, wide))
    (map_err (integer_at end (limit / 0x80) bytes) (λ high. high * 0x80 + (b - 0x80)) f q1) in
    record {
      prefix = b ∷ u.prefix;
      left = u.left;
      value = u.value * 0x80 + (b - 0x80);
      parts = ap (λ (v : List ℕ). b ∷ v) u.parts;
      place = u.place;
      seen = u.seen;
      is_integer = more limit b u.value (u.prefix ++ 0 ∷ []) (ltb-false b 0x80 h) (ltb-true b 0x100 k.0) wide
          u.is_integer;
      stuck = λ other alike. (let n = u.stuck other alike in (n.0, rw (h, h1, n.1) refl));
    })
    (λ h1 q1. unended_here end limit b bytes f from room (λ xs. rw (h, h1) refl) e))

integer_halts : {Says : Saying} (end : ℕ) → IsSaid Says → 0 < end →
    HaltsBy Says (IsInteger end (2 ^ 32)) (integer_at end (2 ^ 32))
integer_halts end said from bytes f e =
    let u = integer_unended end (2 ^ 32) bytes f from (omega arith) e in
    ends_with said (IsInteger end (2 ^ 32)) (DoesNotRead (integer_at end (2 ^ 32))) bytes f u.prefix u.left
    (0 ∷ []) u.value u.parts u.place u.seen u.is_integer u.stuck

pub u32_halts : {Says : Saying} → IsSaid Says → HaltsBy Says IsU32 u32_at
u32_halts said = integer_halts 0x80 said (omega arith)

pub s33_halts : Halts IsS33 s33_at
s33_halts = integer_halts 0x40 names_said (omega arith)

-- ---- lists

-- so many items
abbrev AreSo : {A : Type 0} → (List ℕ → A → Type 0) → ℕ → List ℕ → List A → Type 0
AreSo IsText n text items = AreItems IsText text items × (length items ≡ n)

-- with a text
record Listed {A : Type 0} (IsText : List ℕ → A → Type 0) (n : ℕ) : Type 0 where
  text : List ℕ
  items : List A
  are : AreItems IsText text items
  many : length items ≡ n

copies : {A : Type 0} (IsText : List ℕ → A → Type 0) (text : List ℕ) (value : A) → IsText text value
    → (n : ℕ) → Listed IsText n
copies IsText text value h zero = record { text = []; items = []; are = none; many = refl }
copies IsText text value h (suc n) =
    let l = copies IsText text value h n in
    record {
      text = text ++ l.text;
      items = value ∷ l.items;
      are = next text l.text value l.items h l.are;
      many = ap suc l.many;
    }

items_halt : {A : Type 0} (IsText : List ℕ → A → Type 0) (at : List ℕ → Reading A) → IsSound IsText at
    → IsComplete IsText at → Halts IsText at → (text : List ℕ) (value : A) → IsText text value
    → (n : ℕ) → Halts (AreSo IsText n) (items_at at n)
unfolding items_at
items_halt IsText at sound complete halts text value h zero bytes f e = absurd cc
items_halt IsText at sound complete halts text value h (suc n) bytes f e =
    let l = copies IsText text value h n in
    pair_halts IsText (AreSo IsText n) (AreSo IsText (suc n)) at (items_at at n) (λ x xs. x ∷ xs) sound
    complete halts (items_halt IsText at sound complete halts text value h n) l.text l.items (l.are, l.many)
    (λ s t x xs k ks. (next s t x xs k ks.0, ap suc ks.1)) bytes f e

pub vec_halts : {A : Type 0} (IsText : List ℕ → A → Type 0) (at : List ℕ → Reading A) → IsSound IsText at
    → IsComplete IsText at → Halts IsText at → (text : List ℕ) (value : A) → IsText text value
    → Halts (IsVec IsText) (vec_at at)
unfolding vec_at
vec_halts IsText at sound complete halts text value h bytes f e =
    step_err (u32_at bytes) (λ n. items_at at n.0 n.1) f e
    (λ q. within IsU32 (IsVec IsText) [] (λ n. (copies IsText text value h n).text)
    (λ n. (copies IsText text value h n).items)
    (λ t n k.
    let l = copies IsText text value h n in
    counted t l.text l.items (subst (λ m. IsU32 t m) (sym l.many) k) l.are)
    bytes bytes f refl (λ xs begins n. (n.0, rw n.1 refl)) (u32_halts names_said bytes f q))
    (λ n rest i q.
    let t = u32_sound bytes n rest i in
    inside (AreSo IsText n) (IsVec IsText) t.text (λ xs. xs)
    (λ u xs k. counted t.text u xs (subst (λ m. IsU32 t.text m) (sym k.1) t.is_text) k.0)
    rest bytes f t.parts (λ xs begins k. (k.0, rw (u32_complete t.text n xs t.is_text, k.1) refl))
    (items_halt IsText at sound complete halts text value h n rest f q))
