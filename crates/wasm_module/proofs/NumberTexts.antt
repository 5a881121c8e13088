-- A number has one text with a width, as short as may be.
use Rattle.std.proofs.Common.{◌≡◌, ℕ, ◌+◌, ◌/◌, ◌^◌, List, [], ◌∷◌, ◌++◌, length, take, refl, sym, ap, subst, ◌∙◌, length-append, take_at, arith, le_refl}
use Rattle.wasm_binary.specs.Leb128.{IsInteger}
use Rattle.wasm_binary.specs.Leb128.IsInteger.{last as byte_last, more as longer}
use Rattle.wasm_module.specs.declared.renaming.Widths.{Widths}
use Rattle.wasm_module.specs.declared.renaming.Widths.TheVariants as widths
use Rattle.wasm_module.specs.Renaming.{least_width, IsTextOf}
use Rattle.wasm_module.proofs.Padding.{integer_some}

same_text : (end limit : ℕ) (a : List ℕ) (n : ℕ) → IsInteger end limit a n → (other_limit m : ℕ)
    (b : List ℕ) → IsInteger end other_limit b m → n ≡ m → length a ≡ length b → a ≡ b
same_text end _ _ _ (byte_last limit x low ends fits) _ _ _ (byte_last limit' y low' ends' fits') e long =
    ap (λ k. k ∷ []) e
same_text end _ _ _ (byte_last limit x low ends fits) _ _ _
    (longer limit' y high bytes big is wide t) e long =
    absurd (let some = integer_some end (limit' / 0x80) bytes high t in omega (arith, some, long))
same_text end _ _ _ (longer limit y high bytes big is wide t) _ _ _
    (byte_last limit' x low ends fits) e long =
    absurd (let some = integer_some end (limit / 0x80) bytes high t in omega (arith, some, long))
same_text end _ _ _ (longer limit x high bytes big is wide t) _ _ _
    (longer limit' y high' bytes' big' is' wide' t') e long =
    let head : x ≡ y = omega (arith, e, big, is, big', is') in
    let tail : high ≡ high' = omega (arith, e, big, is, big', is') in
    ap (λ k. k ∷ bytes) head
    ∙ ap (λ (u : List ℕ). y ∷ u) (same_text end (limit / 0x80) bytes high t (limit' / 0x80) high' bytes' t'
    tail (omega (arith, long)))

pub text_once : (end least : ℕ) (a b : List ℕ) (n m : ℕ) → IsTextOf end least a n → IsTextOf end least b m →
    n ≡ m → a ≡ b
text_once end least a b n m h g e =
    let ab = h.shortest b (subst (λ k. IsInteger end (2 ^ 32) b k) (sym e) g.is_text) g.wide in
    let ba = g.shortest a (subst (λ k. IsInteger end (2 ^ 32) a k) e h.is_text) h.wide in
    same_text end (2 ^ 32) a n h.is_text (2 ^ 32) m b g.is_text e (omega (arith, ab, ba))

-- a text has its own width
pub own_width : (end : ℕ) (text : List ℕ) (n : ℕ) → IsInteger end (2 ^ 32) text n →
    IsTextOf end (length text) text n
own_width end text n h =
    record { is_text = h; wide = le_refl (length text); shortest = λ others t le. le }

-- what was written with a width has it
pub written_width : (end : ℕ) (w : Widths) (before : ℕ) (text : List ℕ) (n : ℕ) →
    IsTextOf end (least_width w before) text n → IsTextOf end (least_width w (length text)) text n
written_width end widths.Shortest before text n t = t
written_width end widths.Kept before text n t = own_width end text n t.is_text

pub cancel : (a b x y : List ℕ) → a ++ x ≡ b ++ y → x ≡ y → a ≡ b
cancel a b x y e same =
    let long : length a + length x ≡ length b + length y = sym (length-append a x)
    ∙ ap (λ (u : List ℕ). length u) e ∙ length-append b y in
    let tails : length x ≡ length y = ap (λ (u : List ℕ). length u) same in
    sym (take_at a x (length a) refl) ∙ ap (take (length a)) e
    ∙ take_at b y (length a) (omega (arith, long, tails))
