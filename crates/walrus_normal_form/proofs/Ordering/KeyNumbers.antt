-- Sort keys compare as their numbers do.
use Rattle.std.proofs.Common.{◌≡◌, ℕ, ◌+◌, ◌*◌, ◌<◌, inl, inr, refl, ap, sym, ◌∙◌, arith}
use Rattle.std.specs.declared.cmp.Ordering.{Ordering}
use Rattle.std.specs.declared.cmp.Ordering.TheVariants.{Less, Greater}
use Rattle.std.specs.Ordering.{nat_cmp, ordering_then}
use Rattle.std.proofs.lemmas.Bool.{cases_lt}
use Rattle.std.proofs.lemmas.Bool.Decides.{nat_tests}
use Rattle.walrus_ty.proofs.Basics.{nat_same}
use Rattle.walrus_normal_form.specs.SortKeys.{SortKey}
use Rattle.walrus_normal_form.specs.Steps.KeyNumbers.{AreBytes, number_of}
use Rattle.walrus_normal_form.proofs.Ordering.SortKeys.{tuple_cmp}

less_is : (a b : ℕ) → a < b → nat_cmp a b ≡ Less
less_is a b h = grind (arith, nat_tests, h)

greater_is : (a b : ℕ) → b < a → nat_cmp a b ≡ Greater
greater_is a b h = grind (arith, nat_tests, h)

same_is : (x y a b : ℕ) → x ≡ y → nat_cmp (x * 256 + a) (y * 256 + b) ≡ nat_cmp a b
same_is x y a b e = elim (cases_lt a b) [
  | inl w ↦ less_is (x * 256 + a) (y * 256 + b) (omega (arith, w, e)) ∙ sym (less_is a b w)
  | inr w ↦ (elim (cases_lt b a) [
    | inl v ↦ greater_is (x * 256 + a) (y * 256 + b) (omega (arith, v, e)) ∙ sym (greater_is a b v)
    | inr v ↦ (let f : x * 256 + a ≡ y * 256 + b = omega (arith, w, v, e) in let g : a ≡ b = omega (arith, w, v) in
        ap (nat_cmp (x * 256 + a)) (sym f) ∙ (nat_same (x * 256 + a)
        ∙ (sym (nat_same a) ∙ ap (nat_cmp a) g)))
  ])
]

-- one more byte decides last
one_more :
    (x y a b : ℕ) → a < 256 → b < 256 →
    nat_cmp (x * 256 + a) (y * 256 + b) ≡ ordering_then (nat_cmp x y) (nat_cmp a b)
one_more x y a b small small' = elim (cases_lt x y) [
  | inl w ↦ less_is (x * 256 + a) (y * 256 + b) (omega (arith, w, small))
      ∙ ap (λ o. ordering_then o (nat_cmp a b)) (sym (less_is x y w))
  | inr w ↦ (elim (cases_lt y x) [
    | inl v ↦ greater_is (x * 256 + a) (y * 256 + b) (omega (arith, v, small'))
        ∙ ap (λ o. ordering_then o (nat_cmp a b)) (sym (greater_is x y v))
    | inr v ↦ (let e : x ≡ y = omega (arith, w, v) in same_is x y a b e
        ∙ ap (λ o. ordering_then o (nat_cmp a b)) (sym (nat_same x) ∙ ap (nat_cmp x) e))
  ])
]

-- the numbers before the last byte compare as o
after_byte :
    (x y a b : ℕ) (o : Ordering) → nat_cmp x y ≡ o → a < 256 → b < 256 →
    nat_cmp (x * 256 + a) (y * 256 + b) ≡ ordering_then o (nat_cmp a b)
after_byte x y a b o before small small' = one_more x y a b small small'
    ∙ ap (λ p. ordering_then p (nat_cmp a b)) before

pub numbers_are :
    (v w : SortKey) → AreBytes v → AreBytes w → nat_cmp (number_of v) (number_of w) ≡ tuple_cmp v w
numbers_are v w s t =
    after_byte _ _ v.5 w.5 _ (after_byte _ _ v.4 w.4 _ (after_byte _ _ v.3 w.3 _ (after_byte _ _ v.2 w.2 _
    (after_byte v.0 w.0 v.1 w.1 _ refl s.0 t.0) s.1 t.1) s.2 t.2) s.3 t.3) s.4 t.4
