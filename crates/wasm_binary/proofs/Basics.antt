-- Small lemmas on readings.
use Rattle.std.proofs.Common.{◌≡◌, ℕ, nat_eq, eqb-true, Bool, true, false, cond, List, [], ◌∷◌, ◌++◌, Result, Ok, Err, refl, sym, ap, subst, ◌∙◌, append_assoc, inl, inr, ◌⊎◌}
use Rattle.wasm_binary.specs.declared.error.Fault.{Fault}
use Rattle.wasm_binary.specs.Steps.Reading.{◌>>=◌}

-- a reading of bytes
abbrev pub Reading : Type 0 → Type 0
Reading A = Result (A × List ℕ) Fault

-- the bytes are a text of the value, and what is left
pub record Takes {A : Type 0} (IsText : List ℕ → A → Type 0) (bytes : List ℕ) (value : A) (rest : List ℕ) :
    Type 0 where
  pub text : List ℕ
  pub is_text : IsText text value
  pub parts : bytes ≡ text ++ rest

-- what is read has the text that stands there
abbrev pub IsSound : {A : Type 0} → (List ℕ → A → Type 0) → (List ℕ → Reading A) → Type 0
IsSound IsText reads =
    (bytes : List ℕ) (value : _) (rest : List ℕ) → reads bytes ≡ Ok (value, rest) →
    Takes IsText bytes value rest

-- what has a text there is read
abbrev pub IsComplete : {A : Type 0} → (List ℕ → A → Type 0) → (List ℕ → Reading A) → Type 0
IsComplete IsText reads =
    (text : List ℕ) (value : _) (rest : List ℕ) → IsText text value →
    reads (text ++ rest) ≡ Ok (value, rest)

-- the value of a step that did not fail
pub bind_ok : {A B : Type 0} (r : Result A Fault) (f : A → Result B Fault) (y : B) → (r >>= f) ≡ Ok y →
    (x : A) × (r ≡ Ok x) × (f x ≡ Ok y)
bind_ok (Ok x) f y e = (x, refl, e)
bind_ok (Err d) f y e = absurd cc

pub not_both : {A : Type 0} (x : Result A Fault) (f : Fault) (y : A) → x ≡ Err f → x ≡ Ok y → ⊥
not_both x f y e h = absurd cc

-- which way a test went
pub chosen : {A : Type 0} (b : Bool) (x y z : A) → cond b x y ≡ z → ((b ≡ true) × (x ≡ z))
    ⊎ ((b ≡ false) × (y ≡ z))
chosen true x y z e = inl (refl, e)
chosen false x y z e = inr (refl, e)

abbrev ended : {A : Type 0} → A → Result A Fault
ended x = Ok x

ok_is : {A : Type 0} (x y : A) → ended x ≡ ended y → x ≡ y
ok_is x y e = cc

-- a test that did not fail
pub guard_ok : {A : Type 0} (b : Bool) (x : Result A Fault) (d : Fault) (y : A) → cond b x (Err d) ≡ Ok y →
    (b ≡ true) × (x ≡ Ok y)
guard_ok true x d y e = (refl, e)
guard_ok false x d y e = absurd cc

abbrev pub done : {A : Type 0} → A → List ℕ → Reading A
done x rest = Ok (x, rest)

pub value_is : {A : Type 0} (x y : A) (r s : List ℕ) → done x r ≡ done y s → x ≡ y
value_is x y r s e = ap (λ k. k.0) (ok_is (x, r) (y, s) e)

pub rest_is : {A : Type 0} (x y : A) (r s : List ℕ) → done x r ≡ done y s → r ≡ s
rest_is x y r s e = ap (λ k. k.1) (ok_is (x, r) (y, s) e)

-- what follows from a choice, from both of its sides
pub split : {A P : Type 0} (b : Bool) (x y z : A) → cond b x y ≡ z → (x ≡ z → P) → (y ≡ z → P) → P
split true x y z e f g = f e
split false x y z e f g = g e

-- what follows from a choice and what was chosen
pub which : {A P : Type 0} (b : Bool) (x y z : A) → cond b x y ≡ z → (b ≡ true → x ≡ z → P) →
    (b ≡ false → y ≡ z → P) → P
which true x y z e f g = f refl e
which false x y z e f g = g refl e

-- what follows from a choice by which byte it is
pub branch : {A : Type 0} (P : ℕ → Type 0) (b k : ℕ) (x y z : A) → cond (nat_eq b k) x y ≡ z → (x ≡ z → P k) →
    (y ≡ z → P b) → P b
branch P b k x y z e f g =
    elim (chosen (nat_eq b k) x y z e) [
      | inl yes-it-is ↦ subst P (sym (eqb-true b k yes-it-is.0)) (f yes-it-is.1)
      | inr not-it ↦ g not-it.1
    ]

-- a text of one byte
pub one_takes : {A : Type 0} (IsText : List ℕ → A → Type 0) (k : ℕ) (bytes : List ℕ) (x v : A) (rest : List ℕ)
    → IsText (k ∷ []) x → done x bytes ≡ done v rest → Takes IsText (k ∷ bytes) v rest
one_takes IsText k bytes x v rest t e =
    record {
      text = k ∷ [];
      is_text = subst (λ y. IsText (k ∷ []) y) (value_is x v bytes rest e) t;
      parts = ap (λ (r : List ℕ). k ∷ r) (rest_is x v bytes rest e);
    }

-- a text with some bytes before it, of a value that is made of another
pub map_takes : {A B : Type 0} (IsA : List ℕ → A → Type 0) (IsB : List ℕ → B → Type 0) (reads : List ℕ →
    Reading A) (f : A → B) (pre : List ℕ)
    → IsSound IsA reads → ((t : List ℕ) (a : A) → IsA t a → IsB (pre ++ t) (f a))
    → (bytes : List ℕ) (v : B) (rest : List ℕ) → (reads bytes >>= (λ x. done (f x.0) x.1)) ≡ Ok (v, rest) →
    Takes IsB (pre ++ bytes) v rest
map_takes IsA IsB reads f pre sound made bytes v rest e =
    let a = bind_ok (reads bytes) (λ x. done (f x.0) x.1) (v, rest) e in
    let t = sound bytes a.0.0 a.0.1 a.1 in
    record {
      text = pre ++ t.text;
      is_text = subst (λ y. IsB (pre ++ t.text) y) (value_is (f a.0.0) v a.0.1 rest a.2)
          (made t.text a.0.0 t.is_text);
      parts = ap (λ (u : List ℕ). pre ++ u) (t.parts
          ∙ ap (λ (u : List ℕ). t.text ++ u) (rest_is (f a.0.0) v a.0.1 rest a.2))
          ∙ sym (append_assoc pre t.text rest);
    }

-- two texts after some bytes, of a value that is made of two
pub pair_takes : {A B C : Type 0} (IsA : List ℕ → A → Type 0) (IsB : List ℕ → B → Type 0) (IsC : List ℕ → C →
    Type 0) (p : List ℕ → Reading A) (q : List ℕ → Reading B) (f : A → B → C) (pre : List ℕ)
    → IsSound IsA p → IsSound IsB q → ((s t : List ℕ) (a : A) (b : B) → IsA s a → IsB t b →
    IsC (pre ++ (s ++ t)) (f a b))
    → (bytes : List ℕ) (v : C) (rest : List ℕ) →
    (p bytes >>= (λ x. q x.1 >>= (λ y. done (f x.0 y.0) y.1))) ≡ Ok (v, rest) →
    Takes IsC (pre ++ bytes) v rest
pair_takes IsA IsB IsC p q f pre first second made bytes v rest e =
    let a = bind_ok (p bytes) (λ x. q x.1 >>= (λ y. done (f x.0 y.0) y.1)) (v, rest) e in
    let b = bind_ok (q a.0.1) (λ y. done (f a.0.0 y.0) y.1) (v, rest) a.2 in
    let s = first bytes a.0.0 a.0.1 a.1 in
    let t = second a.0.1 b.0.0 b.0.1 b.1 in
    let behind : a.0.1 ≡ t.text ++ rest = t.parts
    ∙ ap (λ (u : List ℕ). t.text ++ u) (rest_is (f a.0.0 b.0.0) v b.0.1 rest b.2) in
    let whole : bytes ≡ (s.text ++ t.text) ++ rest = s.parts ∙ ap (λ (u : List ℕ). s.text ++ u) behind
    ∙ sym (append_assoc s.text t.text rest) in
    record {
      text = pre ++ (s.text ++ t.text);
      is_text = subst (λ y. IsC (pre ++ (s.text ++ t.text)) y) (value_is (f a.0.0 b.0.0) v b.0.1 rest b.2)
          (made s.text t.text a.0.0 b.0.0 s.is_text t.is_text);
      parts = ap (λ (u : List ℕ). pre ++ u) whole ∙ sym (append_assoc pre (s.text ++ t.text) rest);
    }

-- and the other way round
pub pair_again : {A B C : Type 0} (IsA : List ℕ → A → Type 0) (IsB : List ℕ → B → Type 0) (p : List ℕ →
    Reading A) (q : List ℕ → Reading B) (f : A → B → C)
    → IsComplete IsA p → IsComplete IsB q → (s t : List ℕ) (a : A) (b : B) (rest : List ℕ) → IsA s a → IsB t b
    → (p ((s ++ t) ++ rest) >>= (λ x. q x.1 >>= (λ y. done (f x.0 y.0) y.1))) ≡ Ok (f a b, rest)
pair_again IsA IsB p q f first second s t a b rest h k =
    rw (append_assoc s t rest, first s a (t ++ rest) h, second t b rest k) refl
