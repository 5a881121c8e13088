-- Reading items one after the other, as a loop does, and as the grammar says.
use Rattle.std.proofs.Common.{◌≡◌, ℕ, zero, suc, ◌-◌, ◌+◌, ◌≤◌, ◌<◌, List, [], ◌∷◌, ◌++◌, length, Ok, Err, refl, sym, ap, subst, ◌∙◌, append_assoc, append-nil, arith}
use Rattle.wasm_binary.specs.declared.error.RawReadError.{RawReadError}
use Rattle.wasm_binary.specs.declared.error.RawReadError.TheVariants as errors
use Rattle.wasm_binary.specs.Leb128.{IsU32}
use Rattle.wasm_binary.specs.Grammar.{AreItems, none, next, IsVec, counted}
use Rattle.wasm_binary.specs.Steps.Reading.{◌>>=◌, Fails, u32_at, items_at, vec_at}
use Rattle.wasm_binary.proofs.Basics.{Reading, Takes, IsSound, IsComplete, bind_ok, value_is, rest_is}
use Rattle.wasm_binary.proofs.Integers.{u32_sound, u32_complete}

pub one_item : {A : Type 0} (IsText : List ℕ → A → Type 0) (text : List ℕ) (x : A) → IsText text x →
    AreItems IsText text (x ∷ [])
one_item IsText text x h = subst (λ (u : List ℕ). AreItems IsText u (x ∷ [])) (append-nil text)
    (next text [] x [] h none)

pub joined : {A : Type 0} (IsText : List ℕ → A → Type 0) (a b : List ℕ) (xs ys : List A) →
    AreItems IsText a xs → AreItems IsText b ys → AreItems IsText (a ++ b) (xs ++ ys)
joined IsText _ b _ ys none k = k
joined IsText _ b _ ys (next text others x xs h hs) k =
    subst (λ (u : List ℕ). AreItems IsText u (x ∷ (xs ++ ys))) (sym (append_assoc text others b))
    (next text (others ++ b) x (xs ++ ys) h (joined IsText others b xs ys hs k))

-- what was read before, and what is still read
abbrev pub with_prefix : {A : Type 0} → List A → Reading (List A) → Reading (List A)
with_prefix prefix read = read >>= (λ x. Ok (prefix ++ x.0, x.1))

regroup : {A : Type 0} (prefix : List A) (n : A) (read : Reading (List A)) →
    with_prefix prefix (read >>= (λ x. Ok (n ∷ x.0, x.1))) ≡ with_prefix (prefix ++ n ∷ []) read
regroup prefix n (Ok x) = ap (λ (ns : List _). Ok (ns, x.1)) (sym (append_assoc prefix (n ∷ []) x.0))
regroup prefix n (Err f) = refl

pub goes_on : {A : Type 0} (at : List ℕ → Reading A) (prefix : List A) (count i : ℕ) (bytes : List ℕ) (n : A)
    (after : List ℕ) (total : Reading (List A)) → i < count → at bytes ≡ Ok (n, after)
    → with_prefix prefix (items_at at (count - i) bytes) ≡ total →
    with_prefix (prefix ++ n ∷ []) (items_at at (count - (i + 1)) after) ≡ total
unfolding items_at
goes_on at prefix count i bytes n after total lt h so_far =
    let k : count - i ≡ suc (count - (i + 1)) = omega arith in
    let one : with_prefix prefix (items_at at (count - i) bytes) ≡ with_prefix (prefix ++ n ∷ [])
    (items_at at (count - (i + 1)) after) = rw (k, h)
    (regroup prefix n (items_at at (count - (i + 1)) after)) in
    sym one ∙ so_far

pub ends : {A : Type 0} (at : List ℕ → Reading A) (left : List ℕ) (e : RawReadError) (prefix : List A)
    (count i : ℕ) (bytes : List ℕ) (total : Reading (List A)) → i < count → Fails left e (at bytes)
    → with_prefix prefix (items_at at (count - i) bytes) ≡ total → Fails left e total
unfolding items_at
ends at left errors.Memory prefix count i bytes total lt h so_far = tt
ends at left (errors.Reason r) prefix count i bytes total lt h so_far =
    let k : count - i ≡ suc (count - (i + 1)) = omega arith in
    let one : with_prefix prefix (items_at at (count - i) bytes) ≡ Err
    (record { left = length left; reason = r }) = rw (k, h) refl in
    sym so_far ∙ one

pub is_done : {A : Type 0} (at : List ℕ → Reading A) (prefix : List A) (count i : ℕ) (bytes : List ℕ)
    (total : Reading (List A)) → count ≤ i → with_prefix prefix (items_at at (count - i) bytes) ≡ total →
    total ≡ Ok (prefix, bytes)
unfolding items_at
is_done at prefix count i bytes total le so_far =
    let k : count - i ≡ 0 = omega arith in
    let one : with_prefix prefix (items_at at (count - i) bytes) ≡ Ok (prefix, bytes) =
    rw k (ap (λ (ns : List _). Ok (ns, bytes)) (append-nil prefix)) in
    sym so_far ∙ one

pub items_take : {A : Type 0} (IsText : List ℕ → A → Type 0) (at : List ℕ → Reading A) → IsSound IsText at →
    (n : ℕ) (bytes : List ℕ) (items : List A) (rest : List ℕ) → items_at at n bytes ≡ Ok (items, rest) →
    Takes (AreItems IsText) bytes items rest × (length items ≡ n)
unfolding items_at
items_take IsText at sound zero bytes items rest e =
    subst (λ (k : List _). Takes (AreItems IsText) bytes k rest × (length k ≡ 0))
    (value_is [] items bytes rest e)
    (record { text = []; is_text = none; parts = rest_is [] items bytes rest e }, refl)
items_take IsText at sound (suc n) bytes items rest e =
    let a = bind_ok (at bytes) (λ x. items_at at n x.1 >>= (λ xs. Ok (x.0 ∷ xs.0, xs.1))) (items, rest) e in
    let b = bind_ok (items_at at n a.0.1) (λ xs. Ok (a.0.0 ∷ xs.0, xs.1)) (items, rest) a.2 in
    let s = sound bytes a.0.0 a.0.1 a.1 in
    let t = items_take IsText at sound n a.0.1 b.0.0 b.0.1 b.1 in
    let behind : a.0.1 ≡ t.0.text ++ rest = t.0.parts
    ∙ ap (λ (u : List ℕ). t.0.text ++ u) (rest_is (a.0.0 ∷ b.0.0) items b.0.1 rest b.2) in
    let whole : bytes ≡ (s.text ++ t.0.text) ++ rest = s.parts ∙ ap (λ (u : List ℕ). s.text ++ u) behind
    ∙ sym (append_assoc s.text t.0.text rest) in
    subst (λ (k : List _). Takes (AreItems IsText) bytes k rest × (length k ≡ suc n))
    (value_is (a.0.0 ∷ b.0.0) items b.0.1 rest b.2) (
      record {
        text = s.text ++ t.0.text;
        is_text = next s.text t.0.text a.0.0 b.0.0 s.is_text t.0.is_text;
        parts = whole;
      },
      ap suc t.1,
    )

pub items_again : {A : Type 0} (IsText : List ℕ → A → Type 0) (at : List ℕ → Reading A) →
    IsComplete IsText at → (bytes : List ℕ) (items : List A) (rest : List ℕ) → AreItems IsText bytes items →
    items_at at (length items) (bytes ++ rest) ≡ Ok (items, rest)
unfolding items_at
items_again IsText at complete _ _ rest none = refl
items_again IsText at complete _ _ rest (next text others item items h hs) =
    rw (
      append_assoc text others rest,
      complete text item (others ++ rest) h,
      items_again
          IsText at complete others items rest hs,
    ) refl

pub vec_sound : {A : Type 0} (IsText : List ℕ → A → Type 0) (at : List ℕ → Reading A) → IsSound IsText at →
    IsSound (IsVec IsText) (vec_at at)
unfolding vec_at
vec_sound IsText at sound bytes items rest e =
    let a = bind_ok (u32_at bytes) (λ n. items_at at n.0 n.1) (items, rest) e in
    let s = u32_sound bytes a.0.0 a.0.1 a.1 in
    let t = items_take IsText at sound a.0.0 a.0.1 items rest a.2 in
    record {
      text = s.text ++ t.0.text;
      is_text = counted s.text t.0.text items (subst (λ k. IsU32 s.text k) (sym t.1) s.is_text) t.0.is_text;
      parts = s.parts ∙ ap (λ (u : List ℕ). s.text ++ u) t.0.parts ∙ sym (append_assoc s.text t.0.text rest);
    }

pub vec_complete : {A : Type 0} (IsText : List ℕ → A → Type 0) (at : List ℕ → Reading A) →
    IsComplete IsText at → IsComplete (IsVec IsText) (vec_at at)
unfolding vec_at
vec_complete IsText at complete _ _ rest (counted count texts items h hs) =
    rw (append_assoc count texts rest, u32_complete count (length items) (texts ++ rest) h) (items_again
    IsText at complete texts items rest hs)
