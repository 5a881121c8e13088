-- Numbers, truth values and lists are read back from what `Hash` is fed of them, in front of what
-- follows. So what is fed alike is the same.
use Rattle.std.proofs.Common.{◌≡◌, ℕ, zero, suc, ◌<◌, ◌^◌, ◌==◌, Bool, true, false, List, [], ◌∷◌, ◌++◌, length, cond, Option, None, Some, refl, ap, sym, ◌∙◌, arith, append_assoc}
use Rattle.std.specs.{Hash.HashWrites, Hash.le_bytes, Int.from_le_bytes, List.flat_map, List.AllByRecursion, Option.IfSome}
use Rattle.std.specs.Hash as fed
use Rattle.std.proofs.lemmas.Nat.{from_le_bytes-to_le_bytes_4, from_le_bytes-to_le_bytes_8}
use mir.Syntax.{w32, w64}
use Rattle.walrus_ty.specs.HashInput.{HashesBy}

-- a value, and the writes that follow it
pub data Read (A : Type 0) : Type 0 where
  Got : (value : A) (rest : HashWrites) → Read A

abbrev pub bind : {A B : Type 0} → Read A → (A → HashWrites → Read B) → Read B
bind (Got x ws) f = f x ws

-- the number that a write tells
abbrev pub told : List ℕ → ℕ
told w = from_le_bytes w64 w

abbrev pub next : HashWrites → ℕ
next [] = 0
next (w ∷ ws) = told w

abbrev pub rest : HashWrites → HashWrites
rest [] = []
rest (w ∷ ws) = ws

pub tells : (n : ℕ) → n < 2 ^ 64 → told (le_bytes 8 n) ≡ n
unfolding le_bytes
tells n h = from_le_bytes-to_le_bytes_8 n h

pub tag_tells : (n : ℕ) → n < 12 → told (le_bytes 8 n) ≡ n
tag_tells n h = tells n (omega (arith, h))

-- what is fed of a value, in front of anything, is read back as it
abbrev pub ReadsBack : {A : Type 0} → (A → Type 0) → (A → HashWrites) → (HashWrites → Read A) → Type 0
ReadsBack {A} Fits input read = (x : A) → Fits x → (ts : HashWrites) → read (input x ++ ts) ≡ Got x ts

value : {A : Type 0} → A → Read A → A
value x (Got y ws) = y

pub apart :
    {A : Type 0} (Fits : A → Type 0) (input : A → HashWrites) (read : HashWrites → Read A) →
    ReadsBack Fits input read → (x y : A) → Fits x → Fits y → input x ≡ input y → x ≡ y
unfolding value
apart Fits input read back x y f g e = ap (value x) (sym (back x f [])
    ∙ (ap (λ ws. read (ws ++ [])) e ∙ back y g []))

abbrev pub bool_read : HashWrites → Read Bool
bool_read ws = Got (next ws == 1) (rest ws)

pub bool_back : (b : Bool) (ts : HashWrites) → bool_read (fed.bool b ++ ts) ≡ Got b ts
bool_back true ts = refl
bool_back false ts = refl

abbrev pub items_read : {A : Type 0} → (HashWrites → Read A) → ℕ → HashWrites → Read (List A)
items_read read zero ws = Got [] ws
items_read read (suc n) ws = bind (read ws) (λ x us. bind (items_read read n us) (λ xs vs. Got (x ∷ xs) vs))

items_back :
    {A : Type 0} (Fits : A → Type 0) (input : A → HashWrites) (read : HashWrites → Read A) →
    ReadsBack Fits input read → (xs : List A) → AllByRecursion Fits xs → (ts : HashWrites) →
    items_read read (length xs) (flat_map input xs ++ ts) ≡ Got xs ts
items_back Fits input read back [] h ts = refl
items_back Fits input read back (x ∷ xs) h ts =
    ap (items_read read (suc (length xs))) (append_assoc (input x) (flat_map input xs) ts)
    ∙ (ap (λ r. bind r (λ y us. bind (items_read read (length xs) us) (λ ys vs. Got (y ∷ ys) vs)))
    (back x h.0 (flat_map input xs ++ ts))
    ∙ ap (λ r. bind r (λ ys vs. Got (x ∷ ys) vs)) (items_back Fits input read back xs h.1 ts))

abbrev pub list_read : {A : Type 0} → (HashWrites → Read A) → HashWrites → Read (List A)
list_read read ws = items_read read (next ws) (rest ws)

pub list_back :
    {A : Type 0} (Fits : A → Type 0) (input : A → HashWrites) (read : HashWrites → Read A) →
    ReadsBack Fits input read → (xs : List A) → length xs < 2 ^ 64 → AllByRecursion Fits xs →
    (ts : HashWrites) → list_read read (fed.slice input xs ++ ts) ≡ Got xs ts
list_back Fits input read back xs short h ts =
    ap (λ m. items_read read m (flat_map input xs ++ ts)) (tells (length xs) short)
    ∙ items_back Fits input read back xs h ts

-- two lists, one after the other
abbrev pub lists_read :
    {A B : Type 0} → (List A → List A → B) → (HashWrites → Read A) → HashWrites → Read B
lists_read f read ws = bind (list_read read ws) (λ ps us.
    bind (list_read read us) (λ rs vs. Got (f ps rs) vs))

pub lists_back :
    {A B : Type 0} (f : List A → List A → B) (Fits : A → Type 0) (input : A → HashWrites)
    (read : HashWrites → Read A) → ReadsBack Fits input read → (ps rs : List A) →
    ((length ps < 2 ^ 64) × AllByRecursion Fits ps) →
    ((length rs < 2 ^ 64) × AllByRecursion Fits rs) → (ts : HashWrites) →
    lists_read f read ((fed.slice input ps ++ fed.slice input rs) ++ ts) ≡ Got (f ps rs) ts
lists_back f Fits input read back ps rs g h ts =
    ap (lists_read f read) (append_assoc (fed.slice input ps) (fed.slice input rs) ts)
    ∙ (ap (λ q. bind q (λ xs us. bind (list_read read us) (λ ys vs. Got (f xs ys) vs)))
    (list_back Fits input read back ps g.0 g.1 (fed.slice input rs ++ ts))
    ∙ ap (λ q. bind q (λ ys vs. Got (f ps ys) vs)) (list_back Fits input read back rs h.0 h.1 ts))

abbrev pub option_read : {A : Type 0} → (HashWrites → Read A) → HashWrites → Read (Option A)
option_read read ws = cond (next ws == 0) (Got None (rest ws))
    (bind (read (rest ws)) (λ x us. Got (Some x) us))

pub option_back :
    {A : Type 0} (Fits : A → Type 0) (input : A → HashWrites) (read : HashWrites → Read A) →
    ReadsBack Fits input read → ReadsBack (λ o. IfSome o Fits) (fed.option input) (option_read read)
option_back Fits input read back None h ts =
    ap (λ m. cond (m == 0) (Got None ts) (bind (read ts) (λ x us. Got (Some x) us)))
    (tag_tells 0 (omega arith))
option_back Fits input read back (Some x) h ts =
    ap (λ m. cond (m == 0) (Got None (input x ++ ts)) (bind (read (input x ++ ts)) (λ y us. Got (Some y) us)))
    (tag_tells 1 (omega arith))
    ∙ ap (λ q. bind q (λ y us. Got (Some y) us)) (back x h ts)

-- ids and indices

abbrev pub id_read : HashWrites → Read ℕ
id_read ws = Got (next ws) (rest ws)

pub id_back : ReadsBack (λ k. k < 2 ^ 64) fed.usize id_read
id_back k h ts = ap (λ m. Got m ts) (tells k h)

abbrev next_index : HashWrites → ℕ
next_index [] = 0
next_index (w ∷ ws) = from_le_bytes w32 w

abbrev pub index_read : HashWrites → Read ℕ
index_read ws = Got (next_index ws) (rest ws)

pub index_back : ReadsBack (λ k. k < 2 ^ 32) fed.u32 index_read
unfolding le_bytes
index_back k h ts = ap (λ m. Got m ts) (from_le_bytes-to_le_bytes_4 k h)

-- what is read back is fed apart
pub hashes :
    {A : Type 0} (Fits : A → Type 0) (input : A → HashWrites) (read : HashWrites → Read A) →
    ReadsBack Fits input read → HashesBy (λ (x : A). x) Fits input
hashes Fits input read back = record { alike = λ x y. ap input; apart = apart Fits input read back }
