-- A definition spelled from left to right: marks for its shape, and the numbers that it names. For
-- spellings, the laws of renaming and of the order each are one induction.
use Rattle.std.proofs.Common.{◌≡◌, ℕ, ◌<◌, List, [], ◌∷◌, refl, ap, sym, ◌∙◌, inl, inr, ◌⊎◌, arith}
use Rattle.std.specs.declared.cmp.Ordering.{Ordering, TheVariants.Less, TheVariants.Equal, TheVariants.Greater}
use Rattle.std.specs.{Ordering.nat_cmp, Ordering.ordering_then, Ordering.ordering_reverse, Cmp.IsTotalOrder, Cmp.Lexicographic.slice_cmp}
use Rattle.std.proofs.lemmas.{Cmp.nat_cmp_total, Cmp.lists_total, Bool.Decides.nat_tests}

pub data Token : Type 0 where
  Mark : (n : ℕ) → Token
  Name : (k : ℕ) → Token

abbrev pub Spelling : Type 0
Spelling = List Token

abbrev pub retold_token : (ℕ → ℕ) → Token → Token
retold_token m (Mark n) = Mark n
retold_token m (Name k) = Name (m k)

-- each named index k replaced by m k
abbrev pub retold : (ℕ → ℕ) → Spelling → Spelling
retold m [] = []
retold m (t ∷ ts) = retold_token m t ∷ retold m ts

abbrev pub IsNameOf : Token → ℕ → Type 0
IsNameOf (Mark n) k = ⊥
IsNameOf (Name l) k = l ≡ k

-- k is told
abbrev pub Tells : Spelling → ℕ → Type 0
Tells [] k = ⊥
Tells (t ∷ ts) k = IsNameOf t k ⊎ Tells ts k

abbrev pub token_cmp : Token → Token → Ordering
token_cmp (Mark a) (Mark b) = nat_cmp a b
token_cmp (Mark a) (Name l) = Less
token_cmp (Name k) (Mark b) = Greater
token_cmp (Name k) (Name l) = nat_cmp k l

-- by the first token where they differ
abbrev pub spelling_cmp : Spelling → Spelling → Ordering
spelling_cmp [] [] = Equal
spelling_cmp [] (y ∷ ys) = Less
spelling_cmp (x ∷ xs) [] = Greater
spelling_cmp (x ∷ xs) (y ∷ ys) = ordering_then (token_cmp x y) (spelling_cmp xs ys)

-- renamings that agree on the names
pub retold_agree :
    (u v : ℕ → ℕ) (e : Spelling) → ((k : ℕ) → Tells e k → u k ≡ v k) → retold u e ≡ retold v e
retold_agree u v [] h = refl
retold_agree u v (Mark n ∷ ts) h = ap (λ xs. Mark n ∷ xs) (retold_agree u v ts (λ k i. h k (inr i)))
retold_agree u v (Name l ∷ ts) h = let a : u l ≡ v l = h l (inl refl) in let b =
    retold_agree u v ts (λ k i. h k (inr i)) in cc

pub retold_id : (e : Spelling) → retold (λ k. k) e ≡ e
retold_id [] = refl
retold_id (Mark n ∷ ts) = ap (λ xs. Mark n ∷ xs) (retold_id ts)
retold_id (Name n ∷ ts) = ap (λ xs. Name n ∷ xs) (retold_id ts)

pub retold_twice : (u v : ℕ → ℕ) (e : Spelling) → retold u (retold v e) ≡ retold (λ k. u (v k)) e
retold_twice u v [] = refl
retold_twice u v (Mark n ∷ ts) = ap (λ xs. Mark n ∷ xs) (retold_twice u v ts)
retold_twice u v (Name n ∷ ts) = ap (λ xs. Name (u (v n)) ∷ xs) (retold_twice u v ts)

-- what is told once it is retold
pub Tells-retold : (u : ℕ → ℕ) (e : Spelling) (k : ℕ) → Tells e k → Tells (retold u e) (u k)
Tells-retold u [] k x = elim x [ ]
Tells-retold u (Mark n ∷ ts) k (inl h) = elim h [ ]
Tells-retold u (Mark n ∷ ts) k (inr h) = inr (Tells-retold u ts k h)
Tells-retold u (Name l ∷ ts) k (inl h) = inl (ap u h)
Tells-retold u (Name l ∷ ts) k (inr h) = inr (Tells-retold u ts k h)

pub named_before :
    (u : ℕ → ℕ) (e : Spelling) (k : ℕ) → Tells (retold u e) k → (l : ℕ) × Tells e l × (u l ≡ k)
named_before u [] k x = elim x [ ]
named_before u (Mark n ∷ ts) k (inl h) = elim h [ ]
named_before u (Mark n ∷ ts) k (inr h) = let r = named_before u ts k h in (r.0, inr r.1, r.2)
named_before u (Name l ∷ ts) k (inl h) = (l, inl refl, h)
named_before u (Name l ∷ ts) k (inr h) = let r = named_before u ts k h in (r.0, inr r.1, r.2)

-- spellings that u makes equal are made equal by v, which equates what u does
pub transfer :
    (u v : ℕ → ℕ) (e f : Spelling) → ((k l : ℕ) → Tells e k → Tells f l → u k ≡ u l → v k ≡ v l) →
    retold u e ≡ retold u f → retold v e ≡ retold v f
transfer u v [] [] h p = refl
transfer u v [] (y ∷ ys) h p = cc
transfer u v (x ∷ xs) [] h p = cc
transfer u v (Mark a ∷ xs) (Mark b ∷ ys) h p =
    let q : retold u xs ≡ retold u ys = cc in
    let d : a ≡ b = cc in
    let t = transfer u v xs ys (λ k l i j. h k l (inr i) (inr j)) q in cc
transfer u v (Mark a ∷ xs) (Name l ∷ ys) h p = cc
transfer u v (Name k ∷ xs) (Mark b ∷ ys) h p = cc
transfer u v (Name k ∷ xs) (Name l ∷ ys) h p =
    let q : retold u xs ≡ retold u ys = cc in
    let d : u k ≡ u l = cc in
    let w = h k l (inl refl) (inl refl) d in
    let t = transfer u v xs ys (λ a b i j. h a b (inr i) (inr j)) q in cc

-- two renamings that order each name of e and each name of f alike order e and f alike
pub cmp_agree :
    (u v : ℕ → ℕ) (e f : Spelling) →
    ((k l : ℕ) → Tells e k → Tells f l → nat_cmp (u k) (u l) ≡ nat_cmp (v k) (v l)) →
    spelling_cmp (retold u e) (retold u f) ≡ spelling_cmp (retold v e) (retold v f)
cmp_agree u v [] [] h = refl
cmp_agree u v [] (y ∷ ys) h = refl
cmp_agree u v (x ∷ xs) [] h = refl
cmp_agree u v (Mark a ∷ xs) (Mark b ∷ ys) h =
    ap (ordering_then (nat_cmp a b)) (cmp_agree u v xs ys (λ k l i j. h k l (inr i) (inr j)))
cmp_agree u v (Mark a ∷ xs) (Name l ∷ ys) h = refl
cmp_agree u v (Name k ∷ xs) (Mark b ∷ ys) h = refl
cmp_agree u v (Name k ∷ xs) (Name l ∷ ys) h =
    let t = cmp_agree u v xs ys (λ a b i j. h a b (inr i) (inr j)) in
    let w : nat_cmp (u k) (u l) ≡ nat_cmp (v k) (v l) = h k l (inl refl) (inl refl) in
    ap (λ o. ordering_then o (spelling_cmp (retold u xs) (retold u ys))) w
    ∙ ap (ordering_then (nat_cmp (v k) (v l))) t

pub nat_less : (a b : ℕ) → a < b → nat_cmp a b ≡ Less
nat_less a b h = grind (arith, nat_tests)

then_or_less :
    (o a b : Ordering) → (a ≡ b) ⊎ (a ≡ Less) →
    (ordering_then o a ≡ ordering_then o b) ⊎ (ordering_then o a ≡ Less)
then_or_less Less a b h = inl refl
then_or_less Equal a b h = h
then_or_less Greater a b h = inl refl

-- a renaming that sends each name of e below each name of f orders them as any other does, or puts
-- e first
pub cmp_or_less :
    (u v : ℕ → ℕ) (e f : Spelling) → ((k l : ℕ) → Tells e k → Tells f l → u k < u l) →
    (spelling_cmp (retold u e) (retold u f) ≡ spelling_cmp (retold v e) (retold v f)) ⊎
    (spelling_cmp (retold u e) (retold u f) ≡ Less)
cmp_or_less u v [] [] h = inl refl
cmp_or_less u v [] (y ∷ ys) h = inl refl
cmp_or_less u v (x ∷ xs) [] h = inl refl
cmp_or_less u v (Mark a ∷ xs) (Mark b ∷ ys) h =
    then_or_less (nat_cmp a b) _ _ (cmp_or_less u v xs ys (λ k l i j. h k l (inr i) (inr j)))
cmp_or_less u v (Mark a ∷ xs) (Name l ∷ ys) h = inl refl
cmp_or_less u v (Name k ∷ xs) (Mark b ∷ ys) h = inl refl
cmp_or_less u v (Name k ∷ xs) (Name l ∷ ys) h =
    inr (ap (λ o. ordering_then o (spelling_cmp (retold u xs) (retold u ys)))
    (nat_less (u k) (u l) (h k l (inl refl) (inl refl))))

-- the order is total, and ties are equal
tokens_antisymm : (x y : Token) → token_cmp x y ≡ ordering_reverse (token_cmp y x)
tokens_antisymm (Mark a) (Mark b) = nat_cmp_total.antisymm a b
tokens_antisymm (Mark a) (Name b) = refl
tokens_antisymm (Name a) (Mark b) = refl
tokens_antisymm (Name a) (Name b) = nat_cmp_total.antisymm a b

tokens_trans : (x y z : Token) → token_cmp x y ≡ Less → token_cmp y z ≡ Less → token_cmp x z ≡ Less
tokens_trans (Mark a) (Mark b) (Mark c) h i = nat_cmp_total.trans a b c h i
tokens_trans (Mark a) (Mark b) (Name c) h i = refl
tokens_trans (Mark a) (Name b) (Mark c) h i = cc
tokens_trans (Mark a) (Name b) (Name c) h i = refl
tokens_trans (Name a) (Mark b) z h i = cc
tokens_trans (Name a) (Name b) (Mark c) h i = cc
tokens_trans (Name a) (Name b) (Name c) h i = nat_cmp_total.trans a b c h i

tokens_congr : (x y z : Token) → token_cmp x y ≡ Equal → token_cmp x z ≡ token_cmp y z
tokens_congr (Mark a) (Mark b) (Mark c) h = nat_cmp_total.congr a b c h
tokens_congr (Mark a) (Mark b) (Name c) h = refl
tokens_congr (Mark a) (Name b) z h = cc
tokens_congr (Name a) (Mark b) z h = cc
tokens_congr (Name a) (Name b) (Mark c) h = refl
tokens_congr (Name a) (Name b) (Name c) h = nat_cmp_total.congr a b c h

pub tokens_total : IsTotalOrder token_cmp
tokens_total = record { antisymm = tokens_antisymm; trans = tokens_trans; congr = tokens_congr }

spelling_cmp_is : (e f : Spelling) → slice_cmp token_cmp e f ≡ spelling_cmp e f
spelling_cmp_is [] [] = refl
spelling_cmp_is [] (y ∷ ys) = refl
spelling_cmp_is (x ∷ xs) [] = refl
spelling_cmp_is (x ∷ xs) (y ∷ ys) = ap (ordering_then (token_cmp x y)) (spelling_cmp_is xs ys)

pub spellings_total : IsTotalOrder spelling_cmp
spellings_total = let o = lists_total tokens_total in record {
  antisymm = λ x y. rw (← spelling_cmp_is x y, ← spelling_cmp_is y x) (o.antisymm x y);
  trans = λ x y z h i. sym (spelling_cmp_is x z)
      ∙ o.trans x y z (spelling_cmp_is x y ∙ h) (spelling_cmp_is y z ∙ i);
  congr = λ x y z h. sym (spelling_cmp_is x z)
      ∙ (o.congr x y z (spelling_cmp_is x y ∙ h) ∙ spelling_cmp_is y z);
}

pub nat_exact : (a b : ℕ) → nat_cmp a b ≡ Equal → a ≡ b
nat_exact a b h = grind (arith, nat_tests)

pub then_equal : (o p : Ordering) → ordering_then o p ≡ Equal → (o ≡ Equal) × (p ≡ Equal)
then_equal Less p h = cc
then_equal Equal p h = (refl, h)
then_equal Greater p h = cc

pub spelling_exact : (e f : Spelling) → spelling_cmp e f ≡ Equal → e ≡ f
spelling_exact [] [] h = refl
spelling_exact [] (y ∷ ys) h = cc
spelling_exact (x ∷ xs) [] h = cc
spelling_exact (Mark a ∷ xs) (Mark b ∷ ys) h = let r = then_equal (nat_cmp a b) (spelling_cmp xs ys) h in
    let p = nat_exact a b r.0 in let q = spelling_exact xs ys r.1 in cc
spelling_exact (Mark a ∷ xs) (Name b ∷ ys) h = cc
spelling_exact (Name a ∷ xs) (Mark b ∷ ys) h = cc
spelling_exact (Name a ∷ xs) (Name b ∷ ys) h = let r = then_equal (nat_cmp a b) (spelling_cmp xs ys) h in
    let p = nat_exact a b r.0 in let q = spelling_exact xs ys r.1 in cc
