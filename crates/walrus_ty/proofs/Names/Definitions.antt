-- Renaming and the order of definitions.
use Rattle.std.proofs.Common.{◌≡◌, ℕ, ◌<◌, ap, sym, ◌∙◌, inl, inr, ◌⊎◌, subst}
use Rattle.std.specs.declared.cmp.Ordering.TheVariants.{Less, Equal}
use Rattle.std.specs.{Ordering.nat_cmp, Cmp.IsTotalOrder}
use Rattle.walrus_ty.specs.Definition.{Definition, Names, rename, definition_cmp}
use Rattle.walrus_ty.proofs.Spelling.Tokens as token
use Rattle.walrus_ty.proofs.Spelling.{Spelled.spelled, Spelled.renames, Spelled.orders, Spelled.told_if_named, Spelled.named_if_told, Injective.told}

-- renamings that agree on the names
pub rename_agree :
    (u v : ℕ → ℕ) (d : Definition) → ((k : ℕ) → Names d k → u k ≡ v k) → rename u d ≡ rename v d
rename_agree u v d h = told (rename u d) (rename v d)
    (sym (renames u d) ∙ (token.retold_agree u v (spelled d) (λ k t. h k (named_if_told d k t))
    ∙ renames v d))

pub rename_id : (d : Definition) → rename (λ k. k) d ≡ d
rename_id d = told (rename (λ k. k) d) d (sym (renames (λ k. k) d) ∙ token.retold_id (spelled d))

pub rename_twice :
    (u v : ℕ → ℕ) (d : Definition) → rename u (rename v d) ≡ rename (λ k. u (v k)) d
rename_twice u v d = told (rename u (rename v d)) (rename (λ k. u (v k)) d)
    (sym (renames u (rename v d)) ∙ (ap (token.retold u) (sym (renames v d))
    ∙ (token.retold_twice u v (spelled d) ∙ renames (λ k. u (v k)) d)))

-- what a renamed definition names
pub Names-rename : (u : ℕ → ℕ) (d : Definition) (k : ℕ) → Names d k → Names (rename u d) (u k)
Names-rename u d k h = named_if_told (rename u d) (u k)
    (subst (λ (w : token.Spelling). token.Tells w (u k)) (renames u d)
    (token.Tells-retold u (spelled d) k (told_if_named d k h)))

pub named_before :
    (u : ℕ → ℕ) (d : Definition) (k : ℕ) → Names (rename u d) k → (l : ℕ) × Names d l × (u l ≡ k)
named_before u d k h =
    let r = token.named_before u (spelled d) k (subst (λ (w : token.Spelling). token.Tells w k)
    (sym (renames u d)) (told_if_named (rename u d) k h)) in
    (r.0, named_if_told d r.0 r.1, r.2)

-- definitions that u makes equal are made equal by v, which equates what u does
pub transfer :
    (u v : ℕ → ℕ) (d e : Definition) → ((k l : ℕ) → Names d k → Names e l → u k ≡ u l → v k ≡ v l) →
    rename u d ≡ rename u e → rename v d ≡ rename v e
transfer u v d e h p = told (rename v d) (rename v e)
    (sym (renames v d) ∙ (token.transfer u v (spelled d) (spelled e) (λ k l i j.
    h k l (named_if_told d k i) (named_if_told e l j))
    (renames u d ∙ (ap spelled p ∙ sym (renames u e))) ∙ renames v e))

-- the order of renamed definitions, by their spellings
rename_orders :
    (u : ℕ → ℕ) (d e : Definition) →
    definition_cmp (rename u d) (rename u e) ≡
    token.spelling_cmp (token.retold u (spelled d)) (token.retold u (spelled e))
rename_orders u d e = sym (orders (rename u d) (rename u e))
    ∙ (ap (λ w. token.spelling_cmp w (spelled (rename u e))) (sym (renames u d))
    ∙ ap (token.spelling_cmp (token.retold u (spelled d))) (sym (renames u e)))

-- two renamings that order each name of d and each name of e alike order d and e alike
pub cmp_agree :
    (u v : ℕ → ℕ) (d e : Definition) →
    ((k l : ℕ) → Names d k → Names e l → nat_cmp (u k) (u l) ≡ nat_cmp (v k) (v l)) →
    definition_cmp (rename u d) (rename u e) ≡ definition_cmp (rename v d) (rename v e)
cmp_agree u v d e h = rename_orders u d e ∙ (token.cmp_agree u v (spelled d) (spelled e) (λ k l i j.
    h k l (named_if_told d k i) (named_if_told e l j)) ∙ sym (rename_orders v d e))

-- a renaming that sends each name of d below each name of e orders them as any other does, or puts
-- d first
pub cmp_or_less :
    (u v : ℕ → ℕ) (d e : Definition) → ((k l : ℕ) → Names d k → Names e l → u k < u l) →
    (definition_cmp (rename u d) (rename u e) ≡ definition_cmp (rename v d) (rename v e)) ⊎
    (definition_cmp (rename u d) (rename u e) ≡ Less)
cmp_or_less u v d e h = elim (token.cmp_or_less u v (spelled d) (spelled e) (λ k l i j.
    h k l (named_if_told d k i) (named_if_told e l j))) [
      | inl x ↦ inl (rename_orders u d e ∙ (x ∙ sym (rename_orders v d e)))
      | inr x ↦ inr (rename_orders u d e ∙ x)
    ]

-- the order is total, and ties are the same
pub definitions_total : IsTotalOrder definition_cmp
definitions_total = let o = token.spellings_total in record {
  antisymm = λ x y. rw (← orders x y, ← orders y x) (o.antisymm (spelled x) (spelled y));
  trans = λ x y z h i. sym (orders x z) ∙ o.trans (spelled x) (spelled y) (spelled z) (orders x y ∙ h)
      (orders y z ∙ i);
  congr = λ x y z h. sym (orders x z) ∙ (o.congr (spelled x) (spelled y) (spelled z) (orders x y ∙ h)
      ∙ orders y z);
}

pub definition_exact : (d e : Definition) → definition_cmp d e ≡ Equal → d ≡ e
definition_exact d e h = told d e (token.spelling_exact (spelled d) (spelled e) (orders d e ∙ h))

pub cmp_same : {a b c d : Definition} → a ≡ c → b ≡ d → definition_cmp a b ≡ definition_cmp c d
cmp_same {b = b} {c = c} p q = ap (λ x. definition_cmp x b) p ∙ ap (definition_cmp c) q

pub names_same : {d e : Definition} (k : ℕ) → d ≡ e → Names d k → Names e k
names_same k p h = subst (λ (x : Definition). Names x k) p h
