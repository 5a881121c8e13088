-- Texts one after another that become others in two ways.
use Rattle.std.proofs.Common.{◌≡◌, ℕ, ◌+◌, List, ◌++◌, sym, subst, ◌∙◌, arith, append_assoc}
use Rattle.wasm_module.specs.Changes.{Change, ChangeAll, none, next}

-- where a text ends does not depend on how it changes
abbrev pub EndsAlike : Change → Change → Type 0
EndsAlike R Q =
    (x rest y after new_x names_x new_y names_y : List ℕ) → R x new_x names_x → Q y new_y names_y →
    x ++ rest ≡ y ++ after → rest ≡ after

pub record Changed (R : Change) (count : ℕ) (texts : List ℕ) : Type 0 where
  pub new : List ℕ
  pub names : List ℕ
  pub are : ChangeAll R count texts new names

-- the others, behind as many texts that change in another way
pub changed_behind : (R Q : Change) → EndsAlike R Q → (a b n : ℕ) (x y whole new_x names_x new names : List ℕ)
    → n ≡ a + b → whole ≡ x ++ y → ChangeAll R a x new_x names_x → ChangeAll Q n whole new names
    → Changed Q b y
changed_behind R Q alike _ b n _ y whole _ _ new names e is none k =
    let same : n ≡ b = omega (arith, e) in
    record {
      new = new;
      names = names;
      are =
          subst (λ (m : ℕ). ChangeAll Q m y new names) same
          (subst (λ (u : List ℕ). ChangeAll Q n u new names) is k);
    }
changed_behind R Q alike _ b _ _ y _ _ _ _ _ e is (next count x others new_x new_others names_x more r rs)
    none =
    absurd (omega (arith, e))
changed_behind R Q alike _ b _ _ y _ _ _ _ _ e is (next count x others new_x new_others names_x more r rs)
    (next m t after new_t new_after names_t further q qs) =
    let rest-is : others ++ y ≡ after = alike x (others ++ y) t after new_x names_x new_t names_t r q
    (sym (append_assoc x others y) ∙ sym is) in
    changed_behind R Q alike count b m others y after new_others more new_after further (omega (arith, e))
    (sym rest-is) rs qs
