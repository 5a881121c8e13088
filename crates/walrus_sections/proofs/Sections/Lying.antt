-- How the groups of a section lie.
use Rattle.std.proofs.Common.{◌≡◌, ℕ, suc, ◌<◌, ◌≤◌, refl, ap, inl, inr, ◌⊎◌, arith, Option, Some, None}
use Rattle.std.proofs.lemmas.Bool.{cases_lt}
use Rattle.walrus_sections.specs.Section.{IndexSpace}
use Rattle.walrus_ty.specs.Definition.{Names}

pub record AreApart (t : IndexSpace) (i j : ℕ) : Type 0 where
  pub ends : t.end i ≤ j
  pub rises : (x y : ℕ × ℕ) → t.rec_position i ≡ Some x → t.rec_position j ≡ Some y → x.0 < y.0

pub record AreTogether (t : IndexSpace) (i j : ℕ) : Type 0 where
  pub x : ℕ × ℕ
  pub y : ℕ × ℕ
  pub at_x : t.rec_position i ≡ Some x
  pub at_y : t.rec_position j ≡ Some y
  pub same : x.0 ≡ y.0
  pub later : x.1 < y.1
  pub ends : t.end i ≡ t.end j

pub record IsLaidOut (t : IndexSpace) : Type 0 where
  pub own : (i : ℕ) → i < t.count → i < t.end i
  pub fits : (i : ℕ) → i < t.count → t.end i ≤ t.count
  pub single_end : (i : ℕ) → i < t.count → t.rec_position i ≡ None → t.end i ≡ suc i
  pub pair : (i j : ℕ) → i < j → j < t.count → AreApart t i j ⊎ AreTogether t i j

pub in_or_out : {A : Type 0} (o : Option A) → (o ≡ None) ⊎ ((x : A) × (o ≡ Some x))
in_or_out None = inl refl
in_or_out (Some x) = inr (x, refl)

pub some_same : {A : Type 0} (o : Option A) (x y : A) → o ≡ Some x → o ≡ Some y → x ≡ y
some_same o x y p q = cc

no_later :
    (t : IndexSpace) → IsLaidOut t → (i j : ℕ) (x : ℕ × ℕ) → i < j → j < t.count →
    t.rec_position i ≡ Some x → t.rec_position j ≡ Some x → ⊥
no_later t l i j x h b p q = elim (l.pair i j h b) [
  | inl a ↦ (let z = a.rises x x p q in omega arith)
  | inr o ↦ (let e = some_same (t.rec_position i) x o.x p o.at_x in let f =
      some_same (t.rec_position j) x o.y q o.at_y in
      let g : o.x ≡ o.y = cc in let z = o.later in let w : o.x.1 ≡ o.y.1 = ap (λ (v : ℕ × ℕ). v.1) g in
      omega arith)
]

-- no two indices have one position
pub same_rec_position :
    (t : IndexSpace) → IsLaidOut t → (i j : ℕ) (x : ℕ × ℕ) → i < t.count → j < t.count →
    t.rec_position i ≡ Some x → t.rec_position j ≡ Some x → i ≡ j
same_rec_position t l i j x hi hj p q = elim (cases_lt i j) [
  | inl h ↦ absurd (no_later t l i j x h hj p q)
  | inr h ↦ (elim (cases_lt j i) [ inl k ↦ absurd (no_later t l j i x k hi q p) | inr k ↦ omega arith ])
]

-- what stands before a `Single` ends there
pub ends_before_single :
    (t : IndexSpace) → IsLaidOut t → (i j : ℕ) → j < i → i < t.count → t.rec_position i ≡ None →
    t.end j ≤ i
ends_before_single t l i j h b p = elim (l.pair j i h b) [
  | inl a ↦ a.ends
  | inr o ↦ (let z = o.at_y in absurd cc)
]

pub names_at :
    (s : IndexSpace) (j k x : ℕ) → j ≡ k → Names (s.definition j) x → Names (s.definition k) x
names_at s j k x e h = rw e at h
