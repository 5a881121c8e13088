-- The types of a group are written one after the other.
use Rattle.std.proofs.Common.{◌≡◌, ℕ, ◌+◌, ◌<◌, List, [], ◌∷◌, ◌++◌, map, take, length, sym, ap, subst, ◌∙◌, arith, Some, get_or, inl, inr}
use Rattle.std.specs.List.{slice_get}
use Rattle.std.proofs.lemmas.{List.take_more, List.map-append, Option.get_or_from_slice_get, Bool.cases_lt}
use Rattle.walrus_ty.specs.{Definition.Definition}

pub done_more :
    {E : Type 0} (f : E → Definition) (d : ℕ → Definition) (es : List E) (ids : List ℕ) (i x : ℕ)
    (e : E) → i < length ids → x ≡ get_or ids i x → map f es ≡ map d (take i ids) → f e ≡ d x →
    map f (es ++ e ∷ []) ≡ map d (take (i + 1) ids)
done_more f d es ids i x e below at so_far is =
    map-append f es (e ∷ []) ∙ (ap (λ (ds : List Definition). ds ++ f e ∷ []) so_far
    ∙ (ap (λ (y : Definition). map d (take i ids) ++ y ∷ []) (is ∙ ap d at)
    ∙ (sym (map-append d (take i ids) (get_or ids i x ∷ []))
    ∙ ap (map d) (sym (take_more ids i x below)))))

pub each_more :
    (P : ℕ → Type 0) (ids : List ℕ) (n x : ℕ) → x ≡ get_or ids n x →
    ((u i : ℕ) → u < n → slice_get ids u ≡ Some i → P i) → P x → (u i : ℕ) → u < n + 1 →
    slice_get ids u ≡ Some i → P i
each_more P ids n x at so_far here u i lt h = elim (cases_lt u n) [
  | inl y ↦ so_far u i y h
  | inr y ↦ (let e : u ≡ n = omega (arith, y, lt) in let same : x ≡ i = at
      ∙ (ap (λ (m : ℕ). get_or ids m x) (sym e) ∙ get_or_from_slice_get ids u i x h) in subst P same here)
]

-- the only refusal of a type's names is that a type has no index
