-- The queue of the groups that are ready: lists of groups, each with the place of its class. Their
-- order plays no role.
-- Of this crate's own.
use Rattle.std.specs.Prelude.{◌≡◌, ◌++◌, ℕ, List, [], ◌∷◌, Option, Some, None, Contains, map, nat_eq}
use Rattle.std.specs.BTreeMap.Range.{IsLeBy, IsLtBy}
use Rattle.std.specs.List.{IsDistinct}
use Rattle.std.specs.List.Sorted.{IsPermutation}
use Rattle.walrus_ty.specs.Definition.{Definition}
use Rattle.walrus_canonical.specs.Steps.Shown.{definitions_cmp}

-- no class comes twice
abbrev pub HasEachOnce : List (List Definition × ℕ) → Type 0
HasEachOnce queue = IsDistinct nat_eq (map (λ (q : List Definition × ℕ). q.1) queue)

-- nor does a group
abbrev pub AreApart : List (List Definition × ℕ) → Type 0
AreApart queue =
    HasEachOnce queue
    × ((ds : List Definition) (c d : ℕ) → Contains queue (ds, c) → Contains queue (ds, d) → c ≡ d)

-- no group of the queue is less
abbrev pub IsLeast : List Definition → List (List Definition × ℕ) → Type 0
IsLeast ds queue = (es : List Definition) (d : ℕ) → Contains queue (es, d) → IsLeBy definitions_cmp ds es

-- none is less than one that comes later
abbrev pub IsFalling : List (List Definition × ℕ) → Type 0
IsFalling queue =
    (before after : List (List Definition × ℕ)) (ds : List Definition) (c : ℕ) →
    queue ≡ before ++ (ds, c) ∷ after → IsLeast ds before

-- the queue was empty, or this one was taken, which is less than those that are left
abbrev pub TakesLeast :
    List (List Definition × ℕ) → List (List Definition × ℕ) → Option (List Definition × ℕ) → Type 0
TakesLeast old new None = AreApart old → (old ≡ []) × (new ≡ [])
TakesLeast old new (Some least) =
    AreApart old → IsPermutation old (least ∷ new) × ((es : List Definition) (d : ℕ) →
    Contains new (es, d) → IsLtBy definitions_cmp least.0 es)
