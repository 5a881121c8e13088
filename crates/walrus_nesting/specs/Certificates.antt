-- What the nesting check returns, and what shows that it is so.
use Rattle.std.specs.Prelude.{◌≡◌, ℕ, suc, ◌-◌, ◌<◌, ◌↔◌, ⊤, List, All, Contains, Some, slice_get, length, nat_eq}
use Rattle.std.specs.List.{IsDistinct}
use Rattle.walrus_functions.specs.Body.{Body, Knows}
use Rattle.walrus_functions.specs.Nesting.{IsChild, IsReachable}
use Rattle.walrus_nesting.specs.declared.nesting.Nesting.{Nesting}
use Rattle.walrus_nesting.specs.declared.nesting.Nesting.TheVariants.{Nested, Cycle, Unknown}

-- the list shows that the body is nested from `start`: a place in it is a rank
pub record ShowsNested (f : Body) (start : ℕ) (list : List ℕ) : Type 0 where
  -- no id stands in it twice
  pub once : IsDistinct nat_eq list
  -- it holds just what is reached
  pub reached : (id : ℕ) → Contains list id ↔ IsReachable f start id
  -- with a sequence it holds the children
  pub closed : (parent child : ℕ) →
      Contains list parent → IsChild f parent child → Contains list child
  -- every id in it is known
  pub known : All (Knows f) list
  -- each child stands before its parent
  pub children_first : (i parent child : ℕ) → slice_get list i ≡ Some parent →
      IsChild f parent child → (k : ℕ) × (k < i) × (slice_get list k ≡ Some child)

-- the path begins with `start`, and each id in it is a child of the one before
pub record IsPath (f : Body) (start : ℕ) (path : List ℕ) : Type 0 where
  pub begins : slice_get path 0 ≡ Some start
  pub children : (i parent child : ℕ) →
      slice_get path i ≡ Some parent → slice_get path (suc i) ≡ Some child → IsChild f parent child

-- a path of known ids, and the id in it at `back_to` is a child of its last
pub record ShowsCycle (f : Body) (start : ℕ) (path : List ℕ) (back_to : ℕ) : Type 0 where
  pub is_path : IsPath f start path
  pub known : All (Knows f) path
  pub within : back_to < length path
  pub back : (last first : ℕ) → slice_get path (length path - 1) ≡ Some last →
      slice_get path back_to ≡ Some first → IsChild f last first

-- a path whose last id alone is not known
pub record ShowsUnknown (f : Body) (start : ℕ) (path : List ℕ) : Type 0 where
  pub is_path : IsPath f start path
  pub last_alone : (i id : ℕ) → slice_get path i ≡ Some id → Knows f id ↔ (suc i < length path)

-- the verdict has what shows it
abbrev pub Shows : Body → ℕ → Nesting → Type 0
Shows f start (Nested list) = ShowsNested f start list.items
Shows f start (Cycle path back_to) = ShowsCycle f start path.items back_to
Shows f start (Unknown path) = ShowsUnknown f start path.items

-- the verdict is that the body is nested
abbrev pub SaysNested : Nesting → Type 0
SaysNested (Nested _) = ⊤
SaysNested (Cycle _ _) = ⊥
SaysNested (Unknown _) = ⊥
