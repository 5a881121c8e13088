-- Maps from indices to indices.
use Rattle.std.proofs.Common.{◌≡◌, ℕ, zero, suc, List, [], ◌∷◌, map, refl, Option}
use Rattle.walrus_unused.specs.IndexMaps.{new_index, index_through}

pub through :
    (ids : List ℕ) (index : ℕ → Option ℕ) (old : ℕ) →
    new_index (map index ids) old ≡ index_through ids index old
through [] index old = refl
through (id ∷ ids) index zero = refl
through (id ∷ ids) index (suc old) = through ids index old
