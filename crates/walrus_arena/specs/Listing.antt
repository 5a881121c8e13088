-- What it means that a list gives the live items of an arena, each once, in the order of their ids.
use Rattle.std.specs.Prelude.{◌≡◌, ℕ, ◌<◌, List, Some, All, AllPairs, Contains}
use Rattle.walrus_arena.specs.Arena.{Slots, get}

-- the list has each live item with its id, nothing else, and the ids rise
pub record IsListing {T : Type 0} (s : Slots T) (listed : List (ℕ × T)) : Type 0 where
  pub live : All (λ item. get s item.0 ≡ Some item.1) listed
  pub complete : (id : ℕ) (value : T) → get s id ≡ Some value → Contains listed (id, value)
  pub ascending : AllPairs (λ earlier later. earlier.0 < later.0) listed
