use Rattle.walrus_arena.proofs.ListingLemmas.{items_listing}
use Rattle.walrus_arena.proofs.laws.iter_gives_the_live_items.Goals as goal

pub returns : goal.returns
returns g c = items_listing
