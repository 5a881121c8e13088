use Rattle.walrus_traversals_mut.proofs.Members.{contains_member, member_at}
use Rattle.walrus_traversals_mut.proofs.Unfoldings.{reached_from_visited, visited_from_reached, unfolding_unique}
use Rattle.walrus_traversals_mut.proofs.laws.unfoldings_visit_what_is_reached.Goals as goal

pub returns-clause-reached : goal.returns-clause-reached
returns-clause-reached c f start visits h id = (
  λ k. reached_from_visited f start visits h id (member_at id visits k.0 k.1 k.2),
  λ r. contains_member id visits (visited_from_reached f start visits h id r),
)

pub returns-clause-determined : goal.returns-clause-determined
returns-clause-determined c = unfolding_unique
