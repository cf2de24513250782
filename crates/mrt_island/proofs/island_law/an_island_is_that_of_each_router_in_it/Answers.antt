use Rattle.mrt_island.proofs.OneIsland.{island_of_member}
use Rattle.mrt_island.proofs.island_law.an_island_is_that_of_each_router_in_it.Goals as goal

pub returns : goal.returns
returns c = island_of_member
