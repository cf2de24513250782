use Rattle.mrt_island.proofs.IslandExists.{island_exists}
use Rattle.mrt_island.proofs.OneIsland.{one_island}
use Rattle.mrt_island.proofs.island_law.a_router_has_one_island.Goals as goal

pub returns : goal.returns
returns c = record { some = island_exists; one = one_island }
