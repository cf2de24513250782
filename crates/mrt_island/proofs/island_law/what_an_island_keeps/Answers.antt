use Rattle.mrt_island.proofs.KeptIsland.{island_topology, kept_fits}
use Rattle.mrt_island.proofs.island_law.what_an_island_keeps.Goals as goal

pub returns : goal.returns
returns c = record { graph = island_topology; fits = kept_fits }
