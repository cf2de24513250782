-- What the errors of the calls come to. Want of memory is one failure, wherever it is met.
use Rattle.area_graph.specs.declared.area_error.AreaError.{AreaError}
use Rattle.area_graph.specs.declared.area_error.AreaError.TheVariants as areas
use Rattle.mrt_island.specs.declared.island_error.IslandError.{IslandError}
use Rattle.mrt_island.specs.declared.island_error.IslandError.TheVariants as islands
use Rattle.next_hops.specs.declared.failure.Failure.{Failure}
use Rattle.next_hops.specs.declared.failure.Failure.TheVariants.{Lsa, NoIsland, NoMemory, TooLarge}
use Rattle.ospf_lsa.specs.declared.error.LsaError.{LsaError}
use Rattle.ospf_lsa.specs.declared.error.LsaError.TheVariants as lsa_errors

-- the bytes are no LSAs
abbrev pub lsa_failure : LsaError → Failure
lsa_failure (lsa_errors.Fault at kind) = Lsa at kind
lsa_failure lsa_errors.NoMemory = NoMemory

-- there is no area
abbrev pub area_failure : AreaError → Failure
area_failure (areas.TooLarge nodes arcs) = TooLarge nodes arcs
area_failure areas.NoMemory = NoMemory

-- the router has no island
abbrev pub island_failure : IslandError → Failure
island_failure islands.NotThere = NoIsland
island_failure islands.Unsupported = NoIsland
island_failure islands.NoMemory = NoMemory
