-- What holds of a state at any time.
use Rattle.std.specs.Prelude.{◌≤◌, ◌+◌, ◌*◌, ℕ, length}
use Rattle.std.specs.List.{AllByRecursion}
use Rattle.lsdb.specs.Installing.{IsBehind}
use Rattle.flood.specs.Routers.{Router}
use Rattle.flood.specs.Receiving.{MayFlood}
use Rattle.flood.specs.FloodState.{FloodState}

-- a router's next arrival number comes after the places in its database, and is small enough for so many deliveries
pub record IsRouter (changed : ℕ) (router : Router) : Type 0 where
  pub behind : IsBehind router.database.greatest router.arrivals
  pub few : router.arrivals ≤ changed * 65535

-- what holds of a state at any time
pub record IsFlood (state : FloodState) : Type 0 where
  pub few_packets : length state.packets ≤ 4294000000 + state.changed
  pub few_deliveries : state.changed ≤ 65535
  pub packets : AllByRecursion MayFlood state.packets
  pub routers : AllByRecursion (IsRouter state.changed) state.routers
