-- A source and its hops.
use Rattle.std.specs.Prelude.{ℕ, List, Option}
use Rattle.mrt_graph.specs.DirectedLists.{DirectedLists}
use Rattle.mrt_graph.specs.Topology.{Topology}
use Rattle.link_direction.specs.Directions.{Directions}
use Rattle.block_spf.specs.declared.reach.Dir.TheVariants.{Down, Up}
use Rattle.block_spf.specs.declared.reach.Hop.{Hop}
use Rattle.block_spf.specs.HasDirections.{AreDirections}
use Rattle.block_spf.specs.LeastPath.{IsReach}

-- these are the directions from this root, and the hops of s by them
pub record AreHops (g : Topology) (d : DirectedLists) (root : ℕ) (w : Directions) (s : ℕ)
    (up down : List (Option Hop)) : Type 0 where
  pub are : AreDirections g d root w
  pub goes_up : IsReach g w Up s up
  pub goes_down : IsReach g w Down s down
