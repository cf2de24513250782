-- Two directions that a GADAG says are alike, so that what holds of one holds of the other.
use Rattle.mrt_graph.specs.DirectedLists.{DirectedLists}
use Rattle.mrt_graph.specs.GraphInvariant.{IsTopology}
use Rattle.mrt_graph.specs.Topology.{Topology}
use Rattle.link_direction.specs.Directions.{Directions, Says}
use Rattle.link_direction.proofs.SameDirections.{ordered_too, said_alike}
use Rattle.block_spf.specs.HasDirections.{AreDirections, HasDirections}

-- whatever d says are its directions
pub directions_are : (g : Topology) (d : DirectedLists) (w : Directions) → IsTopology g → (has : HasDirections g d) → Says g d w → AreDirections g d has.root w
directions_are g d w kept has says = record {
  says = says;
  ordered = ordered_too g has.root has.directions w kept (said_alike g d has.directions w has.are.says says) has.are.ordered;
}
