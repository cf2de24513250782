-- What the laws say, with their premises.
use Rattle.std.proofs.Common.{◌<◌, length, ℕ}
use Rattle.mrt_graph.specs.DirectedLists.{DirectedLists}
use Rattle.mrt_graph.specs.GadagLists.{GadagLists}
use Rattle.mrt_graph.specs.GraphInvariant.{IsTopology}
use Rattle.mrt_graph.specs.Topology.{Topology}
use Rattle.link_direction.specs.Directed.{IsDirected}
use Rattle.link_direction.specs.FromEars.{IsFromEars}
use Rattle.link_direction.specs.OrderedGadag.{SaysOrdered}
use Rattle.link_direction.proofs.AllOrdered.{is_ordered}
use Rattle.link_direction.proofs.FromEarsFacts.{gadag_facts}
use Rattle.link_direction.proofs.SaidOf.{directions_of, says}

pub says_ordered : (g : Topology) (root : ℕ) (gadag : GadagLists) (d : DirectedLists) → IsTopology g → root < length g.ids → IsFromEars g root gadag
    → IsDirected g root gadag d → SaysOrdered g root d
says_ordered g root gadag d kept within from it =
    let facts = gadag_facts g root gadag kept within from in
    record {
      directions = directions_of g d;
      says = says g root gadag d facts it;
      ordered = is_ordered g root gadag d (directions_of g d) (record { facts = facts; directed = it; says = says g root gadag d facts it });
    }
