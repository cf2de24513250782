-- What lists of directions say.
use Rattle.std.specs.Prelude.{ℕ, slice_index, unwrap_or}
use Rattle.mrt_graph.specs.declared.cert.Role.TheVariants.{Plain}
use Rattle.mrt_graph.specs.DirectedLists.{DirectedLists}
use Rattle.mrt_graph.specs.GadagFields.{block_at, head_at, link_block_at, role_at}
use Rattle.mrt_graph.specs.GraphInvariant.{IsTopology}
use Rattle.mrt_graph.specs.Tails.{tail_at}
use Rattle.mrt_graph.specs.Topology.{Topology}
use Rattle.link_direction.specs.Directions.{Directions, Says}
use Rattle.link_direction.specs.OrderedGadag.{IsOrderedGadag}

-- the directions that the lists say
unfoldable pub directions_of : Topology → DirectedLists → Directions
directions_of g d = record {
  order = λ v. slice_index d.orders v;
  head = λ v. unwrap_or (head_at d.places v) 0;
  block = λ v. unwrap_or (block_at d.places v) 0;
  tail = λ e. unwrap_or (tail_at g.links d.marks e) 0;
  role = λ e. unwrap_or (role_at d.marks e) Plain;
  lies_in = λ e. unwrap_or (link_block_at d.marks e) 0;
}

-- they are those of a GADAG of the graph from its root, with its order
pub record AreRooted (g : Topology) (root : ℕ) (d : DirectedLists) : Type 0 where
  pub kept : IsTopology g
  pub says : Says g d (directions_of g d)
  pub ordered : IsOrderedGadag g root (directions_of g d)
