-- What a GADAG with its order says, by the numbers of nodes and links.
use Rattle.std.specs.Prelude.{◌≡◌, ◌<◌, ℕ, Some, length, slice_get}
use Rattle.mrt_graph.specs.declared.cert.Role.{Role}
use Rattle.mrt_graph.specs.DirectedLists.{DirectedLists}
use Rattle.mrt_graph.specs.GadagFields.{block_at, head_at, link_block_at, role_at}
use Rattle.mrt_graph.specs.Tails.{tail_at}
use Rattle.mrt_graph.specs.Topology.{Topology}

-- of a node its order number, its head and its block; of a link the node that it leads away from, its role, and the
-- block that it lies in
pub record Directions : Type 0 where
  pub order : ℕ → ℕ
  pub head : ℕ → ℕ
  pub block : ℕ → ℕ
  pub tail : ℕ → ℕ
  pub role : ℕ → Role
  pub lies_in : ℕ → ℕ

-- d says this of each node and each link of the graph, and has no others
pub record Says (g : Topology) (d : DirectedLists) (w : Directions) : Type 0 where
  pub one_order_each : length d.orders ≡ length g.ids
  pub one_place_each : length d.places ≡ length g.ids
  pub one_mark_each : length d.marks ≡ length g.links
  pub orders : (v : ℕ) → v < length g.ids → slice_get d.orders v ≡ Some (w.order v)
  pub heads : (v : ℕ) → v < length g.ids → head_at d.places v ≡ Some (w.head v)
  pub blocks : (v : ℕ) → v < length g.ids → block_at d.places v ≡ Some (w.block v)
  pub tails : (e : ℕ) → e < length g.links → tail_at g.links d.marks e ≡ Some (w.tail e)
  pub roles : (e : ℕ) → e < length g.links → role_at d.marks e ≡ Some (w.role e)
  pub link_blocks : (e : ℕ) → e < length g.links → link_block_at d.marks e ≡ Some (w.lies_in e)
