-- The order of a GADAG and the direction of every link (RFC 7811, section 5.6).
use Rattle.std.specs.Prelude.{◌≡◌, ◌<◌, ◌+◌, ℕ, List, Some, length, slice_get}
use Rattle.mrt_graph.specs.declared.gadag.Mark.{Mark}
use Rattle.mrt_graph.specs.declared.gadag.Way.TheVariants.{Unset}
use Rattle.mrt_graph.specs.DirectedLists.{DirectedLists}
use Rattle.mrt_graph.specs.GadagLists.{GadagLists}
use Rattle.mrt_graph.specs.GadagFields.{link_block_at, role_at, way_at}
use Rattle.mrt_graph.specs.Leads.{leads}
use Rattle.mrt_graph.specs.Tails.{tail_at}
use Rattle.mrt_graph.specs.Topology.{Topology}
use Rattle.link_direction.specs.GadagOrder.{IsWholeOrder}

-- the order number of each node is its place in the list, counted from 1
pub record AreNumbers (g : Topology) (order numbers : List ℕ) : Type 0 where
  pub one_each : length numbers ≡ length g.ids
  pub places : (k v : ℕ) → slice_get order k ≡ Some v → slice_get numbers v ≡ Some (k + 1)

-- the links keep their roles and blocks, and the directions that ears gave them. A link of no ear leads from the lower
-- to the higher order
pub record AreWays (g : Topology) (order : List ℕ) (before after : List Mark) : Type 0 where
  pub one_each : length after ≡ length g.links
  pub roles : (e : ℕ) → role_at after e ≡ role_at before e
  pub blocks : (e : ℕ) → link_block_at after e ≡ link_block_at before e
  pub of_ears : (e u : ℕ) → tail_at g.links before e ≡ Some u → tail_at g.links after e ≡ Some u
  pub of_none : (e u v k l : ℕ) → way_at before e ≡ Some Unset → leads g.links e u ≡ Some v
      → slice_get order k ≡ Some u → slice_get order l ≡ Some v → k < l → tail_at g.links after e ≡ Some u

-- a GADAG with its order and all directions; heads and blocks are as before
pub record IsDirected (g : Topology) (root : ℕ) (gadag : GadagLists) (d : DirectedLists) : Type 0 where
  pub order : List ℕ
  pub whole : IsWholeOrder g root gadag.marks order
  pub numbers : AreNumbers g order d.orders
  pub places : d.places ≡ gadag.places
  pub ways : AreWays g order gadag.marks d.marks
