-- The GADAG of a graph (RFC 7811, section 5.5).
use Rattle.std.specs.Prelude.{◌≡◌, ℕ, List, length}
use Rattle.mrt_graph.specs.declared.tree.TreeNode.{TreeNode}
use Rattle.mrt_graph.specs.GadagLists.{GadagLists}
use Rattle.mrt_graph.specs.Topology.{Topology}
use Rattle.gadag_ears.specs.Ear.{Ear}
use Rattle.gadag_ears.specs.EarOrder.{AreEars}
use Rattle.gadag_ears.specs.HeadAndBlock.{ArePlaces}
use Rattle.gadag_ears.specs.LinkMarks.{AreMarks}

-- the ears of a graph's search tree, the place of each node, and the mark of each link
pub record IsGadag (g : Topology) (root : ℕ) (tree : List TreeNode) (gadag : GadagLists) : Type 0 where
  pub ears : List Ear
  pub are_ears : AreEars g root tree gadag.order ears
  pub one_place_each : length gadag.places ≡ length g.ids
  pub places : ArePlaces root ears gadag.places
  pub marks : AreMarks g tree ears gadag.places gadag.marks
