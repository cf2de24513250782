-- Links on their way to their blocks.
use Rattle.std.specs.Prelude.{◌≡◌, ◌<◌, ℕ, List, Some, length, slice_get, slice_set}
use Rattle.mrt_graph.specs.declared.gadag.Mark.{Mark}
use Rattle.mrt_graph.specs.declared.gadag.Place.{Place}
use Rattle.mrt_graph.specs.GadagFields.{role_at, way_at}
use Rattle.mrt_graph.specs.Leads.{leads}
use Rattle.mrt_graph.specs.Topology.{Topology}
use Rattle.gadag_ears.specs.CommonBlock.{IsCommonBlock}
use Rattle.gadag_ears.specs.LinkMarks.{LiesInBlock}

-- link e has got the common block of its two nodes, and the marks are as before but for this
pub record IsBlockGiven (g : Topology) (places : List Place) (e : ℕ) (marks marks' : List Mark) : Type 0 where
  pub mark : Mark
  pub before : slice_get marks e ≡ Some mark
  pub block : ℕ
  pub common : (u v : ℕ) → leads g.links e u ≡ Some v → IsCommonBlock places u v block
  pub set : marks' ≡ slice_set marks e (record { way = mark.way; role = mark.role; block = block })

-- the first `count` links lie in their blocks, and directions and roles are as before
pub record AreBlocksGiven (g : Topology) (places : List Place) (count : ℕ) (marks marks' : List Mark) : Type 0 where
  pub one_each : length marks' ≡ length marks
  pub ways : (e : ℕ) → way_at marks' e ≡ way_at marks e
  pub roles : (e : ℕ) → role_at marks' e ≡ role_at marks e
  pub blocks : (e : ℕ) → e < count → LiesInBlock g places marks' e
