-- Links on their way to their directions.
use Rattle.std.specs.Prelude.{◌≡◌, ◌<◌, ◌≤◌, ℕ, List, Some, length, nat_lt, slice_get, slice_index_or, if◌then◌else◌}
use Rattle.std.specs.Option.{option_map}
use Rattle.mrt_graph.specs.declared.gadag.Mark.{Mark}
use Rattle.mrt_graph.specs.declared.gadag.Way.{Way}
use Rattle.mrt_graph.specs.declared.gadag.Way.TheVariants.{AToB, BToA, Unset}
use Rattle.mrt_graph.specs.declared.link.Link.{Link}
use Rattle.mrt_graph.specs.Topology.{Topology}

-- the direction of a link: the one that it has, or else that from the node with the lower number
abbrev pub direction_by : List ℕ → Link → Way → Way
direction_by numbers link Unset =
    if nat_lt (slice_index_or numbers link.a 0) (slice_index_or numbers link.b 0) then AToB else BToA
direction_by numbers link AToB = AToB
direction_by numbers link BToA = BToA

-- a mark with its direction
abbrev pub mark_by : List ℕ → Link → Mark → Mark
mark_by numbers link mark = record { way = direction_by numbers link mark.way; role = mark.role; block = mark.block }

-- the first `count` links have their directions, and the others are as before
pub record AreLinksDirected (g : Topology) (numbers : List ℕ) (count : ℕ) (marks marks' : List Mark) : Type 0 where
  pub one_each : length marks' ≡ length marks
  pub given : (e : ℕ) (link : Link) → e < count → slice_get g.links e ≡ Some link
      → slice_get marks' e ≡ option_map (mark_by numbers link) (slice_get marks e)
  pub others : (e : ℕ) → count ≤ e → slice_get marks' e ≡ slice_get marks e
