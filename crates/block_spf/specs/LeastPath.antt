-- Least paths of a block.
use Rattle.std.specs.Prelude.{◌≡◌, ◌≢◌, ◌<◌, ◌≤◌, ℕ, List, ◌∷◌, Option, Some, None, length, slice_get}
use Rattle.block_spf.specs.declared.reach.Dir.{Dir}
use Rattle.block_spf.specs.declared.reach.Hop.{Hop}
use Rattle.block_spf.specs.Path.{Path, cost_of}
use Rattle.link_direction.specs.CommonBlock.{HaveCommonBlock}
use Rattle.link_direction.specs.Directions.{Directions}
use Rattle.mrt_graph.specs.declared.link.End.{End}
use Rattle.mrt_graph.specs.FirstEnd.{IsFirstEnd}
use Rattle.mrt_graph.specs.Topology.{Topology}

-- block k has more than one link
pub record HasMoreLinks (g : Topology) (w : Directions) (k : ℕ) : Type 0 where
  pub one : ℕ
  pub other : ℕ
  pub one_within : one < length g.links
  pub other_within : other < length g.links
  pub one_in_block : w.lies_in one ≡ k
  pub other_in_block : w.lies_in other ≡ k
  pub differ : one ≢ other

-- s and t are two nodes with a block of more than one link in common: block k, whose head is h
pub record HaveCommonBlockOfMoreLinks (g : Topology) (w : Directions) (s t k h : ℕ) : Type 0 where
  pub two : s ≢ t
  pub common : HaveCommonBlock w s t k h
  pub more : HasMoreLinks g w k

-- a path of this cost from s to t begins with this end
pub record BeginsPath (g : Topology) (w : Directions) (dir : Dir) (k h s t cost : ℕ) (end : End) : Type 0 where
  pub others : List End
  pub is_path : Path g w dir k h s (end ∷ others) t
  pub costs : cost_of (end ∷ others) ≡ cost

-- the least cost of the paths from s to t, and the link of the first end of s that begins a path of this cost
pub record IsLeastPath (g : Topology) (w : Directions) (dir : Dir) (k h s t : ℕ) (hop : Hop) : Type 0 where
  pub end : End
  pub first : IsFirstEnd g (BeginsPath g w dir k h s t hop.cost) s end
  pub over : hop.link ≡ end.link
  pub least : (path : List End) → Path g w dir k h s path t → hop.cost ≤ cost_of path

-- what source s has for node t: the least path of their block; none where no path of it leads there, or they have no
-- such block
pub data IsHop (g : Topology) (w : Directions) (dir : Dir) (s t : ℕ) : Option Hop → Type 0 where
  Reached : (k h : ℕ) (hop : Hop) → HaveCommonBlockOfMoreLinks g w s t k h → IsLeastPath g w dir k h s t hop
      → IsHop g w dir s t (Some hop)
  NotReached : ((k h : ℕ) (path : List End) → HaveCommonBlockOfMoreLinks g w s t k h → ¬ Path g w dir k h s path t)
      → IsHop g w dir s t None

-- what source s has for all nodes
pub record IsReach (g : Topology) (w : Directions) (dir : Dir) (s : ℕ) (hops : List (Option Hop)) : Type 0 where
  pub one_each : length hops ≡ length g.ids
  pub each : (t : ℕ) (hop : Option Hop) → slice_get hops t ≡ Some hop → IsHop g w dir s t hop

-- what all nodes have for target t, each as a source
pub record IsReachTo (g : Topology) (w : Directions) (dir : Dir) (t : ℕ) (hops : List (Option Hop)) : Type 0 where
  pub one_each : length hops ≡ length g.ids
  pub each : (s : ℕ) (hop : Option Hop) → slice_get hops s ≡ Some hop → IsHop g w dir s t hop
