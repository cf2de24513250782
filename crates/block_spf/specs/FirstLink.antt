-- The links by which nodes begin least paths, to some nodes side by side.
use Rattle.std.specs.Prelude.{◌≡◌, ◌≢◌, ◌<◌, ◌+◌, ◌*◌, ℕ, Bool, false, true, List, Some, None, length, slice_get}
use Rattle.link_direction.specs.Directions.{Directions}
use Rattle.mrt_graph.specs.Topology.{Topology}
use Rattle.block_spf.specs.declared.reach.Dir.{Dir}
use Rattle.block_spf.specs.declared.reach.Hop.{Hop}
use Rattle.block_spf.specs.BlockAims.{IsAimOf, aim_at}
use Rattle.block_spf.specs.LeastPath.{IsHop, HaveCommonBlockOfMoreLinks}

-- a number that stands for no link: no graph has so many
abbrev pub no_link : ℕ
no_link = 65535

-- the link of the first end of the least path from s to t in their block; no_link where no path of it leads there, or
-- they have no such block
pub data IsFirstLink (g : Topology) (w : Directions) (dir : Dir) (s t link : ℕ) : Type 0 where
  Begins : (hop : Hop) → IsHop g w dir s t (Some hop) → link ≡ hop.link → link ≢ no_link → IsFirstLink g w dir s t link
  BeginsNone : IsHop g w dir s t None → link ≡ no_link → IsFirstLink g w dir s t link

-- node v has no block of more than one link in common with other nodes but the one that it lies in
pub record LiesInOneBlock (g : Topology) (w : Directions) (v : ℕ) : Type 0 where
  pub only : (t k h : ℕ) → t < length g.ids → HaveCommonBlockOfMoreLinks g w v t k h → k ≡ w.block v

-- so does each node that is not marked
pub record AreOthersInOneBlock (g : Topology) (w : Directions) (marks : List Bool) : Type 0 where
  pub each : (v : ℕ) → v < length g.ids → slice_get marks v ≡ Some false → LiesInOneBlock g w v

-- the links of node s are there, at so many places, for what it aims at over a wanted block of more than one link
pub record HasLinksAt (g : Topology) (w : Directions) (wanted : List Bool) (dir : Dir) (aims : List ℕ) (width : ℕ) (links : List ℕ) (s : ℕ) : Type 0 where
  pub each : (j t k h link : ℕ) → j < width → t < length g.ids → HaveCommonBlockOfMoreLinks g w s t k h → slice_get wanted k ≡ Some true
      → IsAimOf g w (aim_at aims width j) s t → slice_get links (s * width + j) ≡ Some link → IsFirstLink g w dir s t link
