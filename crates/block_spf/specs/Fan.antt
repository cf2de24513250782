-- Fans: the ends by which some sources side by side begin the least paths to all nodes.
use Rattle.std.specs.Prelude.{◌≡◌, ◌≢◌, ◌<◌, ◌+◌, ◌*◌, ℕ, List, Some, length, slice_get, slice_index}
use Rattle.std.specs.Option.{option_map_or}
use Rattle.mrt_graph.specs.declared.link.End.{End}
use Rattle.mrt_graph.specs.Topology.{Topology}
use Rattle.link_direction.specs.Directions.{Directions}
use Rattle.block_spf.specs.declared.reach.Dir.{Dir}
use Rattle.block_spf.specs.FanEntries.{FanEntries}
use Rattle.block_spf.specs.FirstLink.{IsFirstLink, no_link}
use Rattle.block_spf.specs.LeastPath.{IsHop}
use Rattle.block_spf.specs.Side.{hop_by}

-- the link of the end at a place; no link where there is none
abbrev pub link_at : List End → ℕ → ℕ
link_at ends place = option_map_or (λ end. end.link) (slice_get ends place) no_link

-- on the way from s to t: the least cost, and the link that begins a path of this cost; far and no link where no path leads to t
pub record IsFirstHop (g : Topology) (w : Directions) (dir : Dir) (s t cost link : ℕ) : Type 0 where
  pub hop : s ≢ t → IsHop g w dir s t (hop_by cost link)
  pub begins : s ≢ t → IsFirstLink g w dir s t link

-- a fan is open from the nodes from number `first` on: it has what they have for all nodes
pub record IsOpen (g : Topology) (w : Directions) (dir : Dir) (first : ℕ) (fan : FanEntries) : Type 0 where
  pub each : (j t : ℕ) (ends : List End) → j < fan.width → first + j < length g.ids → t < length g.ids
      → slice_get g.ends (first + j) ≡ Some ends
      → IsFirstHop g w dir (first + j) t (slice_index fan.costs (t * fan.width + j)) (link_at ends (slice_index fan.places (t * fan.width + j)))
