-- Each node has a hop for each other one, or none leads there.
use Rattle.std.proofs.Common.{◌<◌, ℕ, Option, length}
use Rattle.block_spf.specs.declared.reach.Dir.{Dir}
use Rattle.block_spf.specs.declared.reach.Hop.{Hop}
use Rattle.block_spf.specs.LeastPath.{IsHop}
use Rattle.block_spf.proofs.HopExists.{some_hop}
use Rattle.mrt_rows.proofs.OrderedGraphs.{OrderedGraph, is_ordered}

pub has_hop : (og : OrderedGraph) (dir : Dir) (s t : ℕ) → s < length og.g.ids → t < length og.g.ids → (hop : Option Hop) × IsHop og.g og.w dir s t hop
has_hop og dir s t s_within t_within = some_hop og.g og.root og.w (is_ordered og) dir s t s_within t_within
