-- In a block of more than one link, ways up and down lead from each node to the head, and from the head to each node.
use Rattle.std.proofs.Common.{ℕ}
use Rattle.block_spf.specs.declared.reach.Dir.{Dir}
use Rattle.block_spf.proofs.HomePaths.{from_head, to_head}
use Rattle.mrt_rows.proofs.OrderedGraphs.{OrderedGraph, is_ordered}
use Rattle.mrt_rows.proofs.Ways.{Ring, Way}

pub way_home : (og : OrderedGraph) (m : ℕ) (dir : Dir) → Ring og m → Way og m dir m (og.w.head m)
way_home og m dir ring =
    let path = to_head og.g og.root og.w dir m (is_ordered og) ring.inside ring.other ring.closed in
    record { path = path.0; is = path.1 }

pub way_from_head : (og : OrderedGraph) (m : ℕ) (dir : Dir) → Ring og m → Way og m dir (og.w.head m) m
way_from_head og m dir ring =
    let path = from_head og.g og.root og.w dir m (is_ordered og) ring.inside ring.other ring.closed in
    record { path = path.0; is = path.1 }
