use Rattle.std.proofs.Common.{◌<◌, length}
use Rattle.mrt_graph.specs.ColorWalk.{color_walk}
use Rattle.mrt_graph.specs.Hop.{color_hop}
use Rattle.primary_alt.proofs.ColorsUse.{IsOnWay}
use Rattle.primary_alt.proofs.color_uses.uses.Given as goal

abbrev pub invariant-loop-left : goal.invariant-loop-left
invariant-loop-left g l =
    (l.at < length l.g.ids)
    × IsOnWay l.g.links (color_hop l.g.links (g.R.RowsOf.rows l.rows) l.color l.t) l.t l.x (color_walk l.g.links (length l.g.ids) (g.R.RowsOf.rows l.rows) l.color l.fn.s l.t) l.fn.s l.left l.at

abbrev pub decreases-loop-left : goal.decreases-loop-left
decreases-loop-left g l = l.left
