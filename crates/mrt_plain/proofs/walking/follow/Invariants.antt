use Rattle.std.proofs.Common.{length}
use Rattle.mrt_graph.specs.Certificate.{row_of}
use Rattle.mrt_graph.specs.Hop.{color_hop}
use Rattle.mrt_plain.proofs.Following.{IsFollowing}
use Rattle.mrt_plain.proofs.walking.follow.Given as goal

abbrev pub invariant-loop-hop : goal.invariant-loop-hop
invariant-loop-hop l = IsFollowing l.links (length l.c.nodes) (color_hop l.links (row_of l.c) l.color l.t) l.t l.fn.s l.gone.items l.met.items l.left l.at

abbrev pub decreases-loop-hop : goal.decreases-loop-hop
decreases-loop-hop l = l.left
