use Rattle.std.proofs.Common.{◌≡◌, take}
use Rattle.mrt_plain.proofs.graph_links.links_of.Given as goal

abbrev pub invariant-loop-e : goal.invariant-loop-e
invariant-loop-e l = l.links.items ≡ take l.e l.graph.links
