-- The two nodes of a link with its direction.
use Rattle.mrt_graph.specs.declared.gadag.Way.{Way}
use Rattle.mrt_graph.specs.declared.gadag.Way.TheVariants.{AToB, BToA, Unset}
use Rattle.mrt_graph.specs.declared.link.Link.{Link}
use Rattle.order_repair.specs.declared.arrow.Arrow.{Arrow}

-- the one that it leads from first
abbrev pub arrow_of : Link → Way → Arrow
arrow_of link BToA = record { from = link.b; to = link.a }
arrow_of link AToB = record { from = link.a; to = link.b }
arrow_of link Unset = record { from = link.a; to = link.b }
