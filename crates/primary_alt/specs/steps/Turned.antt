-- Arcs turned round.
use Rattle.area_graph.specs.declared.area_types.Arc.{Arc}

-- an arc turned round, with its metric
abbrev pub turned : Arc → Arc
turned arc = record {
  tail = arc.to;
  to = arc.tail;
  metric = arc.metric;
  link_data = arc.link_data;
  bond = arc.bond;
}
