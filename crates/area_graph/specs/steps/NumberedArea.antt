-- Arcs and bonds by number, as the code makes them.
use Rattle.std.specs.Prelude.{true, false, List, map, Option, Some, None}
use Rattle.mrt_graph.specs.InOrder.{in_order}
use Rattle.mrt_graph.specs.declared.node_id.NodeId.{NodeId}
use Rattle.area_graph.specs.Parts.{AreaParts}
use Rattle.area_graph.specs.declared.area_types.Arc.{Arc}
use Rattle.area_graph.specs.declared.area_types.Bond.{Bond}
use Rattle.area_graph.specs.declared.entry.NumberedEntry.{NumberedEntry as Entry}
use Rattle.area_graph.specs.steps.NumberedArcs.{arc_cmp}
use Rattle.area_graph.specs.steps.NumberedBonds.{bond_of, bonds, partner}

-- an arc with the number of its bond
abbrev pub numbered : List Entry → Entry → Arc
numbered arcs arc =
    record { tail = arc.tail; to = arc.far; metric = arc.metric; link_data = arc.link_data; bond = bond_of arcs arc }

-- the bond of an arc and of its partner, if it has one
abbrev pub bond_by : Entry → Option Entry → Bond
bond_by one None =
    record {
      a = one.tail;
      b = one.far;
      paired = false;
      data_a = one.link_data;
      data_b = 0;
      metric_a = one.metric;
      metric_b = 0;
    }
bond_by one (Some other) =
    record {
      a = one.tail;
      b = one.far;
      paired = true;
      data_a = one.link_data;
      data_b = other.link_data;
      metric_a = one.metric;
      metric_b = other.metric;
    }

-- the bond that an arc tells
abbrev pub bond_from : List Entry → Entry → Bond
bond_from arcs one = bond_by one (partner arcs one)

-- the arcs in their order, each with the number of its bond
abbrev pub arcs_of : List Entry → List Arc
arcs_of arcs = map (numbered arcs) (in_order arc_cmp arcs)

-- the bonds
abbrev pub bonds_of : List Entry → List Bond
bonds_of arcs = map (bond_from arcs) (bonds arcs)

-- the area of these nodes and arcs
abbrev pub parts_of : List NodeId → List Entry → AreaParts
parts_of ids arcs = record { ids = ids; arcs = arcs_of arcs; bonds = bonds_of arcs }
