-- The area that the newest LSAs of a database give: its nodes, arcs and bonds by number.
use Rattle.std.specs.Prelude.{ℕ, true, false, List, length, map, Option, Some, None}
use Rattle.std.specs.Option.{unwrap_or}
use Rattle.mrt_graph.specs.declared.node_id.NodeId.{NodeId}
use Rattle.mrt_graph.specs.InOrder.{in_order}
use Rattle.ospf_lsa.specs.declared.lsa.Lsa.{Lsa}
use Rattle.area_graph.specs.declared.area_types.Arc.{Arc}
use Rattle.area_graph.specs.declared.area_types.Bond.{Bond}
use Rattle.area_graph.specs.Arcs.{arcs, arc_cmp}
use Rattle.area_graph.specs.Bonds.{bond_of, bonds, partner}
use Rattle.area_graph.specs.Entries.{Entry}
use Rattle.area_graph.specs.Nodes.{nodes}
use Rattle.mrt_graph.specs.NodeIds.{number_of}
use Rattle.area_graph.specs.Parts.{AreaParts}

-- the number of a node: its place among the nodes (their count, which is the number of none, where it is not one of
-- them)
abbrev pub place_among : List NodeId → NodeId → ℕ
place_among ids id = unwrap_or (number_of ids id) (length ids)

-- an arc by the numbers of its nodes and of its bond
abbrev pub arc_from : List NodeId → List Entry → Entry → Arc
arc_from ids arcs arc =
    record {
      tail = place_among ids arc.from;
      to = place_among ids arc.to;
      metric = arc.metric;
      link_data = arc.link_data;
      bond = bond_of arcs arc;
    }

-- the bond of an arc and of its partner, if it has one, by the numbers of its nodes
abbrev pub bond_by : List NodeId → Entry → Option Entry → Bond
bond_by ids one None =
    record {
      a = place_among ids one.from;
      b = place_among ids one.to;
      paired = false;
      data_a = one.link_data;
      data_b = 0;
      metric_a = one.metric;
      metric_b = 0;
    }
bond_by ids one (Some other) =
    record {
      a = place_among ids one.from;
      b = place_among ids one.to;
      paired = true;
      data_a = one.link_data;
      data_b = other.link_data;
      metric_a = one.metric;
      metric_b = other.metric;
    }

-- the bond that an arc tells
abbrev pub bond_from : List NodeId → List Entry → Entry → Bond
bond_from ids arcs one = bond_by ids one (partner arcs one)

-- nodes, arcs in their order, and bonds, by number
abbrev pub area_with : List NodeId → List Entry → AreaParts
area_with ids arcs =
    record {
      ids = ids;
      arcs = map (arc_from ids arcs) (in_order arc_cmp arcs);
      bonds = map (bond_from ids arcs) (bonds arcs);
    }

-- the area of newest LSAs
abbrev pub area_of : List Lsa → AreaParts
area_of lsas = area_with (nodes lsas) (arcs lsas)
