-- Which entries are arcs, and how arcs are ordered (RFC 2328, section 16.1: each link is looked for in the LSA of its
-- far node).
use Rattle.std.specs.Prelude.{Bool, ◌&&◌, List}
use Rattle.std.specs.List.{filter, list_any}
use Rattle.std.specs.Ordering.{nat_cmp, on, then_cmp}
use Rattle.std.specs.declared.cmp.Ordering.{Ordering}
use Rattle.mrt_graph.specs.NodeOrder.{node_id_cmp}
use Rattle.mrt_graph.specs.InOrder.{in_order}
use Rattle.mrt_graph.specs.SameGraph.{same_id}
use Rattle.ospf_lsa.specs.declared.lsa.Lsa.{Lsa}
use Rattle.area_graph.specs.Entries.{Entry, entries}

-- whether an entry leads back between the two nodes of this one
abbrev pub answers : Entry → Entry → Bool
answers entry back = same_id back.from entry.to && same_id back.to entry.from

-- an arc is an entry that another one answers
abbrev pub is_arc : List Entry → Entry → Bool
is_arc all entry = list_any (answers entry) all

-- the order of parallel arcs: by link data, then by place in the LSA
abbrev pub parallel_cmp : Entry → Entry → Ordering
parallel_cmp = then_cmp (on (λ arc. arc.link_data) nat_cmp) (on (λ arc. arc.place) nat_cmp)

-- the order of arcs: by the node that they leave, then by metric, then by far node, then as parallel arcs
abbrev pub arc_cmp : Entry → Entry → Ordering
arc_cmp =
    then_cmp (then_cmp (on (λ arc. arc.from) node_id_cmp) (on (λ arc. arc.metric) nat_cmp))
    (then_cmp (on (λ arc. arc.to) node_id_cmp) parallel_cmp)

-- the order in which arcs are paired: by the node that they leave, then by far node, then as parallel arcs
abbrev pub pairing_cmp : Entry → Entry → Ordering
pairing_cmp = then_cmp (then_cmp (on (λ arc. arc.from) node_id_cmp) (on (λ arc. arc.to) node_id_cmp)) parallel_cmp

-- the arcs among entries, in the order in which they are paired
abbrev pub arcs_among : List Entry → List Entry
arcs_among all = in_order pairing_cmp (filter (is_arc all) all)

-- the arcs of an area
abbrev pub arcs : List Lsa → List Entry
arcs lsas = arcs_among (entries lsas)
