-- Arcs among entries as the code holds them.
use Rattle.std.specs.Prelude.{Bool, ◌&&◌, ◌==◌, List}
use Rattle.std.specs.List.{filter, list_any}
use Rattle.std.specs.Ordering.{nat_cmp, on, then_cmp}
use Rattle.std.specs.declared.cmp.Ordering.{Ordering}
use Rattle.mrt_graph.specs.InOrder.{in_order}
use Rattle.ospf_lsa.specs.declared.lsa.Lsa.{Lsa}
use Rattle.area_graph.specs.declared.entry.NumberedEntry.{NumberedEntry as Entry}
use Rattle.area_graph.specs.steps.NumberedEntries.{entries}

-- whether an entry leads back between the two nodes of this one
abbrev pub answers : Entry → Entry → Bool
answers entry back = (back.tail == entry.far) && (back.far == entry.tail)

-- an arc is an entry that another one answers
abbrev pub is_arc : List Entry → Entry → Bool
is_arc all entry = list_any (answers entry) all

-- arcs are ordered by tail, then by metric, then by far node, then by link data, then by place in the LSA
abbrev pub arc_cmp : Entry → Entry → Ordering
arc_cmp =
    then_cmp
    (then_cmp
    (then_cmp (then_cmp (on (λ arc. arc.tail) nat_cmp) (on (λ arc. arc.metric) nat_cmp)) (on (λ arc. arc.far) nat_cmp))
    (on (λ arc. arc.link_data) nat_cmp)) (on (λ arc. arc.place) nat_cmp)

-- to be paired, arcs are ordered by their two nodes, then by link data, then by place
abbrev pub pairing_cmp : Entry → Entry → Ordering
pairing_cmp =
    then_cmp
    (then_cmp (then_cmp (on (λ arc. arc.tail) nat_cmp) (on (λ arc. arc.far) nat_cmp)) (on (λ arc. arc.link_data) nat_cmp))
    (on (λ arc. arc.place) nat_cmp)

-- the arcs among entries, as they are paired
abbrev pub arcs_among : List Entry → List Entry
arcs_among all = in_order pairing_cmp (filter (is_arc all) all)

-- the arcs of an area
abbrev pub arcs : List Lsa → List Entry
arcs lsas = arcs_among (entries lsas)
