-- The arcs among an area's entries can be paired.
use Rattle.std.proofs.Common.{◌≤◌, List, length, arith}
use Rattle.std.specs.List.{AllByRecursion, filter}
use Rattle.mrt_graph.specs.declared.node_id.NodeId.{NodeId}
use Rattle.mrt_graph.proofs.Filters.{all_filter}
use Rattle.mrt_graph.proofs.InOrder.{all_in_order}
use Rattle.mrt_graph.proofs.Members.{all_weaker}
use Rattle.area_graph.specs.declared.entry.NumberedEntry.{NumberedEntry as Entry}
use Rattle.area_graph.specs.steps.NumberedArcs.{is_arc, pairing_cmp, arcs_among}
use Rattle.area_graph.specs.steps.Listed.{AreApart, AreEntries, IsEntry}
use Rattle.area_graph.specs.steps.Pairing.{AreOrdered, IsBetween}
use Rattle.area_graph.proofs.Apart.{arcs_apart, arcs_sorted}

pub arcs_are_ordered : (all : List Entry) → AreApart all → AreOrdered (arcs_among all)
arcs_are_ordered all apart = record { sorted = arcs_sorted all; apart = arcs_apart all apart }

-- what holds of each entry holds of each arc
pub all_arcs : (P : Entry → Type 0) (all : List Entry) → AllByRecursion P all → AllByRecursion P (arcs_among all)
all_arcs P all kept = all_in_order pairing_cmp P (filter (is_arc all) all) (all_filter (is_arc all) P all kept)

between_from : (ids : List NodeId) → length ids ≤ 4096 → (entry : Entry) → IsEntry ids entry → IsBetween entry
between_from ids few entry is = record { tail = omega (arith, is.tail, few); far = omega (arith, is.far, few); different = is.different }

pub arcs_are_between : (ids : List NodeId) (all : List Entry) → AreEntries ids all → length ids ≤ 4096 → AllByRecursion IsBetween (arcs_among all)
arcs_are_between ids all are few =
    all_arcs IsBetween all (all_weaker (IsEntry ids) IsBetween (between_from ids few) all are.kept)
