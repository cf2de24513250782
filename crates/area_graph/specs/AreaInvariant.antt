-- What each area keeps.
use Rattle.std.specs.Prelude.{◌≡◌, ◌≢◌, ◌<◌, ◌≤◌, ◌⊎◌, ◌&&◌, ◌==◌, ℕ, true, false, List, Some, length, slice_get, count_by, if◌then◌else◌}
use Rattle.std.specs.List.{AllByRecursion, filter}
use Rattle.std.specs.List.Sorted.{IsSorted, IsStrictlySortedBy}
use Rattle.std.specs.Ordering.{nat_cmp, on, then_cmp}
use Rattle.std.specs.declared.cmp.Ordering.{Ordering}
use Rattle.mrt_graph.specs.GraphInvariant.{IsNetwork}
use Rattle.mrt_graph.specs.NodeOrder.{node_id_cmp}
use Rattle.mrt_graph.specs.declared.node_id.NodeId.{NodeId}
use Rattle.area_graph.specs.declared.area_types.Arc.{Arc}
use Rattle.area_graph.specs.declared.area_types.Bond.{Bond}
use Rattle.area_graph.specs.Parts.{AreaParts}

-- arcs ascend by tail, then by metric, then by far node, then by link data
abbrev pub by_tail_cmp : Arc → Arc → Ordering
by_tail_cmp =
    then_cmp
    (then_cmp (then_cmp (on (λ arc. arc.tail) nat_cmp) (on (λ arc. arc.metric) nat_cmp)) (on (λ arc. arc.to) nat_cmp))
    (on (λ arc. arc.link_data) nat_cmp)

-- pairs ascend by their lower, then by their higher node
abbrev pub by_nodes_cmp : Bond → Bond → Ordering
by_nodes_cmp = then_cmp (on (λ bond. bond.a) nat_cmp) (on (λ bond. bond.b) nat_cmp)

-- the arc leads from a to b over the bond, with the metric and the link data at a
pub record IsThere (bond : Bond) (arc : Arc) : Type 0 where
  pub tail : arc.tail ≡ bond.a
  pub to : arc.to ≡ bond.b
  pub metric : arc.metric ≡ bond.metric_a
  pub link_data : arc.link_data ≡ bond.data_a

-- the arc leads from b to a over the bond, which is a pair, with the metric and the link data at b
pub record IsBack (bond : Bond) (arc : Arc) : Type 0 where
  pub paired : bond.paired ≡ true
  pub tail : arc.tail ≡ bond.b
  pub to : arc.to ≡ bond.a
  pub metric : arc.metric ≡ bond.metric_b
  pub link_data : arc.link_data ≡ bond.data_b

-- an arc: its bond has its two nodes, and the metric and the link data at its tail; of a network's arcs both are 0, and
-- a router's have a metric of at least 1
pub record IsArc (ids : List NodeId) (bonds : List Bond) (arc : Arc) : Type 0 where
  pub bond : Bond
  pub there : slice_get bonds arc.bond ≡ Some bond
  pub leads : IsThere bond arc ⊎ IsBack bond arc
  pub of_network : IsNetwork ids arc.tail → (arc.metric ≡ 0) × (arc.link_data ≡ 0)
  pub of_router : ¬ IsNetwork ids arc.tail → 1 ≤ arc.metric

-- a bond: two different nodes of the area, not both of them networks; of a pair the first is the lower one; where it is
-- no pair, its second node has metric 0 and link data 0
pub record IsBond (ids : List NodeId) (bond : Bond) : Type 0 where
  pub a : bond.a < length ids
  pub b : bond.b < length ids
  pub different : bond.a ≢ bond.b
  pub not_both_networks : IsNetwork ids bond.a → ¬ IsNetwork ids bond.b
  pub ascending : bond.paired ≡ true → bond.a < bond.b
  pub one_sided : bond.paired ≡ false → (bond.data_b ≡ 0) × (bond.metric_b ≡ 0)

-- how many arcs leave a node over a bond
abbrev pub arcs_over : List Arc → ℕ → ℕ → ℕ
arcs_over arcs number tail = count_by (λ arc. (arc.bond == number) && (arc.tail == tail)) arcs

-- one arc leads over a bond from a to b; one leads from b to a where it is a pair, else none
pub record HasArcs (arcs : List Arc) (number : ℕ) (bond : Bond) : Type 0 where
  pub there : arcs_over arcs number bond.a ≡ 1
  pub back : arcs_over arcs number bond.b ≡ (if bond.paired then 1 else 0)

-- what each area keeps: at most 4,096 nodes by ascending identifier and 32,768 arcs in order; each arc is of one bond; the
-- pairs stand first, with one arc each way, and any other bond has one arc
pub record IsArea (area : AreaParts) : Type 0 where
  pub few_nodes : length area.ids ≤ 4096
  pub few_arcs : length area.arcs ≤ 32768
  pub ids_ascend : IsStrictlySortedBy node_id_cmp area.ids
  pub arcs_ascend : IsSorted by_tail_cmp area.arcs
  pub arcs_kept : AllByRecursion (IsArc area.ids area.bonds) area.arcs
  pub bonds_kept : AllByRecursion (IsBond area.ids) area.bonds
  pub pairs_first : (j k : ℕ) (one other : Bond) → j < k → slice_get area.bonds j ≡ Some one
      → slice_get area.bonds k ≡ Some other → other.paired ≡ true → one.paired ≡ true
  pub pairs_ascend : IsSorted by_nodes_cmp (filter (λ bond. bond.paired) area.bonds)
  pub arcs_of_bonds : (k : ℕ) (bond : Bond) → slice_get area.bonds k ≡ Some bond → HasArcs area.arcs k bond
