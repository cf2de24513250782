-- What is known of an area's entries.
use Rattle.std.specs.Prelude.{◌≡◌, ◌≢◌, ◌<◌, ◌≤◌, ℕ, false, List, length, slice_index_or}
use Rattle.std.specs.List.{AllByRecursion}
use Rattle.mrt_graph.specs.GraphInvariant.{IsNetwork}
use Rattle.mrt_graph.specs.declared.node_id.NodeId.{NodeId}
use Rattle.area_graph.specs.declared.entry.NumberedEntry.{NumberedEntry as Entry}
use Rattle.area_graph.specs.steps.NumberedBonds.{same_entry}

-- an entry leads from one node to another, not both of them networks; a network's has metric 0 and link data 0, a
-- router's a metric of at least 1
pub record IsEntry (ids : List NodeId) (entry : Entry) : Type 0 where
  pub tail : entry.tail < length ids
  pub far : entry.far < length ids
  pub different : entry.tail ≢ entry.far
  pub not_both_networks : IsNetwork ids entry.tail → ¬ IsNetwork ids entry.far
  pub of_network : IsNetwork ids entry.tail → (entry.metric ≡ 0) × (entry.link_data ≡ 0)
  pub of_router : ¬ IsNetwork ids entry.tail → 1 ≤ entry.metric

-- entries of which no two have one node and one place in its LSA
abbrev pub AreApart : List Entry → Type 0
AreApart all =
    (j k : ℕ) (d : Entry) → j < k → k < length all
    → same_entry (slice_index_or all j d) (slice_index_or all k d) ≡ false

-- entries of an area of these nodes
pub record AreEntries (ids : List NodeId) (all : List Entry) : Type 0 where
  pub kept : AllByRecursion (IsEntry ids) all
  pub apart : AreApart all
