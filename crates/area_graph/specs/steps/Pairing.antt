-- Arcs as they are paired in one pass over them.
use Rattle.std.specs.Prelude.{◌<◌, ◌≢◌, ◌++◌, ℕ, List, take}
use Rattle.std.specs.List.{filter, position}
use Rattle.std.specs.List.Sorted.{IsSorted}
use Rattle.mrt_graph.specs.InOrder.{in_order}
use Rattle.area_graph.specs.declared.entry.NumberedEntry.{NumberedEntry as Entry}
use Rattle.area_graph.specs.declared.pairing.Numbered.{Numbered}
use Rattle.area_graph.specs.steps.NumberedArcs.{arc_cmp, pairing_cmp}
use Rattle.area_graph.specs.steps.NumberedBonds.{is_of, is_single, pairs, tells_pair}
use Rattle.area_graph.specs.steps.Listed.{AreApart}

-- arcs in the order in which they are paired, each of them once
pub record AreOrdered (arcs : List Entry) : Type 0 where
  pub sorted : IsSorted pairing_cmp arcs
  pub apart : AreApart arcs

-- an arc from one node of an area to another
pub record IsBetween (arc : Entry) : Type 0 where
  pub tail : arc.tail < 4096
  pub far : arc.far < 4096
  pub different : arc.tail ≢ arc.far

-- the pairs that the first of the arcs tell
abbrev pub pairs_upto : List Entry → ℕ → List Entry
pairs_upto arcs count = filter (tells_pair arcs) (take count arcs)

-- the bonds of all pairs, and of single arcs among the first of the arcs in their order
abbrev pub bonds_upto : List Entry → ℕ → List Entry
bonds_upto arcs count = pairs arcs ++ filter (is_single arcs) (take count (in_order arc_cmp arcs))

-- an arc with the number of the pair that it is of, if it is of one
abbrev pub with_pair : List Entry → Entry → Numbered
with_pair arcs arc = record { arc = arc; pair = position (is_of arcs arc) (pairs arcs) }
