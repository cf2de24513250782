-- Which paths from a router may stand in for its primary (RFC 5286, section 3.1: the neighbors of S).
use Rattle.std.specs.Prelude.{◌≡◌, ◌≢◌, ◌+◌, ◌⊎◌, ℕ, List, Option, Some, None, slice_get}
use Rattle.area_graph.specs.declared.area_types.Arc.{Arc}
use Rattle.area_graph.specs.Parts.{AreaParts}
use Rattle.primary_alt.specs.declared.shortest.Primary.{Primary}
use Rattle.primary_alt.specs.Primaries.{LeadsOver}
use Rattle.primary_alt.specs.Routers.{IsRouter}

-- what is told of a candidate: the numbers of its arcs, the node that they lead to, which is its next, the bond of the
-- first arc, and the sum of the metrics of its arcs
pub record Candidate : Type 0 where
  pub first : ℕ
  pub second : Option ℕ
  pub next : ℕ
  pub bond : ℕ
  pub metric : ℕ

-- the arc of that number leaves s
pub record Leaves (area : AreaParts) (s number : ℕ) (arc : Arc) : Type 0 where
  pub there : slice_get area.arcs number ≡ Some arc
  pub from : arc.tail ≡ s

-- from s to a neighbour, for t: an arc of s to a router or to t; or an arc of s to a network other than t, and an arc of
-- that network to a router other than s
pub data ToNeighbour (area : AreaParts) (s t : ℕ) : Candidate → Type 0 where
  Straight : (number : ℕ) (arc : Arc) → Leaves area s number arc → IsRouter area.ids arc.to ⊎ (arc.to ≡ t)
      → ToNeighbour area s t (record { first = number; second = None; next = arc.to; bond = arc.bond; metric = arc.metric })
  Across : (number second : ℕ) (arc onward : Arc) → Leaves area s number arc → LeadsOver area t arc
      → Leaves area arc.to second onward → IsRouter area.ids onward.to → onward.to ≢ s
      → ToNeighbour area s t (record { first = number; second = Some second; next = onward.to; bond = arc.bond; metric = arc.metric + onward.metric })

-- the bond is not that of the primary's first arc
pub record IsOtherBond (arcs : List Arc) (primary : Primary) (bond : ℕ) : Type 0 where
  pub arc : Arc
  pub there : slice_get arcs primary.first ≡ Some arc
  pub other : bond ≢ arc.bond

-- a candidate of s for t: it leads to a neighbour, and its first arc is of another bond than the primary's
pub record IsCandidate (area : AreaParts) (s t : ℕ) (primary : Primary) (candidate : Candidate) : Type 0 where
  pub leads : ToNeighbour area s t candidate
  pub other_bond : IsOtherBond area.arcs primary candidate.bond
