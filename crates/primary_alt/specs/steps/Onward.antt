-- Arcs of shortest paths from one node.
use Rattle.std.specs.Prelude.{◌≡◌, ◌<◌, ◌≤◌, ◌+◌, ℕ, List, Option, Some, Contains, slice_get}
use Rattle.area_graph.specs.declared.area_types.Arc.{Arc}
use Rattle.primary_alt.specs.declared.onward.Onward.{Onward}
use Rattle.primary_alt.specs.Distances.{HasDistance}

-- by the distances from one node, the arc is one of a shortest path: its metric plus the distance of its tail is that of
-- its far node; and this is the sum of both distances
pub record IsOnward (distances : List (Option ℕ)) (arc : Arc) (sum : ℕ) : Type 0 where
  pub near : ℕ
  pub tail : HasDistance distances arc.tail near
  pub to : HasDistance distances arc.to (near + arc.metric)
  pub is : sum ≡ near + (near + arc.metric)

-- of the arcs with a number below that, these are the ones of shortest paths, each with the sum
pub record AreOnward (arcs : List Arc) (distances : List (Option ℕ)) (count : ℕ) (onward : List Onward) : Type 0 where
  pub all : (number sum : ℕ) (arc : Arc) → number < count → slice_get arcs number ≡ Some arc → IsOnward distances arc sum
      → Contains onward (record { number = number; sum = sum })
  pub only : (next : Onward) → Contains onward next
      → (arc : Arc) × (slice_get arcs next.number ≡ Some arc) × IsOnward distances arc next.sum

-- of two arcs in a row one at least costs something
abbrev pub CostInRow : List Arc → Type 0
CostInRow arcs =
    (k j : ℕ) (arc next : Arc) → slice_get arcs k ≡ Some arc → slice_get arcs j ≡ Some next → arc.to ≡ next.tail
    → 1 ≤ arc.metric + next.metric
