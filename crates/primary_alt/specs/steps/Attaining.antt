-- Arcs that attain a distance.
use Rattle.std.specs.Prelude.{◌≡◌, ◌<◌, ◌≤◌, ◌+◌, ℕ, List, Option, Some, None, length, slice_get, slice_index_or}
use Rattle.area_graph.specs.declared.area_types.Arc.{Arc}
use Rattle.primary_alt.specs.Distances.{HasDistance}

-- by these distances, the arc begins a shortest path: its metric plus the distance of its far node is that of its tail
pub record Attains (distances : List (Option ℕ)) (arc : Arc) : Type 0 where
  pub rest : ℕ
  pub far : HasDistance distances arc.to rest
  pub near : HasDistance distances arc.tail (arc.metric + rest)

-- of the arcs from one number up to another, this is the first one that does; none where none does
pub data IsFirstToAttain (arcs : List Arc) (from to : ℕ) (distances : List (Option ℕ)) : Option ℕ → Type 0 where
  NoneDoes : ((k : ℕ) (arc : Arc) → from ≤ k → k < to → slice_get arcs k ≡ Some arc → ¬ Attains distances arc)
      → IsFirstToAttain arcs from to distances None
  Does : (number : ℕ) (arc : Arc) → from ≤ number → number < to → slice_get arcs number ≡ Some arc
      → Attains distances arc
      → ((k : ℕ) (other : Arc) → from ≤ k → k < number → slice_get arcs k ≡ Some other → ¬ Attains distances other)
      → IsFirstToAttain arcs from to distances (Some number)

-- each arc leads from one of that many nodes to one of them
pub record AreBetween (count : ℕ) (arcs : List Arc) : Type 0 where
  pub tails : (k : ℕ) (arc : Arc) → slice_get arcs k ≡ Some arc → arc.tail < count
  pub tos : (k : ℕ) (arc : Arc) → slice_get arcs k ≡ Some arc → arc.to < count

-- of each node the first of its arcs that attains its distance
pub record AreFirstToAttain (arcs : List Arc) (starts : List ℕ) (distances firsts : List (Option ℕ)) : Type 0 where
  pub one_each : length firsts ≡ length distances
  pub each : (x : ℕ) → x < length distances → IsFirstToAttain arcs (slice_index_or starts x 0) (slice_index_or starts (x + 1) 0)
      distances (slice_index_or firsts x None)
