-- Next hops on shortest paths (RFC 2328, section 16.1).
use Rattle.std.specs.Prelude.{◌≡◌, ◌≢◌, ◌≤◌, ◌+◌, ℕ, List, Option, Some, None, length, slice_get}
use Rattle.area_graph.specs.declared.area_types.Arc.{Arc}
use Rattle.area_graph.specs.Parts.{AreaParts}
use Rattle.mrt_graph.specs.GraphInvariant.{IsNetwork}
use Rattle.primary_alt.specs.declared.shortest.Primary.{Primary}
use Rattle.primary_alt.specs.ArcWalk.{ArcWalk}
use Rattle.primary_alt.specs.Distance.{IsDistance}

-- the arc begins a shortest path to t: its metric plus the distance of its far node to t is the distance of its tail
pub record BeginsShortest (arcs : List Arc) (t : ℕ) (arc : Arc) : Type 0 where
  pub rest : ℕ
  pub far : IsDistance arcs arc.to t rest
  pub near : IsDistance arcs arc.tail t (arc.metric + rest)

-- of the arcs of s that do, this is the first one, in their order
pub record IsFirstArc (arcs : List Arc) (s t number : ℕ) (arc : Arc) : Type 0 where
  pub there : slice_get arcs number ≡ Some arc
  pub from : arc.tail ≡ s
  pub shortest : BeginsShortest arcs t arc
  pub first : (k : ℕ) (other : Arc) → slice_get arcs k ≡ Some other → other.tail ≡ s
      → BeginsShortest arcs t other → number ≤ k

-- the arc leads to a network other than t
pub record LeadsOver (area : AreaParts) (t : ℕ) (arc : Arc) : Type 0 where
  pub network : IsNetwork area.ids arc.to
  pub other : arc.to ≢ t

-- the primary of router s for t: the first arc of s that begins a shortest path to t. If this arc leads to a network
-- other than t, a second one is found by the same rule at the network. There is none where s is t, and where no walk
-- leads to t
pub data IsPrimary (area : AreaParts) (s t : ℕ) : Option Primary → Type 0 where
  Itself : s ≡ t → IsPrimary area s t None
  NoWalk : ((walk : List Arc) → ¬ ArcWalk area.arcs s walk t) → IsPrimary area s t None
  Direct : (number : ℕ) (arc : Arc) → s ≢ t → IsFirstArc area.arcs s t number arc → ¬ LeadsOver area t arc
      → IsPrimary area s t (Some (record { first = number; second = None; next = arc.to }))
  Over : (number second : ℕ) (arc onward : Arc) → s ≢ t → IsFirstArc area.arcs s t number arc
      → LeadsOver area t arc → IsFirstArc area.arcs arc.to t second onward
      → IsPrimary area s t (Some (record { first = number; second = Some second; next = onward.to }))

-- the primaries of router s for all nodes, by number
pub record ArePrimaries (area : AreaParts) (s : ℕ) (entries : List (Option Primary)) : Type 0 where
  pub one_each : length entries ≡ length area.ids
  pub each : (t : ℕ) (entry : Option Primary) → slice_get entries t ≡ Some entry → IsPrimary area s t entry
