-- The paths from a router over which its candidates lead, whatever the destination.
use Rattle.std.specs.Prelude.{◌≡◌, ◌≢◌, ◌==◌, ◌+◌, ◌<◌, ◌≤◌, ◌⊎◌, ⊤, ℕ, Bool, true, not, List, Option, Some, None, Contains, slice_get}
use Rattle.area_graph.specs.declared.area_types.Arc.{Arc}
use Rattle.area_graph.specs.Parts.{AreaParts}
use Rattle.mrt_graph.specs.GraphInvariant.{IsNetwork}
use Rattle.lfa_alt.specs.declared.neighbour_path.NeighbourPath.{NeighbourPath}
use Rattle.lfa_alt.specs.Candidates.{Candidate, Leaves}

-- a path over an arc alone
abbrev pub path_over : ℕ → Arc → Option ℕ → NeighbourPath
path_over number arc network =
    record { first = number; second = None; next = arc.to; bond = arc.bond; metric = arc.metric; network = network }

-- a path over an arc to a network, and an arc of the network
abbrev pub path_across : ℕ → Arc → Option ℕ → Arc → NeighbourPath
path_across number arc second onward =
    record {
      first = number;
      second = second;
      next = onward.to;
      bond = arc.bond;
      metric = arc.metric + onward.metric;
      network = Some arc.to;
    }

-- over the arc of that number, which leaves s: an arc to a router; an arc to a network, for that network alone; an arc
-- to a network and from there one to another node than s, for any other destination
pub data IsPathOver (area : AreaParts) (s number : ℕ) : NeighbourPath → Type 0 where
  ToRouter : (arc : Arc) → Leaves area s number arc → ¬ IsNetwork area.ids arc.to
      → IsPathOver area s number (path_over number arc None)
  ToNetwork : (arc : Arc) → Leaves area s number arc → IsNetwork area.ids arc.to
      → IsPathOver area s number (path_over number arc (Some arc.to))
  AcrossNetwork : (second : ℕ) (arc onward : Arc) → Leaves area s number arc → IsNetwork area.ids arc.to
      → Leaves area arc.to second onward → onward.to ≢ s
      → IsPathOver area s number (path_across number arc (Some second) onward)

-- a path over an arc of s to a network, which ends there
pub record IsPathToNetwork (area : AreaParts) (s : ℕ) (path : NeighbourPath) : Type 0 where
  pub number : ℕ
  pub arc : Arc
  pub leaves : Leaves area s number arc
  pub network : IsNetwork area.ids arc.to
  pub is : path ≡ path_over number arc (Some arc.to)

-- whether a path over an arc to that network, if it is one, and over that second arc, if there is one, serves t: an arc to
-- a router serves any node, one to a network that network, and a path across a network any other node
abbrev pub serves : Option ℕ → Option ℕ → ℕ → Bool
serves None second t = true
serves (Some network) None t = network == t
serves (Some network) (Some second) t = not (network == t)

-- a path, as what is told of a candidate
abbrev pub candidate_of : NeighbourPath → Candidate
candidate_of path =
    record { first = path.first; second = path.second; next = path.next; bond = path.bond; metric = path.metric }

-- a second arc is no later than another one
abbrev pub NotLater : Option ℕ → Option ℕ → Type 0
NotLater None None = ⊤
NotLater (Some second) (Some other) = second ≤ other
NotLater None (Some other) = ⊥
NotLater (Some second) None = ⊥

-- a path stands for another one: over the same first arc to the same node at the same cost, and over no later second arc
pub record StandsFor (path other : NeighbourPath) : Type 0 where
  pub first : path.first ≡ other.first
  pub second : NotLater path.second other.second
  pub next : path.next ≡ other.next
  pub bond : path.bond ≡ other.bond
  pub metric : path.metric ≡ other.metric
  pub network : path.network ≡ other.network

-- one of the paths stands for another one
pub record HasFor (paths : List NeighbourPath) (other : NeighbourPath) : Type 0 where
  pub path : NeighbourPath
  pub there : Contains paths path
  pub stands : StandsFor path other

-- paths of s, in some order, which stand for all paths of s
pub record ArePaths (area : AreaParts) (s : ℕ) (paths : List NeighbourPath) : Type 0 where
  pub only : (path : NeighbourPath) → Contains paths path → (number : ℕ) × IsPathOver area s number path
  pub all : (number : ℕ) (path : NeighbourPath) → IsPathOver area s number path → HasFor paths path

-- an arc goes on from another one, to another node than s
abbrev pub LeadsOn : Arc → ℕ → Arc → Type 0
LeadsOn arc s onward = (onward.tail ≡ arc.to) × (onward.to ≢ s)

-- the arc just before that number leads between the same two nodes
pub record IsAgain (arcs : List Arc) (second : ℕ) (onward : Arc) : Type 0 where
  pub before : ℕ
  pub up : before + 1 ≡ second
  pub arc : Arc
  pub there : slice_get arcs before ≡ Some arc
  pub tail : arc.tail ≡ onward.tail
  pub to : arc.to ≡ onward.to

-- over that arc and one of the first so many arcs, which leaves the node that it leads to
pub record IsAcrossTo (arcs : List Arc) (s number : ℕ) (arc : Arc) (count : ℕ) (path : NeighbourPath) : Type 0 where
  pub second : ℕ
  pub onward : Arc
  pub low : second < count
  pub there : slice_get arcs second ≡ Some onward
  pub on : LeadsOn arc s onward
  pub is : path ≡ path_across number arc (Some second) onward

-- one of the paths leads over that arc to where an onward arc leads, by the arc of no greater number than that one's
pub record HasAcross (arcs : List Arc) (number : ℕ) (arc : Arc) (second : ℕ) (onward : Arc) (paths : List NeighbourPath) : Type 0 where
  pub least : ℕ
  pub other : Arc
  pub low : least ≤ second
  pub there : slice_get arcs least ≡ Some other
  pub from : other.tail ≡ onward.tail
  pub to : other.to ≡ onward.to
  pub has : Contains paths (path_across number arc (Some least) other)

-- the paths that were there, and paths over that arc and the first so many arcs
pub record AddsAcross (arcs : List Arc) (s number : ℕ) (arc : Arc) (count : ℕ) (olds paths : List NeighbourPath) : Type 0 where
  pub only : (path : NeighbourPath) → Contains paths path → Contains olds path ⊎ IsAcrossTo arcs s number arc count path
  pub kept : (path : NeighbourPath) → Contains olds path → Contains paths path
  pub all : (second : ℕ) (onward : Arc) → second < count → slice_get arcs second ≡ Some onward → LeadsOn arc s onward
      → HasAcross arcs number arc second onward paths

-- the paths that were there, and paths over the arc of that number, which stand for all over it
pub record AddsOver (area : AreaParts) (s number : ℕ) (olds paths : List NeighbourPath) : Type 0 where
  pub only : (path : NeighbourPath) → Contains paths path → Contains olds path ⊎ IsPathOver area s number path
  pub kept : (path : NeighbourPath) → Contains olds path → Contains paths path
  pub all : (path : NeighbourPath) → IsPathOver area s number path → HasFor paths path
