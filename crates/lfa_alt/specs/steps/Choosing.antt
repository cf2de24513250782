-- What is asked of a destination, what a path offers for it, and the first one of the loop-free candidates so far.
use Rattle.std.specs.Prelude.{◌≡◌, ℕ, List, Option, Some, None, IsTrue, length, slice_get, ◌==◌, ◌&&◌, ◌+◌, Bool, true, not, nat_lt, if◌then◌else◌, ◌<◌, ◌↔◌}
use Rattle.std.specs.Ordering.{is_gt}
use Rattle.area_graph.specs.declared.area_types.Arc.{Arc}
use Rattle.area_graph.specs.Parts.{AreaParts}
use Rattle.primary_alt.specs.Distance.{IsDistance}
use Rattle.primary_alt.specs.Primaries.{IsPrimary}
use Rattle.lfa_alt.specs.declared.alternate.FreeCandidate.{FreeCandidate}
use Rattle.lfa_alt.specs.declared.destination.Destination.{Destination}
use Rattle.lfa_alt.specs.declared.neighbour_path.NeighbourPath.{NeighbourPath}
use Rattle.lfa_alt.specs.Candidates.{IsOtherBond}
use Rattle.lfa_alt.specs.LoopFree.{IsLoopFreeBy, free_choice, IsBest, candidate_cmp}
use Rattle.lfa_alt.specs.steps.NeighbourPaths.{candidate_of, serves}

-- the primary of s for t, the bond of its first arc, the distance from s, and that from the primary's next
pub record IsDestination (area : AreaParts) (s t : ℕ) (destination : Destination) : Type 0 where
  pub primary : IsPrimary area s t (Some destination.primary)
  pub arc : Arc
  pub there : slice_get area.arcs destination.primary.first ≡ Some arc
  pub bond : destination.bond ≡ arc.bond
  pub far : IsDistance area.arcs s t destination.distance
  pub beyond : IsDistance area.arcs destination.primary.next t destination.beyond

-- none where t has no primary
abbrev pub IsDestinationFor : AreaParts → ℕ → ℕ → Option Destination → Type 0
IsDestinationFor area s t None = IsPrimary area s t None
IsDestinationFor area s t (Some destination) = IsDestination area s t destination

-- of each node
pub record AreDestinations (area : AreaParts) (s : ℕ) (destinations : List (Option Destination)) : Type 0 where
  pub one_each : length destinations ≡ length area.ids
  pub each : (t : ℕ) (entry : Option Destination) → slice_get destinations t ≡ Some entry → IsDestinationFor area s t entry

-- what is told of the loop-free candidate that a path is for t
abbrev pub Offers : AreaParts → ℕ → ℕ → Option Destination → NeighbourPath → FreeCandidate → Type 0
Offers area s t None path choice = ⊥
Offers area s t (Some destination) path choice =
    IsTrue (serves path.network path.second t)
    × IsOtherBond area.arcs destination.primary path.bond
    × IsLoopFreeBy area s t destination.primary (candidate_of path) choice

-- whether one distance is less than two together, the first of which may be missing and is greater than any number then
abbrev pub is_nearer : ℕ → Option ℕ → ℕ → Bool
is_nearer rest None back = true
is_nearer rest (Some out) back = nat_lt rest (out + back)

-- whether a path may stand in for the primary: it serves t, it does not begin with the primary's bond, and its next is
-- nearer to t than over s
abbrev pub may_serve : NeighbourPath → Destination → ℕ → ℕ → Option ℕ → Bool
may_serve path destination t rest out =
    serves path.network path.second t && (not (path.bond == destination.bond) && is_nearer rest out destination.distance)

-- whether it protects the primary's next: this is not t, and its own next is nearer to t than over this one
abbrev pub protects : Destination → ℕ → ℕ → Option ℕ → Bool
protects destination t rest through =
    not (destination.primary.next == t) && is_nearer rest through destination.beyond

-- by the distances from its next to t, to s and to the primary's next: nothing where no walk leads to t, and nothing where
-- it may not serve
abbrev pub offer : NeighbourPath → Destination → ℕ → Option ℕ → Option ℕ → Option ℕ → Option FreeCandidate
offer path destination t None out through = None
offer path destination t (Some rest) out through =
    if may_serve path destination t rest out
    then Some (free_choice (candidate_of path) (protects destination t rest through) rest)
    else None

-- the one that comes first; the former where they come together
abbrev pub better : Option FreeCandidate → Option FreeCandidate → Option FreeCandidate
better None offered = offered
better (Some best) None = Some best
better (Some best) (Some offered) = if is_gt (candidate_cmp best offered) then Some offered else Some best

-- one of the first so many paths offers the candidate for t
pub record IsOfferedBy (area : AreaParts) (s t : ℕ) (entry : Option Destination) (paths : List NeighbourPath) (count : ℕ) (choice : FreeCandidate)
    : Type 0 where
  pub number : ℕ
  pub path : NeighbourPath
  pub low : number < count
  pub there : slice_get paths number ≡ Some path
  pub offers : Offers area s t entry path choice

-- of each node the first one of the candidates that the first so many paths offer
pub record AreBest (area : AreaParts) (s : ℕ) (destinations : List (Option Destination)) (paths : List NeighbourPath) (count : ℕ)
    (best : List (Option FreeCandidate)) : Type 0 where
  pub one_each : length best ≡ length destinations
  pub each : (t : ℕ) (entry : Option Destination) (choice : Option FreeCandidate) → slice_get destinations t ≡ Some entry
      → slice_get best t ≡ Some choice → IsBest (IsOfferedBy area s t entry paths count) choice

-- the new candidate is the old one or one that is offered, whichever comes first
pub record IsBetterBy (Is : FreeCandidate → Type 0) (old new : Option FreeCandidate) : Type 0 where
  pub offered : Option FreeCandidate
  pub exactly : (choice : FreeCandidate) → (offered ≡ Some choice) ↔ Is choice
  pub is : new ≡ better old offered
