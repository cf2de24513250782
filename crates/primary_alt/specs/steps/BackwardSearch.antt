-- The search for distances to one node, backwards along the arcs.
use Rattle.std.specs.Prelude.{◌≡◌, ◌<◌, ◌≤◌, ◌+◌, ◌*◌, ◌^◌, ◌⊎◌, ℕ, List, Option, Some, None, Contains, length, slice_get, count_by, sum_by}
use Rattle.std.specs.Option.{is_some}
use Rattle.std.specs.declared.cmp.Reverse.{Reverse}
use Rattle.area_graph.specs.declared.area_types.Arc.{Arc}
use Rattle.primary_alt.specs.declared.backward.Offer.{Offer}
use Rattle.primary_alt.specs.ArcWalk.{ArcWalk, cost_of}
use Rattle.primary_alt.specs.Distances.{HasDistance}

-- node v has a distance of at most this
pub record HasAtMost (known : List (Option ℕ)) (v distance : ℕ) : Type 0 where
  pub least : ℕ
  pub there : HasDistance known v least
  pub upto : least ≤ distance

-- the offer of this distance to node v waits
abbrev pub Waits : List (Reverse Offer) → ℕ → ℕ → Type 0
Waits heap v distance = Contains heap (record { 0 = record { distance = distance; node = v } })

-- of how many nodes a distance is known
abbrev pub reached : List (Option ℕ) → ℕ
reached known = count_by is_some known

-- no distance is longer than so many of the longest arcs, less one, as there are nodes with a distance
abbrev pub AreSmall : List (Option ℕ) → Type 0
AreSmall known = (v distance : ℕ) → HasDistance known v distance → distance + 65535 ≤ 65535 * reached known

-- how far the distance of a node can fall
abbrev pub room_of : Option ℕ → ℕ
room_of None = 2 ^ 32
room_of (Some distance) = distance

-- what is left to do, where so many offers wait: each new offer makes a distance fall
abbrev pub left : List (Option ℕ) → ℕ → ℕ
left known waiting = 2 * sum_by room_of known + waiting

-- node v is a leaf of u: each arc to v leaves u
abbrev pub IsLeafOf : List Arc → ℕ → ℕ → Type 0
IsLeafOf arcs u v = (arc : Arc) → Contains arcs arc → arc.to ≡ v → arc.tail ≡ u

-- the offer of this distance to node v waits; it need not where v is a leaf of u
abbrev pub WaitsUnlessLeaf : List Arc → ℕ → List (Reverse Offer) → ℕ → ℕ → Type 0
WaitsUnlessLeaf arcs u heap v distance = Waits heap v distance ⊎ IsLeafOf arcs u v

-- an offer of u to a node, among those that wait: it waits, or need not, and no other one is new
pub record IsAdded (arcs : List Arc) (u node distance : ℕ) (heap heap' : List (Reverse Offer)) : Type 0 where
  pub there : WaitsUnlessLeaf arcs u heap' node distance
  pub kept : (v d : ℕ) → Waits heap v d → Waits heap' v d
  pub only : (v d : ℕ) → Waits heap' v d → Waits heap v d ⊎ (v ≡ node)

-- an offer of u to a node: the node then has at most this distance, and what is new is this offer, which waits or need not
pub record IsOffered (arcs : List Arc) (u node distance : ℕ) (before after : List (Option ℕ)) (heap heap' : List (Reverse Offer))
    : Type 0 where
  pub one_each : length after ≡ length before
  pub taken : HasAtMost after node distance
  pub lower : (v d : ℕ) → HasAtMost before v d → HasAtMost after v d
  pub from : (v d : ℕ) → HasDistance after v d
      → HasDistance before v d ⊎ ((v ≡ node) × (d ≡ distance) × WaitsUnlessLeaf arcs u heap' v d)
  pub kept : (v d : ℕ) → Waits heap v d → Waits heap' v d
  pub only : (v d : ℕ) → Waits heap' v d → Waits heap v d ⊎ (v ≡ node)
  pub more : reached before ≤ reached after
  pub small : AreSmall before → distance ≤ 65535 * reached before → AreSmall after

-- offers of u over the first so many of a row of arcs: each tail has at most the metric and the distance of u, and what is
-- new is such an offer, which waits or need not
pub record IsRelaxed (arcs row : List Arc) (u count distance : ℕ) (before after : List (Option ℕ))
    (heap heap' : List (Reverse Offer)) : Type 0 where
  pub one_each : length after ≡ length before
  pub taken : (j : ℕ) (arc : Arc) → j < count → slice_get row j ≡ Some arc → HasAtMost after arc.tail (arc.metric + distance)
  pub lower : (v d : ℕ) → HasAtMost before v d → HasAtMost after v d
  pub from : (v d : ℕ) → HasDistance after v d
      → HasDistance before v d ⊎ ((arc : Arc) × Contains row arc × (v ≡ arc.tail) × (d ≡ arc.metric + distance) × WaitsUnlessLeaf arcs u heap' v d)
  pub kept : (v d : ℕ) → Waits heap v d → Waits heap' v d
  pub only : (v d : ℕ) → Waits heap' v d → Waits heap v d ⊎ (v < length before)
  pub more : reached before ≤ reached after
  pub small : AreSmall after

-- a walk of this cost leads from v to t
pub record IsReached (arcs : List Arc) (t v cost : ℕ) : Type 0 where
  pub walk : List Arc
  pub leads : ArcWalk arcs v walk t
  pub costs : cost_of walk ≡ cost

-- no arc to v offers its tail less than this distance gives
abbrev pub IsPassed : List Arc → List (Option ℕ) → ℕ → ℕ → Type 0
IsPassed arcs known v distance =
    (arc : Arc) → Contains arcs arc → arc.to ≡ v → HasAtMost known arc.tail (arc.metric + distance)

-- the search on the way: t has distance 0, each distance is a walk's, and either waits or was passed on
pub record IsSearching (arcs : List Arc) (t : ℕ) (known : List (Option ℕ)) (heap : List (Reverse Offer)) : Type 0 where
  pub begun : HasAtMost known t 0
  pub sound : (v distance : ℕ) → HasDistance known v distance → IsReached arcs t v distance
  pub passed : (v distance : ℕ) → HasDistance known v distance
      → Waits heap v distance ⊎ IsPassed arcs known v distance
  pub within : (v distance : ℕ) → Waits heap v distance → v < length known
