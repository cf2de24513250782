-- The least beginnings of shortest paths from one node, by the numbers of the first two arcs.
use Rattle.std.specs.Prelude.{◌≡◌, ◌≢◌, ◌<◌, ◌≤◌, ◌+◌, ◌⊎◌, ⊤, ℕ, List, [], ◌∷◌, Option, Some, None, slice_get}
use Rattle.area_graph.specs.declared.area_types.Arc.{Arc}
use Rattle.primary_alt.specs.declared.beginnings.Beginning.{Beginning}
use Rattle.primary_alt.specs.ArcWalk.{ArcWalk, cost_of}
use Rattle.primary_alt.specs.steps.Beginnings.{HasBeginning}
use Rattle.primary_alt.specs.Distances.{HasDistance}
use Rattle.primary_alt.specs.steps.Onward.{IsOnward}

-- the first number is lower, or it is the same and the second one is no higher
abbrev pub IsUpTo : Beginning → Beginning → Type 0
IsUpTo begin other = (begin.first < other.first) ⊎ ((begin.first ≡ other.first) × (begin.second ≤ other.second))

-- this is no higher
abbrev pub IsAtMost : Option Beginning → Beginning → Type 0
IsAtMost None most = ⊥
IsAtMost (Some begin) most = IsUpTo begin most

-- node v has at most this beginning
pub record HasUpTo (begins : List (Option Beginning)) (v : ℕ) (most : Beginning) : Type 0 where
  pub least : Beginning
  pub there : HasBeginning begins v least
  pub upto : IsUpTo least most

-- how a path begins that goes on over the arc of this number: an arc of s is the first one; one of the node that the
-- first arc leads to is the second one; after any other the path begins as that to the arc's tail
pub data GoesOn (arcs : List Arc) (s : ℕ) (begins : List (Option Beginning)) (number : ℕ) (arc : Arc) : Beginning → Type 0
  where
    Own : arc.tail ≡ s → GoesOn arcs s begins number arc (record { first = number; second = number })
    Second : (before : Beginning) (head : Arc) → arc.tail ≢ s → HasBeginning begins arc.tail before
        → slice_get arcs before.first ≡ Some head → head.to ≡ arc.tail
        → GoesOn arcs s begins number arc (record { first = before.first; second = number })
    Later : (before : Beginning) (head : Arc) → arc.tail ≢ s → HasBeginning begins arc.tail before
        → slice_get arcs before.first ≡ Some head → head.to ≢ arc.tail → GoesOn arcs s begins number arc before

-- what was passed on over the arc: its far node has at most this beginning, and what is new is that
pub record IsPassedOn (arcs : List Arc) (s number : ℕ) (arc : Arc) (before after : List (Option Beginning)) : Type 0 where
  pub elsewhere : (u : ℕ) → u ≢ arc.to → slice_get after u ≡ slice_get before u
  pub from : (begin : Beginning) → HasBeginning after arc.to begin
      → HasBeginning before arc.to begin ⊎ GoesOn arcs s before number arc begin
  pub taken : (begin : Beginning) → GoesOn arcs s before number arc begin → HasUpTo after arc.to begin
  pub lower : (begin : Beginning) → HasBeginning before arc.to begin → HasUpTo after arc.to begin

-- the walk, if it has an arc, begins with the one of this number
abbrev pub BeginsWith : List Arc → List Arc → ℕ → Type 0
BeginsWith arcs [] number = ⊤
BeginsWith arcs (arc ∷ more) number = slice_get arcs number ≡ Some arc

-- a shortest path from s to v begins with these arcs
pub record IsBegun (arcs : List Arc) (s : ℕ) (distances : List (Option ℕ)) (v : ℕ) (begin : Beginning) : Type 0 where
  pub head : Arc
  pub there : slice_get arcs begin.first ≡ Some head
  pub tail : head.tail ≡ s
  pub far : HasDistance distances head.to head.metric
  pub rest : List Arc
  pub leads : ArcWalk arcs head.to rest v
  pub costs : HasDistance distances v (head.metric + cost_of rest)
  pub second : BeginsWith arcs rest begin.second

-- of each node the least beginning: it is one of a shortest path, and no arc of a shortest path goes on to a lower one
pub record AreLeast (arcs : List Arc) (s : ℕ) (distances : List (Option ℕ)) (begins : List (Option Beginning)) : Type 0 where
  pub sound : (v : ℕ) (begin : Beginning) → HasBeginning begins v begin → IsBegun arcs s distances v begin
  pub least : (number sum : ℕ) (arc : Arc) (begin : Beginning) → slice_get arcs number ≡ Some arc → IsOnward distances arc sum
      → GoesOn arcs s begins number arc begin → HasUpTo begins arc.to begin
