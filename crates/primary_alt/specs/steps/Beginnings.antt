-- How shortest paths from a router begin.
use Rattle.std.specs.Prelude.{◌≡◌, ◌≢◌, ℕ, List, Option, Some, None, slice_get}
use Rattle.area_graph.specs.declared.area_types.Arc.{Arc}
use Rattle.area_graph.specs.Parts.{AreaParts}
use Rattle.primary_alt.specs.declared.beginnings.Beginning.{Beginning}
use Rattle.primary_alt.specs.ArcWalk.{ArcWalk}
use Rattle.primary_alt.specs.Primaries.{IsFirstArc, LeadsOver}

-- node v has this beginning in the list
abbrev pub HasBeginning : List (Option Beginning) → ℕ → Beginning → Type 0
HasBeginning begins v begin = slice_get begins v ≡ Some (Some begin)

-- from node x the arc of this number begins a shortest path to t, the first one that does
abbrev pub IsFirst : AreaParts → ℕ → ℕ → ℕ → Type 0
IsFirst area x t number = (arc : Arc) × IsFirstArc area.arcs x t number arc

-- the number of the first arc of s; where this arc leads to a network other than t, also that of the first arc of the
-- network
pub record IsBeginning (area : AreaParts) (s t : ℕ) (begin : Beginning) : Type 0 where
  pub first : IsFirst area s t begin.first
  pub second : (arc : Arc) → IsFirstArc area.arcs s t begin.first arc → LeadsOver area t arc → IsFirst area arc.to t begin.second

-- for each other node how a shortest path from s begins; none where no walk leads there
pub record AreBeginnings (area : AreaParts) (s : ℕ) (begins : List (Option Beginning)) : Type 0 where
  pub none : (t : ℕ) → t ≢ s → slice_get begins t ≡ Some None → (walk : List Arc) → ¬ ArcWalk area.arcs s walk t
  pub some : (t : ℕ) (begin : Beginning) → t ≢ s → HasBeginning begins t begin → IsBeginning area s t begin
