-- Paths of a block.
use Rattle.std.specs.Prelude.{◌≡◌, ◌≢◌, ◌+◌, ℕ, List, [], ◌∷◌, Some, slice_get}
use Rattle.block_spf.specs.declared.reach.Dir.{Dir}
use Rattle.block_spf.specs.declared.reach.Dir.TheVariants.{Down, Up}
use Rattle.link_direction.specs.Directions.{Directions}
use Rattle.mrt_graph.specs.declared.link.End.{End}
use Rattle.mrt_graph.specs.Topology.{Topology}

-- from s, going up, an end leads along the direction of its link; going down, against it
abbrev pub LeadsOn : Directions → Dir → ℕ → End → Type 0
LeadsOn w Up s end = w.tail end.link ≡ s
LeadsOn w Down s end = w.tail end.link ≡ end.to

-- an end of s, whose link lies in block k, in this direction
pub record IsStep (g : Topology) (w : Directions) (dir : Dir) (k s : ℕ) (end : End) : Type 0 where
  pub ends : List End
  pub list : slice_get g.ends s ≡ Some ends
  pub place : ℕ
  pub there : slice_get ends place ≡ Some end
  pub in_block : w.lies_in end.link ≡ k
  pub leads_on : LeadsOn w dir s end

-- from s to t, a path of block k, whose head is h: at least one end, each a step from the node where the one before it
-- leads. It meets the head only first or last
abbrev pub Path : Topology → Directions → Dir → ℕ → ℕ → ℕ → List End → ℕ → Type 0
Path g w dir k h s [] t = ⊥
Path g w dir k h s (end ∷ []) t = IsStep g w dir k s end × (end.to ≡ t)
Path g w dir k h s (end ∷ next ∷ more) t =
    IsStep g w dir k s end × (end.to ≢ h) × Path g w dir k h end.to (next ∷ more) t

-- the cost of a path: the sum of the metrics of the ends by which it leaves its nodes
abbrev pub cost_of : List End → ℕ
cost_of [] = 0
cost_of (end ∷ ends) = end.metric + cost_of ends
