-- What is left of a path after its first end, and its least cost.
use Rattle.std.specs.Prelude.{◌≡◌, ◌≢◌, ◌<◌, ◌≤◌, ℕ, List, [], ◌∷◌}
use Rattle.block_spf.specs.declared.reach.Dir.{Dir}
use Rattle.block_spf.specs.Path.{Path, cost_of}
use Rattle.link_direction.specs.Directions.{Directions}
use Rattle.mrt_graph.specs.declared.link.End.{End}
use Rattle.mrt_graph.specs.Topology.{Topology}
use Rattle.block_spf.specs.Rest.{far}

-- what is left at node y, on the way to t: nothing, where y is t; or a path from y, which is not the head
abbrev pub Rest : Topology → Directions → Dir → ℕ → ℕ → ℕ → List End → ℕ → Type 0
Rest g w dir k h y [] t = y ≡ t
Rest g w dir k h y (end ∷ ends) t = (y ≢ h) × Path g w dir k h y (end ∷ ends) t

-- the least cost of what is left from y to t in block k, whose head is h; far where nothing leads there
pub record IsRestCost (g : Topology) (w : Directions) (dir : Dir) (k h y t cost : ℕ) : Type 0 where
  pub reached : cost < far → (rest : List End) × Rest g w dir k h y rest t × (cost_of rest ≡ cost)
  pub least : (rest : List End) → Rest g w dir k h y rest t → cost ≤ cost_of rest
