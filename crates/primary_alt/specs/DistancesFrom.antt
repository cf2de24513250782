-- The distances from one node to all.
use Rattle.std.specs.Prelude.{◌≡◌, ℕ, List, Some, None, Option, slice_get}
use Rattle.area_graph.specs.declared.area_types.Arc.{Arc}
use Rattle.primary_alt.specs.ArcWalk.{ArcWalk}
use Rattle.primary_alt.specs.Distance.{IsDistance}
use Rattle.primary_alt.specs.Distances.{HasDistance}

-- the distance from s to each node; none where no walk leads there
pub record AreDistancesFrom (arcs : List Arc) (s : ℕ) (distances : List (Option ℕ)) : Type 0 where
  pub some : (t distance : ℕ) → HasDistance distances t distance → IsDistance arcs s t distance
  pub none : (t : ℕ) → slice_get distances t ≡ Some None → (walk : List Arc) → ¬ ArcWalk arcs s walk t
