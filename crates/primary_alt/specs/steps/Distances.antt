-- The distances of all nodes to one, as a list has them.
use Rattle.std.specs.Prelude.{◌≡◌, ℕ, List, Option, Some, None, slice_get}
use Rattle.area_graph.specs.declared.area_types.Arc.{Arc}
use Rattle.primary_alt.specs.ArcWalk.{ArcWalk}
use Rattle.primary_alt.specs.Distance.{IsDistance}
use Rattle.primary_alt.specs.Distances.{HasDistance}

-- the distance of each node to t; none where no walk leads there
pub record AreDistances (arcs : List Arc) (t : ℕ) (distances : List (Option ℕ)) : Type 0 where
  pub some : (v distance : ℕ) → HasDistance distances v distance → IsDistance arcs v t distance
  pub none : (v : ℕ) → slice_get distances v ≡ Some None → (walk : List Arc) → ¬ ArcWalk arcs v walk t
