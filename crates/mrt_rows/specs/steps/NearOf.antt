-- Near rows, and where they are found.
use Rattle.std.specs.Prelude.{◌≡◌, ◌++◌, ℕ, zero, suc, List, [], ◌∷◌, Option, Some, None, filter}
use Rattle.mrt_graph.specs.declared.cert.Row.{Row}
use Rattle.mrt_graph.specs.declared.gadag.Place.{Place}
use Rattle.mrt_graph.specs.Tags.{is_near}
use Rattle.mrt_graph.specs.Topology.{Topology}
use Rattle.link_direction.specs.CommonBlock.{HaveCommonBlock}
use Rattle.link_direction.specs.Directions.{Directions}
use Rattle.mrt_rows.specs.steps.Put.{IsOwnRow}

-- the row, where it is there and near
abbrev pub near_in : Option Row → List Row
near_in None = []
near_in (Some row) = filter is_near (row ∷ [])

-- of some rows of a source by destination, the near ones of those for the first nodes
abbrev pub near_first : (ℕ → Option Row) → ℕ → List Row
near_first rows zero = []
near_first rows (suc t) = near_first rows t ++ near_in (rows t)

-- the row of s for t, where they have a block in common
pub data IsNearRow (g : Topology) (root : ℕ) (w : Directions) (s t : ℕ) : Option Row → Type 0 where
  InCommon : (row : Row) (k h : ℕ) → HaveCommonBlock w s t k h → IsOwnRow g root w s t row → IsNearRow g root w s t (Some row)
  Apart : ((k h : ℕ) → ¬ HaveCommonBlock w s t k h) → IsNearRow g root w s t None

-- a node's place is as the directions say
pub record IsPlaceOf (w : Directions) (v : ℕ) (place : Place) : Type 0 where
  pub head : place.head ≡ w.head v
  pub block : place.block ≡ w.block v
