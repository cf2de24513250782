-- The near rows of a certificate, source after source: those that are not Carried.
use Rattle.std.specs.Prelude.{◌≡◌, ◌≢◌, ◌-◌, ◌*◌, ℕ, List, Some, drop, filter, length, slice_get, take}
use Rattle.mrt_graph.specs.declared.cert.Row.{Row}
use Rattle.mrt_graph.specs.Certificate.{Certificate}
use Rattle.mrt_graph.specs.Tags.{is_near}
use Rattle.mrt_graph.specs.Topology.{Topology}
use Rattle.link_direction.specs.Directions.{Directions}
use Rattle.block_spf.specs.FirstLink.{no_link}
use Rattle.mrt_rows.specs.RowLines.{HasOneLink}

-- of the rows of node s in a certificate, those that are near, by ascending destination
abbrev pub near_rows_of : Certificate → ℕ → List Row
near_rows_of c s = filter is_near (take (length c.nodes - 1) (drop (s * (length c.nodes - 1)) c.rows))

-- of the rows of the nodes before s, those that are near, by ascending source, then by ascending destination
abbrev pub near_rows_before : Certificate → ℕ → List Row
near_rows_before c s = filter is_near (take (s * (length c.nodes - 1)) c.rows)

-- the one link of v's block; none where it has more links, or v is the root
pub record IsSoleOf (g : Topology) (w : Directions) (v link : ℕ) : Type 0 where
  pub sole : link ≢ no_link → HasOneLink g w (w.block v) link
  pub none : link ≡ no_link → (e : ℕ) → ¬ HasOneLink g w (w.block v) e

-- that of each node
pub record AreSoles (g : Topology) (w : Directions) (soles : List ℕ) : Type 0 where
  pub one_each : length soles ≡ length g.ids
  pub each : (v link : ℕ) → slice_get soles v ≡ Some link → IsSoleOf g w v link
