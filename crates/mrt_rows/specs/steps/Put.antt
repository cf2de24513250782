-- Rows, whichever the others are.
use Rattle.std.specs.Prelude.{◌≡◌, ◌≢◌, ◌<◌, ℕ, Option, length}
use Rattle.mrt_graph.specs.declared.cert.Row.{Row}
use Rattle.mrt_graph.specs.GraphInvariant.{IsTopology}
use Rattle.mrt_graph.specs.Topology.{Topology}
use Rattle.link_direction.specs.CommonBlock.{HaveCommonBlock}
use Rattle.link_direction.specs.Directions.{Directions}
use Rattle.link_direction.specs.OrderedGadag.{IsOrderedGadag}
use Rattle.mrt_rows.specs.declared.row_over.FirstLinks.{FirstLinks}
use Rattle.mrt_rows.specs.RowLines.{HasOneLink, LineOf}
use Rattle.mrt_rows.specs.Put.{AreFirstLinks}

-- the common block of s and t, if they have one, has more than one link
abbrev pub NoneOfOneLink : Topology → Directions → ℕ → ℕ → Type 0
NoneOfOneLink g w s t = (k h link : ℕ) → HaveCommonBlock w s t k h → ¬ HasOneLink g w k link

-- the row of s for t is as the line of its tag says, whichever the other rows are
pub record IsOwnRow (g : Topology) (root : ℕ) (w : Directions) (s t : ℕ) (row : Row) : Type 0 where
  pub line : (rows : ℕ → Option Row) → LineOf row.tag g root w s rows t row

-- such is, in each graph, the row for another node of its block of a node with these first links to it, and home
pub record IsMemberRow (links home : FirstLinks) (row : Row) : Type 0 where
  pub own : (g : Topology) (root s t : ℕ) (w : Directions) → IsTopology g → IsOrderedGadag g root w
      → s < length g.ids → t < length g.ids → s ≢ t → w.block s ≡ w.block t
      → AreFirstLinks g w s t links → AreFirstLinks g w s (w.head s) home → IsOwnRow g root w s t row
