-- A color walk that arrives.
use Rattle.std.specs.Prelude.{◌≢◌, ℕ, List, AllPairs}
use Rattle.mrt_graph.specs.declared.cert.Color.{Color}
use Rattle.mrt_graph.specs.declared.link.Link.{Link}
use Rattle.mrt_graph.specs.ColorWalk.{color_walk}
use Rattle.mrt_graph.specs.Rows.{Rows}
use Rattle.mrt_graph.specs.Uses.{nodes_met}
use Rattle.mrt_graph.specs.Walk.{Walk}

-- pairwise different
abbrev pub AreDifferent : List ℕ → Type 0
AreDifferent nodes = AllPairs (λ earlier later. earlier ≢ later) nodes

-- the color walk from s ends at t, and the nodes that it meets are pairwise different
pub record Reaches (links : List Link) (n : ℕ) (rows : Rows) (color : Color) (s t : ℕ) : Type 0 where
  pub ends_at_t : Walk links s (color_walk links n rows color s t) t
  pub no_node_twice : AreDifferent (nodes_met links s (color_walk links n rows color s t))
