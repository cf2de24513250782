-- Two color walks that share only what they must.
use Rattle.std.specs.Prelude.{ℕ, List}
use Rattle.mrt_graph.specs.declared.cert.Color.TheVariants.{Blue, Red}
use Rattle.mrt_graph.specs.declared.link.Element.{Element}
use Rattle.mrt_graph.specs.declared.link.Link.{Link}
use Rattle.mrt_graph.specs.ColorWalk.{color_walk}
use Rattle.mrt_graph.specs.Rows.{Rows}
use Rattle.mrt_graph.specs.Separates.{IsNeitherEnd, Separates}
use Rattle.mrt_graph.specs.Uses.{Uses}

-- each link that both color walks from s to t use, and each node other than s and t that both use, separates s and t; of a
-- walk that does not arrive, what it uses as far as it goes
abbrev pub Apart : List Link → ℕ → Rows → ℕ → ℕ → Type 0
Apart links n rows s t = (x : Element) → IsNeitherEnd x s t
    → Uses links s (color_walk links n rows Blue s t) x
    → Uses links s (color_walk links n rows Red s t) x
    → Separates links x s t
