-- The color that repairs a failure.
use Rattle.std.specs.Prelude.{ℕ, List, Option, Some, None}
use Rattle.mrt_graph.specs.declared.cert.Color.{Color}
use Rattle.mrt_graph.specs.declared.cert.Color.TheVariants.{Blue, Red}
use Rattle.mrt_graph.specs.declared.link.Element.{Element}
use Rattle.mrt_graph.specs.declared.link.Link.{Link}
use Rattle.mrt_graph.specs.ColorWalk.{color_walk}
use Rattle.mrt_graph.specs.Rows.{Rows}
use Rattle.mrt_graph.specs.Separates.{IsNeitherEnd}
use Rattle.mrt_graph.specs.Uses.{Uses}

-- the color walk from s to t uses x
abbrev pub UsesOn : List Link → ℕ → Rows → ℕ → ℕ → Element → Color → Type 0
UsesOn links n rows s t x color = Uses links s (color_walk links n rows color s t) x

-- the alternate of s for t, where x has failed. Where nothing of the graph has failed, it is Blue. Where x is s or t, or
-- both color walks from s to t use x, there is none. Else it is Blue where the blue walk does not use x, and else Red
pub data IsAlternate (links : List Link) (n : ℕ) (rows : Rows) (s t : ℕ) : Option Element → Option Color → Type 0 where
  Outside : IsAlternate links n rows s t None (Some Blue)
  AtEnd : (x : Element) → ¬ IsNeitherEnd x s t → IsAlternate links n rows s t (Some x) None
  OnBoth : (x : Element) → IsNeitherEnd x s t → UsesOn links n rows s t x Blue → UsesOn links n rows s t x Red
      → IsAlternate links n rows s t (Some x) None
  ByBlue : (x : Element) → IsNeitherEnd x s t → ¬ UsesOn links n rows s t x Blue
      → IsAlternate links n rows s t (Some x) (Some Blue)
  ByRed : (x : Element) → IsNeitherEnd x s t → UsesOn links n rows s t x Blue → ¬ UsesOn links n rows s t x Red
      → IsAlternate links n rows s t (Some x) (Some Red)
