-- What separates two nodes.
use Rattle.std.specs.Prelude.{◌≢◌, ℕ, List, ⊤}
use Rattle.mrt_graph.specs.declared.link.Element.{Element}
use Rattle.mrt_graph.specs.declared.link.Element.TheVariants as elements
use Rattle.mrt_graph.specs.declared.link.Link.{Link}
use Rattle.mrt_graph.specs.Uses.{Uses}
use Rattle.mrt_graph.specs.Walk.{Walk}

-- a link, or a node other than s and t
abbrev pub IsNeitherEnd : Element → ℕ → ℕ → Type 0
IsNeitherEnd (elements.Link e) s t = ⊤
IsNeitherEnd (elements.Node x) s t = (x ≢ s) × (x ≢ t)

-- x is a link, or a node other than s and t, and every walk from s to t uses it; where no walk leads there, each does so
pub record Separates (links : List Link) (x : Element) (s t : ℕ) : Type 0 where
  pub between : IsNeitherEnd x s t
  pub on_every_walk : (walk : List ℕ) → Walk links s walk t → Uses links s walk x
