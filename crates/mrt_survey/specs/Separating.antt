-- Which nodes separate others.
use Rattle.std.specs.Prelude.{◌<◌, ℕ, List}
use Rattle.mrt_graph.specs.declared.link.Element.TheVariants as elements
use Rattle.mrt_graph.specs.declared.link.Link.{Link}
use Rattle.mrt_graph.specs.Separates.{Separates}

-- of n nodes on these links, x separates two others
pub record SeparatesTwo (links : List Link) (n x : ℕ) : Type 0 where
  pub s : ℕ
  pub t : ℕ
  pub s_within : s < n
  pub t_within : t < n
  pub separates : Separates links (elements.Node x) s t
