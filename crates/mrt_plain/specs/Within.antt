-- Links between the nodes of a graph.
use Rattle.std.specs.Prelude.{◌<◌, ℕ, List}
use Rattle.std.specs.List.{AllByRecursion}
use Rattle.mrt_graph.specs.declared.link.Link.{Link}

-- both nodes of a link are among n nodes
pub record IsLinkWithin (n : ℕ) (link : Link) : Type 0 where
  pub a : link.a < n
  pub b : link.b < n

-- each link is one between n nodes
abbrev pub AreWithin : ℕ → List Link → Type 0
AreWithin n links = AllByRecursion (IsLinkWithin n) links
