-- What a walk uses.
use Rattle.std.specs.Prelude.{ℕ, List, [], ◌∷◌, Contains}
use Rattle.std.specs.Option.{option_map_or}
use Rattle.mrt_graph.specs.declared.link.Element.{Element}
use Rattle.mrt_graph.specs.declared.link.Element.TheVariants as elements
use Rattle.mrt_graph.specs.declared.link.Link.{Link}
use Rattle.mrt_graph.specs.Leads.{leads}

-- the nodes that a walk from s meets, in their order: s itself, and the node after each link
abbrev pub nodes_met : List Link → ℕ → List ℕ → List ℕ
nodes_met links s [] = s ∷ []
nodes_met links s (e ∷ es) = s ∷ option_map_or (λ v. nodes_met links v es) (leads links e s) []

-- a walk from s uses its links and all nodes that it meets, both ends among them
abbrev pub Uses : List Link → ℕ → List ℕ → Element → Type 0
Uses links s walk (elements.Link e) = Contains walk e
Uses links s walk (elements.Node x) = Contains (nodes_met links s walk) x
