-- Color walks.
use Rattle.std.specs.Prelude.{◌==◌, ℕ, zero, suc, List, [], ◌∷◌, Option, if◌then◌else◌}
use Rattle.std.specs.Option.{option_map_or}
use Rattle.mrt_graph.specs.declared.cert.Color.{Color}
use Rattle.mrt_graph.specs.declared.link.Link.{Link}
use Rattle.mrt_graph.specs.Hop.{Hop, color_hop}
use Rattle.mrt_graph.specs.Rows.{Rows}

-- the links that a packet goes over from s, each node giving its next hop: it stops at t, at a node that gives none,
-- or after that many links
abbrev pub links_followed : (ℕ → Option Hop) → ℕ → ℕ → ℕ → List ℕ
links_followed next t zero s = []
links_followed next t (suc most) s =
    if s == t then [] else option_map_or (λ hop. hop.link ∷ links_followed next t most hop.to) (next s) []

-- the color walk from s to t among n nodes: the links that it goes over, each from the row, for t, of the node where
-- the packet is; it stops at t, at a node that the link of its row does not touch, or after n links;
-- so it need not arrive
abbrev pub color_walk : List Link → ℕ → Rows → Color → ℕ → ℕ → List ℕ
color_walk links n rows color s t = links_followed (color_hop links rows color t) t n s
