-- The ends that links give a node.
use Rattle.std.specs.Prelude.{◌==◌, ◌+◌, ◌++◌, ℕ, List, [], ◌∷◌, if◌then◌else◌}
use Rattle.mrt_graph.specs.declared.link.End.{End}
use Rattle.mrt_graph.specs.declared.link.Link.{Link}
use Rattle.mrt_graph.specs.declared.link.LinkIn.{LinkIn}

-- the two nodes that a link is between
abbrev pub pair_of : LinkIn → Link
pair_of link = record { a = link.a; b = link.b }

-- the link's end at its node a, where the link has that number: with the metric and the link data at a
abbrev pub end_at_a : ℕ → LinkIn → End
end_at_a number link = record { link = number; to = link.b; metric = link.metric_a; link_data = link.data_a }

-- its end at its node b: with those at b
abbrev pub end_at_b : ℕ → LinkIn → End
end_at_b number link = record { link = number; to = link.a; metric = link.metric_b; link_data = link.data_b }

-- the end that a link with that number has at node n, if it touches n
abbrev pub end_at : ℕ → ℕ → LinkIn → List End
end_at n number link =
    if link.a == n then end_at_a number link ∷ [] else (if link.b == n then end_at_b number link ∷ [] else [])

-- the ends at node n of links that are numbered from that number on
abbrev pub ends_at : ℕ → ℕ → List LinkIn → List End
ends_at n number [] = []
ends_at n number (link ∷ links) = end_at n number link ++ ends_at n (number + 1) links
