-- Where a packet on a color goes next.
use Rattle.std.specs.Prelude.{ℕ, List, Option}
use Rattle.std.specs.Option.{option_and_then, option_map}
use Rattle.mrt_graph.specs.declared.cert.Color.{Color}
use Rattle.mrt_graph.specs.declared.link.Link.{Link}
use Rattle.mrt_graph.specs.Leads.{leads}
use Rattle.mrt_graph.specs.Rows.{Rows, link_of_color}

-- a link, and the node that it leads to
pub record Hop : Type 0 where
  pub link : ℕ
  pub to : ℕ

-- from s over link e, to its other node; none where the link does not touch s
abbrev pub hop_over : List Link → ℕ → ℕ → Option Hop
hop_over links s e = option_map (λ v. record { link = e; to = v }) (leads links e s)

-- from s on a color, for a packet with destination t: over the link of the color in the row of s for t
abbrev pub color_hop : List Link → Rows → Color → ℕ → ℕ → Option Hop
color_hop links rows color t s = option_and_then (λ row. hop_over links s (link_of_color color row)) (rows s t)
