-- The first step of what is left of a walk.
use Rattle.std.specs.Prelude.{◌≡◌, ◌<◌, ◌-◌, ℕ, List, ◌∷◌, Option, Some}
use Rattle.mrt_graph.specs.declared.link.Link.{Link}
use Rattle.mrt_graph.specs.ColorWalk.{links_followed}
use Rattle.mrt_graph.specs.Hop.{Hop}
use Rattle.mrt_graph.specs.Leads.{leads}

-- what follows from `at`, over at most `most` links, begins with link e, which leads to node v
pub record IsNextHop (links : List Link) (n : ℕ) (next : ℕ → Option Hop) (t most at e v : ℕ) : Type 0 where
  pub some_left : 0 < most
  pub follows : links_followed next t most at ≡ e ∷ links_followed next t (most - 1) v
  pub leads_on : leads links e at ≡ Some v
  pub within : v < n
