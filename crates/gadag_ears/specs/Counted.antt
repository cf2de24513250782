-- Counted links.
use Rattle.std.specs.Prelude.{◌≡◌, ℕ, Some, List}
use Rattle.mrt_graph.specs.declared.cert.Role.TheVariants.{Closing}
use Rattle.mrt_graph.specs.declared.gadag.Mark.{Mark}
use Rattle.mrt_graph.specs.GadagFields.{role_at}
use Rattle.mrt_graph.specs.Leads.{leads}
use Rattle.mrt_graph.specs.Tails.{tail_at}
use Rattle.mrt_graph.specs.Topology.{Topology}

-- a counted link from u to v: an ear has given it this direction, and it is not closing
pub record IsCounted (g : Topology) (marks : List Mark) (e u v : ℕ) : Type 0 where
  pub away : tail_at g.links marks e ≡ Some u
  pub to : leads g.links e u ≡ Some v
  pub not_closing : ¬ (role_at marks e ≡ Some Closing)
