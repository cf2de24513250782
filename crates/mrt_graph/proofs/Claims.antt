-- What is claimed of two nodes: both colors arrive, and share only what parts the two.
use Rattle.std.specs.Prelude.{◌≢◌, ◌<◌, ℕ, List, Option}
use Rattle.mrt_graph.specs.declared.link.Element.{Element}
use Rattle.mrt_graph.specs.Hop.{Hop}
use Rattle.mrt_graph.specs.Separates.{IsNeitherEnd}
use Rattle.mrt_graph.proofs.Blocks.{Words, Member, At, Related}
use Rattle.mrt_graph.proofs.Members.{Has}
use Rattle.mrt_graph.proofs.Trails.{Differ, Follows, On, Parts, nodes_on}

-- the hops that are followed from s arrive at t, and meet no node twice
pub record Way (next : ℕ → Option Hop) (t s : ℕ) : Type 0 where
  pub hops : List Hop
  pub follows : Follows next t s hops
  pub differ : Differ (nodes_on s hops)

-- both colors arrive, and each link and each node other than s and t that is on both parts the two
pub record Good (w : Words) (s t : ℕ) : Type 0 where
  pub blue : Way (w.blue t) t s
  pub red : Way (w.red t) t s
  pub apart : (x : Element) → IsNeitherEnd x s t → On s blue.hops x → On s red.hops x → Parts w.links x s t

-- the same of two related nodes, and all nodes met are in their common block or its head: m is a member of that block
pub record Near (w : Words) (s t : ℕ) : Type 0 where
  pub m : ℕ
  pub member : Member w m
  pub good : Good w s t
  pub blue_at : (x : ℕ) → Has (nodes_on s good.blue.hops) x → At w m x
  pub red_at : (x : ℕ) → Has (nodes_on s good.red.hops) x → At w m x

-- the claim on related pairs
abbrev pub NearClaim : Words → Type 0
NearClaim w = (s t : ℕ) → s < w.count → t < w.count → s ≢ t → Related w s t → Near w s t
