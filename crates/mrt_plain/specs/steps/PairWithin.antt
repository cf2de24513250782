-- Two nodes on links, all within a graph's count of nodes.
use Rattle.std.specs.Prelude.{◌<◌}
use Rattle.mrt_plain.specs.declared.pair.Pair.{Pair}
use Rattle.mrt_plain.specs.Within.{AreWithin}

-- each link is one between so many nodes, and the two are among them
pub record IsPairWithin (pair : Pair) : Type 0 where
  pub within : AreWithin pair.count pair.links.now
  pub source : pair.s < pair.count
  pub target : pair.t < pair.count
