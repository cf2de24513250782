-- The hop that a least cost makes.
use Rattle.std.specs.Prelude.{ℕ, Option, Some, None, nat_lt, if◌then◌else◌}
use Rattle.block_spf.specs.declared.reach.Hop.{Hop}
use Rattle.block_spf.specs.Rest.{far}

-- the hop of a least cost and its link; none where it is far
abbrev pub hop_by : ℕ → ℕ → Option Hop
hop_by cost link = if nat_lt cost far then Some (record { cost = cost; link = link }) else None
