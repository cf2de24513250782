use Rattle.std.proofs.Common.{◌<◌, ◌≤◌, ℕ, get_or}
use Rattle.block_spf.proofs.fan.is_reached.Given as goal

abbrev pub invariant-loop-cost : goal.invariant-loop-cost
invariant-loop-cost l = (j : ℕ) → j < l.cost-index → l.least ≤ get_or l.cost-items j 0
