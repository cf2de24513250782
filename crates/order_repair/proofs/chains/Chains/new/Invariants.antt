use Rattle.std.proofs.Common.{◌≡◌, ◌≤◌, length}
use Rattle.order_repair.specs.steps.Blocks.{AreChains}
use Rattle.order_repair.proofs.chains.Chains.new.Given as goal

abbrev pub invariant-loop-at : goal.invariant-loop-at
invariant-loop-at l = record {
  low : l.at ≤ length l.names;
  one_first_each : length l.firsts.items ≡ l.count;
  chained : AreChains l.names l.at l.firsts.items l.nexts.items;
}

abbrev pub decreases-loop-at : goal.decreases-loop-at
decreases-loop-at l = l.at
