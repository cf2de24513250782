use Rattle.std.proofs.Common.{◌≡◌, ◌<◌, ◌≤◌, ℕ, length}
use Rattle.block_spf.specs.steps.Known.{AreLanes, known_at}
use Rattle.block_spf.specs.steps.Opening.{IsKeptOnward}
use Rattle.block_spf.proofs.fan.keep_onward.Given as goal

abbrev pub invariant-loop-j : goal.invariant-loop-j
invariant-loop-j l = record {
  lanes : AreLanes l.from_costs l.from_places;
  onward : (k : ℕ) → k < l.j → IsKeptOnward l.opening l.x (length l.initial.from_costs) k (known_at l.initial.from_costs l.initial.from_places k)
      (known_at l.from_costs l.from_places k);
  same : (k : ℕ) → l.j ≤ k → known_at l.from_costs l.from_places k ≡ known_at l.initial.from_costs l.initial.from_places k;
}
