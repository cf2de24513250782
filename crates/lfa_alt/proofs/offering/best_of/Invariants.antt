use Rattle.std.proofs.Common.{◌≡◌, length}
use Rattle.primary_alt.specs.DistancesFrom.{AreDistancesFrom}
use Rattle.lfa_alt.specs.steps.Choosing.{AreBest}
use Rattle.lfa_alt.proofs.offering.best_of.Given as goal

abbrev pub invariant-loop-number : goal.invariant-loop-number
invariant-loop-number l = record {
  same : l.searches ≡ l.fn.searches;
  one_each : length l.near.known.items ≡ length l.searches.ids;
  near : AreDistancesFrom l.searches.arcs l.near.at l.near.known.items;
  best : AreBest l.searches l.fn.source l.destinations l.paths l.number l.best.items;
}
