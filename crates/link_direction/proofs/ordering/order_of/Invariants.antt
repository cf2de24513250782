use Rattle.std.proofs.Common.{◌≤◌, ◌-◌, length, vec_capacity}
use Rattle.link_direction.specs.steps.Counting.{IsUnderWay}
use Rattle.link_direction.proofs.ordering.order_of.Given as goal

abbrev pub invariant-loop-place : goal.invariant-loop-place
invariant-loop-place l = record {
  under_way : IsUnderWay l.g l.fn.root l.marks l.place 0 l.counts.items l.order.items;
  room : length l.g.ids ≤ vec_capacity l.order;
}

abbrev pub decreases-loop-place : goal.decreases-loop-place
decreases-loop-place l = length l.g.ids - l.place
