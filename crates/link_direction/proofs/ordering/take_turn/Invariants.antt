use Rattle.std.proofs.Common.{◌≡◌, ℕ, Some, slice_get, vec_capacity}
use Rattle.link_direction.specs.steps.Counting.{IsTurn, IsUnderWay}
use Rattle.link_direction.proofs.ordering.take_turn.Given as goal

abbrev pub invariant-loop-end : goal.invariant-loop-end
invariant-loop-end l = record {
  on : (root place : ℕ) → slice_get l.initial.order.items place ≡ Some l.x
      → IsUnderWay l.g root l.marks place 0 l.initial.counts.items l.initial.order.items
      → IsUnderWay l.g root l.marks place l.end-index l.counts.items l.order.items;
  here : (place : ℕ) → slice_get l.initial.order.items place ≡ Some l.x → slice_get l.order.items place ≡ Some l.x;
  turn : IsTurn l.g l.marks l.x l.end-index l.counts.items l.order.items;
  room : vec_capacity l.order ≡ vec_capacity l.initial.order;
}
