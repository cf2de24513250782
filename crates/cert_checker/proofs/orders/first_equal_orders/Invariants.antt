use Rattle.std.proofs.Common.{◌≡◌, ◌<◌, ℕ, true, length}
use Rattle.mrt_graph.specs.RootAndOrders.{orders_differ}
use Rattle.cert_checker.proofs.orders.first_equal_orders.Given as goal

abbrev pub invariant-loop-a : goal.invariant-loop-a
invariant-loop-a l = (x y : ℕ) → x < l.a → y < length l.c.nodes → orders_differ l.c x y ≡ true
